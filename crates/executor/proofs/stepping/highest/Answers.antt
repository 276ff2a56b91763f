-- The loop's invariant: the highest unvisited state is among those left.
use mathlib.Core.Path.{◌≡◌, sym, ap, ◌∙◌}
use Prim.Native.Nat.{◌+◌, ◌-◌}
use native.Mathlib.Omega.{arith}
use Rattle.visited.specs.Bits.{visited_at}
use Rattle.stack.specs.Stack.{held_at}
use Rattle.executor.specs.Next.{seen}
use Rattle.executor.proofs.Judging.{held_word, word_in_code}
use Rattle.executor.proofs.Waiting.{tops_none, tops_some, top_old}
use Rattle.executor.proofs.stepping.highest.Goals as goal

pub word_number-requires : goal.word_number-requires
word_number-requires c =
    let q = c.loop-i in
    let word = held_word c.args.im.now.words.now c.args.stack.now c.args.count (q.i - 1) c.requires.1 (omega (arith, c.loop-i-test.true)) in
    rw c.held_place-p.ensures (word_in_code c.args.im.now.words.now (held_at c.args.stack.now (q.i - 1)).place word)

pub loop-i-preserved : goal.loop-i-preserved
loop-i-preserved c =
    let a = c.args in
    let q = c.loop-i in
    let old = ap (seen a.im.now.words.now a.map.now) (sym c.held_place-p.ensures) ∙ ap (visited_at a.map.now) (sym c.word_number.ensures) ∙ sym c.contains.ensures ∙ c.if-not-contains.false in
    q.invariant ∙ top_old a.im.now.words.now a.map.now a.stack.now q.i (omega (arith, c.loop-i-test.true)) old

pub returns-then-not-contains : goal.returns-then-not-contains
returns-then-not-contains c =
    let a = c.args in
    let q = c.loop-i in
    let new = ap (seen a.im.now.words.now a.map.now) (sym c.held_place-p.ensures) ∙ ap (visited_at a.map.now) (sym c.word_number.ensures) ∙ sym c.contains.ensures ∙ c.if-not-contains.true in
    let left : q.i - 1 + 1 ≡ q.i = omega (arith, c.loop-i-test.true) in
    rw left (tops_some a.im.now.words.now a.map.now a.stack.now a.count q.i q.auto.i q.invariant (omega (arith, c.loop-i-test.true)) new)

pub returns : goal.returns
returns c =
    let a = c.args in
    let q = c.loop-i in
    tops_none a.im.now.words.now a.map.now a.stack.now a.count q.i q.auto.i q.invariant (omega (arith, c.loop-i-test.false))
