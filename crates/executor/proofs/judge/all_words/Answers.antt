-- The loop's invariant: the states passed wait at words.
use mathlib.Core.Path.{sym, ap, ◌∙◌}
use Prim.Native.Nat.{ℕ}
use native.Mathlib.Omega.{arith}
use Rattle.search.proofs.EveryLaws.{every_none, every_more, every_fails, every_done}
use Rattle.stack.specs.Stack.{held_at}
use Rattle.executor.specs.Judge.{is_word}
use Rattle.executor.proofs.Waiting.{all_held}
use Rattle.executor.proofs.judge.all_words.Goals as goal

pub loop-i-init : goal.loop-i-init
loop-i-init c = every_none _

pub loop-i-preserved : goal.loop-i-preserved
loop-i-preserved c =
    let a = c.args in
    let q = c.loop-i in
    let word = ap (is_word a.im.now.words.now) (sym c.held_place.ensures) ∙ sym c.is_word.ensures ∙ c.if-not-is_word.false in
    every_more (λ (k : ℕ). is_word a.im.now.words.now (held_at a.stack.now k).place) q.i q.invariant word

pub returns-then-not-is_word : goal.returns-then-not-is_word
returns-then-not-is_word c =
    let a = c.args in
    let q = c.loop-i in
    let word = ap (is_word a.im.now.words.now) (sym c.held_place.ensures) ∙ sym c.is_word.ensures ∙ c.if-not-is_word.true in
    sym (all_held a.im.now.words.now a.stack.now a.count
    ∙ every_fails (λ (k : ℕ). is_word a.im.now.words.now (held_at a.stack.now k).place) a.count q.i (omega arith) word)

pub returns : goal.returns
returns c =
    let a = c.args in
    let q = c.loop-i in
    sym (all_held a.im.now.words.now a.stack.now a.count
    ∙ every_done (λ (k : ℕ). is_word a.im.now.words.now (held_at a.stack.now k).place) a.count q.i (omega arith) q.invariant)
