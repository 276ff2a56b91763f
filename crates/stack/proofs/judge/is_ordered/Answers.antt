-- The loop's invariant: the neighbours passed are in order.
use mathlib.Core.Bool.{Bool, true}
use mathlib.Core.Path.{◌≡◌, sym, ap, ◌∙◌}
use Prim.Native.Nat.{ℕ, ◌+◌, ◌-◌}
use native.Mathlib.Omega.{arith}
use lib.Dec.{leb}
use borrow.Author.Tests.{le-leb, lt-leb}
use Rattle.search.proofs.EveryLaws.{every_none, every_more, every_fails}
use Rattle.search.specs.Every.{every}
use Rattle.stack.specs.Stack.{key_at}
use Rattle.stack.proofs.judge.is_ordered.Goals as goal

pub loop-i-init : goal.loop-i-init
loop-i-init c = (omega arith, every_none _)

pub returns-then-key_at : goal.returns-then-key_at
returns-then-key_at c =
    let ws = c.args.words.now in
    let j : ℕ = c.loop-i.i - 1 in
    let next : j + 1 ≡ c.loop-i.i = omega arith in
    sym (every_fails (λ (k : ℕ). leb (key_at ws k) (key_at ws (k + 1))) (c.args.n - 1) j (omega arith)
    (rw next (lt-leb (key_at ws j) (key_at ws c.loop-i.i) (omega (arith, c.if-key_at.true, c.key_at.ensures, c.key_at-in-loop-i.ensures)))))

pub loop-i-preserved : goal.loop-i-preserved
loop-i-preserved c =
    let ws = c.args.words.now in
    let j : ℕ = c.loop-i.i - 1 in
    let next : j + 1 ≡ c.loop-i.i = omega arith in
    let p : ℕ → Bool = λ k. leb (key_at ws k) (key_at ws (k + 1)) in
    let more : every p (j + 1) ≡ true = every_more p j c.loop-i.invariant.1 (rw next (le-leb (key_at ws j) (key_at ws c.loop-i.i) (omega (arith, c.if-key_at.false, c.key_at.ensures, c.key_at-in-loop-i.ensures)))) in
    let same : c.loop-i.i + 1 - 1 ≡ j + 1 = omega arith in
    (omega arith, ap (every p) same ∙ more)

pub returns : goal.returns
returns c =
    let ws = c.args.words.now in
    let last : c.args.n - 1 ≡ c.loop-i.i - 1 = omega arith in
    sym (ap (every (λ k. leb (key_at ws k) (key_at ws (k + 1)))) last ∙ c.loop-i.invariant.1)
