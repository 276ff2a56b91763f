-- The loop's invariant: the neighbours passed are in order.
use mathlib.Core.Bool.{true}
use mathlib.Core.Path.{◌≡◌}
use Prim.Native.Nat.{ℕ, ◌+◌, ◌-◌, ◌≤◌}
use lib.Dec.{leb}
use Rattle.search.specs.Every.{every}
use Rattle.stack.specs.Stack.{key_at}
use Rattle.stack.proofs.judge.is_ordered.Given as goal

abbrev pub invariant-loop-i : goal.invariant-loop-i
invariant-loop-i l = (l.i - 1 ≤ l.n - 1) × (every (λ (k : ℕ). leb (key_at l.words k) (key_at l.words (k + 1))) (l.i - 1) ≡ true)
