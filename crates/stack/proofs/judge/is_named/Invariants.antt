-- The loop's invariant: the numbers passed are low and new.
use mathlib.Core.Bool.{true, ◌&&◌}
use mathlib.Core.Path.{◌≡◌}
use Prim.Native.Nat.{ℕ}
use lib.Dec.{ltb}
use Rattle.search.specs.Every.{every}
use Rattle.stack.specs.Stack.{order_at}
use Rattle.stack.specs.Valid.{is_fresh}
use Rattle.stack.proofs.judge.is_named.Given as goal

abbrev pub invariant-loop-i : goal.invariant-loop-i
invariant-loop-i l = (every (λ (k : ℕ). (ltb (order_at l.words k) l.h) && (is_fresh l.words k)) l.i ≡ true)
