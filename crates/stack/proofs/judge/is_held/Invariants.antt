-- The loop's invariant: the slots passed are well written.
use mathlib.Core.Bool.{true}
use mathlib.Core.Path.{◌≡◌}
use Prim.Native.Nat.{ℕ}
use Rattle.search.specs.Every.{every}
use Rattle.slot.specs.Layout.{is_slot}
use Rattle.stack.specs.Stack.{slot_at, order_at}
use Rattle.stack.proofs.judge.is_held.Given as goal

abbrev pub invariant-loop-i : goal.invariant-loop-i
invariant-loop-i l = (every (λ (k : ℕ). is_slot l.words (slot_at l.words (order_at l.words k))) l.i ≡ true)
