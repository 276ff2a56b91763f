-- The room of so many words: the table and the slots that it counts lie in them.
-- Assumes nothing.
use Prim.Native.Nat.{ℕ, ◌+◌, ◌*◌, ◌≤◌, ◌<◌}
use native.Mathlib.Omega.{arith}
use Rattle.slot.specs.Layout.{slot_size}
use Rattle.stack.specs.Stack.{room}

pub room_small : (n : ℕ) → room n ≤ 4294967295
unfolding room
room_small n = omega arith

-- where there is room for a slot, all words of the table and of every slot are there
pub room_fits : (n k : ℕ) → k < room n → 2 + room n + room n * slot_size ≤ n
unfolding room
room_fits n k h = omega arith
