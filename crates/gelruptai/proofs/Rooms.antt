-- A stack of `stack_words` has the room that it was asked for, and one of fewer words has less.
-- Assumes nothing.
use Prim.Native.Nat.{ℕ, ◌<◌, ◌≤◌}
use mathlib.Core.Path.{◌≡◌}
use native.Mathlib.Omega.{arith}
use Rattle.stack.specs.Stack.{room}
use Rattle.gelruptai.specs.Handed.{stack_words}

pub room_asked_for : (n : ℕ) → n ≤ 4294967295 → room (stack_words n) ≡ n
unfolding room
room_asked_for n h = omega (arith, h)

pub fewer_have_less : (n m : ℕ) → m < stack_words n → 0 < n → room m < n
unfolding room
fewer_have_less n m h h0 = omega (arith, h, h0)
