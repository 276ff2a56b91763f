-- An address lies in a section exactly where its distance from the start is below the size.
-- Assumes nothing.
use mathlib.Core.Path.{◌≡◌, sym, ◌∙◌}
use Prim.Native.Nat.{ℕ, ◌+◌, ◌-◌, ◌≤◌}
use native.Mathlib.Omega.{arith}
use native.Mathlib.Decide.{dec_lt}
use lib.Dec.{ltb}
use borrow.Author.Tests.{lt-ltb, le-ltb}

pub ltb_sub : (a s v : ℕ) → a ≤ v → ltb (v - a) s ≡ ltb v (a + s)
ltb_sub a s v h =
    elim (dec_lt (v - a) s) [
      | yes l ↦ lt-ltb (v - a) s l ∙ sym (lt-ltb v (a + s) (omega arith))
      | no l ↦ le-ltb (v - a) s (omega arith) ∙ sym (le-ltb v (a + s) (omega arith))
    ]
