-- A search that passes numbers one by one.
-- Assumes nothing.
use mathlib.Core.Path.{◌≡◌, ap, ◌∙◌}
use mathlib.Core.Bool.{Bool}
use Prim.Native.Nat.{ℕ, ◌+◌, ◌≤◌, ◌<◌}
use native.Mathlib.Decide.{dec_lt}
use native.Mathlib.Omega.{arith}

pub none_passed : (p : ℕ → Bool) (b : Bool) (j : ℕ) (i : ℕ) → j ≤ i → i < j → p i ≡ b
none_passed p b j i l h = absurd (omega arith)

pub one_more_passed : (p : ℕ → Bool) (b : Bool) (j k : ℕ) → ((i : ℕ) → j ≤ i → i < k → p i ≡ b) → p k ≡ b → (i : ℕ) → j ≤ i → i < k + 1 → p i ≡ b
one_more_passed p b j k f e i l h =
    elim (dec_lt i k) [
      | yes d ↦ f i l d
      | no d ↦ let q : i ≡ k = omega arith in ap p q ∙ e
    ]
