-- The first of the numbers 0, 1, .. below a bound that a test holds of.
-- Assumes nothing.
use Rattle.std.specs.Prelude.{Bool, ℕ, zero, suc, Option, Some, None}
use Rattle.words.specs.Choice.{pick}

-- the first of n numbers from i on
unfoldable pub first_from : (ℕ → Bool) → ℕ → ℕ → Option ℕ
first_from p zero i = None
first_from p (suc n) i = pick (p i) (Some i) (first_from p n (suc i))

-- the first number below n
abbrev pub first : (ℕ → Bool) → ℕ → Option ℕ
first p n = first_from p n 0

-- by cases on what was found
abbrev pub on_found : {A : Type 0} → Option ℕ → (ℕ → A) → A → A
on_found (Some i) f z = f i
on_found None f z = z
