-- First matches, as a loop meets them: a hit, a miss, the end; and what a first match is.
-- Assumes nothing.
use Rattle.std.specs.Prelude.{Some, None}
use mathlib.Core.Path.{◌≡◌, ◌∙◌}
use mathlib.Core.Bool.{Bool, true, false}
use Prim.Native.Nat.{ℕ, suc, ◌+◌, ◌-◌, ◌≤◌, ◌<◌}
use native.Mathlib.Omega.{arith}
use native.Mathlib.Numerals.{add-one}
use Rattle.words.specs.Choice.{pick}
use Rattle.search.specs.First.{first_from, first}

-- one number is looked at
first_step : (p : ℕ → Bool) (n i : ℕ) → i < n → first_from p (n - i) i ≡ pick (p i) (Some i) (first_from p (n - (i + 1)) (i + 1))
unfolding first_from
first_step p n i h =
    let e : n - i ≡ suc (n - (i + 1)) = omega arith in
    rw (e, add-one)

pub first_end : (p : ℕ → Bool) (n i : ℕ) → n ≤ i → first_from p (n - i) i ≡ None
unfolding first_from
first_end p n i h = let e : n - i ≡ 0 = omega arith in rw e

pub first_hit : (p : ℕ → Bool) (n i : ℕ) → i < n → p i ≡ true → first_from p (n - i) i ≡ Some i
first_hit p n i h e = first_step p n i h ∙ rw e

pub first_miss : (p : ℕ → Bool) (n i : ℕ) → i < n → p i ≡ false → first_from p (n - i) i ≡ first_from p (n - (i + 1)) (i + 1)
first_miss p n i h e = first_step p n i h ∙ rw e

-- a search begins
pub first_start : (p : ℕ → Bool) (n : ℕ) → first p n ≡ first_from p (n - 0) 0
first_start p n = let e : n - 0 ≡ n = omega arith in rw e
