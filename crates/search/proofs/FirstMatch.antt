-- What a first match is: it holds, it is below the bound, and none before it holds. And such a number is the first match.
-- Assumes nothing.
use Rattle.std.specs.Prelude.{Some, None}
use mathlib.Core.Path.{◌≡◌, refl, sym, ap, ◌∙◌}
use mathlib.Core.Bool.{Bool, true, false}
use Prim.Native.Nat.{ℕ, zero, suc, ◌+◌, ◌-◌, ◌≤◌, ◌<◌}
use native.Mathlib.Numerals.{add-one}
use native.Mathlib.Decide.{dec_lt}
use native.Mathlib.Omega.{arith}
use Rattle.words.specs.Choice.{pick}
use Rattle.search.specs.First.{first_from, first}
use Rattle.search.proofs.FirstLaws.{first_start, first_hit, first_miss, first_end}

-- i is the first match among the k numbers from n on
pub record MatchFrom (p : ℕ → Bool) (k n i : ℕ) : Type 0 where
  pub from : n ≤ i
  pub below : i < n + k
  pub holds : p i ≡ true
  pub first : (j : ℕ) → n ≤ j → j < i → p j ≡ false

at_once : (p : ℕ → Bool) (k n i : ℕ) → p n ≡ true → Some n ≡ Some i → MatchFrom p (suc k) n i
at_once p k n i t e =
    let q : n ≡ i = cc in
    record { from = omega arith; below = omega arith; holds = ap p (sym q) ∙ t; first = λ j l m. absurd (omega arith) }

one_later : (p : ℕ → Bool) (k n i : ℕ) → p n ≡ false → MatchFrom p k (suc n) i → MatchFrom p (suc k) n i
one_later p k n i t m =
    record {
      from = omega arith;
      below = omega arith;
      holds = m.holds;
      first = λ j l b. here_or_later j l b (dec_lt n j);
    }
  where
    here_or_later : (j : ℕ) → n ≤ j → j < i → Dec (n < j) → p j ≡ false
    here_or_later j l b (yes d) = m.first j d b
    here_or_later j l b (no d) = let q : j ≡ n = omega arith in ap p q ∙ t

by_test : (p : ℕ → Bool) (k n i : ℕ) (t : Bool) → p n ≡ t → (first_from p k (suc n) ≡ Some i → MatchFrom p k (suc n) i)
    → pick t (Some n) (first_from p k (suc n)) ≡ Some i → MatchFrom p (suc k) n i
by_test p k n i true e r m = at_once p k n i e m
by_test p k n i false e r m = one_later p k n i e (r m)

match_from : (p : ℕ → Bool) (k n i : ℕ) → first_from p k n ≡ Some i → MatchFrom p k n i
unfolding first_from
match_from p zero n i e = let z : ◌≡◌ {A = ℕ} 0 1 = cc in absurd (omega arith)
match_from p (suc k) n i e = by_test p k n i (p n) refl (λ m. match_from p k (suc n) i m) e

-- what is found is below the bound, holds, and is the first that does
pub first_below : (p : ℕ → Bool) (n i : ℕ) → first p n ≡ Some i → i < n
first_below p n i e = let m = match_from p n 0 i e in omega arith

pub first_holds : (p : ℕ → Bool) (n i : ℕ) → first p n ≡ Some i → p i ≡ true
first_holds p n i e = (match_from p n 0 i e).holds

pub none_before : (p : ℕ → Bool) (n i : ℕ) → first p n ≡ Some i → (j : ℕ) → j < i → p j ≡ false
none_before p n i e j l = (match_from p n 0 i e).first j (omega arith) l

-- numbers that do not hold are passed
passed : (p : ℕ → Bool) (n i : ℕ) → i ≤ n → ((j : ℕ) → j < i → p j ≡ false) → first p n ≡ first_from p (n - i) i
passed p n zero h f = first_start p n
passed p n (suc i) h f =
    passed p n i (omega arith) (λ j l. f j (omega arith)) ∙ first_miss p n i (omega arith) (f i (omega arith))
    ∙ ap (λ (k : ℕ). first_from p (n - k) k) (add-one i)

-- the number that holds after all that do not is found
pub first_at : (p : ℕ → Bool) (n i : ℕ) → i < n → ((j : ℕ) → j < i → p j ≡ false) → p i ≡ true → first p n ≡ Some i
first_at p n i h f e = passed p n i (omega arith) f ∙ first_hit p n i h e

-- where none holds nothing is found
pub first_none : (p : ℕ → Bool) (n : ℕ) → ((j : ℕ) → j < n → p j ≡ false) → first p n ≡ None
first_none p n f = passed p n n (omega arith) f ∙ first_end p n n (omega arith)
