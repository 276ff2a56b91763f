-- Tests at every number below a bound: one more, one that fails, and the rule at each.
-- Assumes nothing.
use mathlib.Core.Path.{◌≡◌, refl, sym, ap, ◌∙◌}
use mathlib.Core.Bool.{Bool, true, false, ◌&&◌}
use Prim.Native.Nat.{ℕ, zero, suc, ◌+◌, ◌<◌}
use native.Mathlib.Nat.{not-suc-le-zero}
use native.Mathlib.Numerals.{add-one}
use native.Mathlib.Decide.{dec_lt}
use native.Mathlib.Omega.{arith}
use Rattle.search.specs.Every.{every}

pub and_left : (a b : Bool) → a && b ≡ true → a ≡ true
and_left true b e = refl
and_left false b e = e

pub and_right : (a b : Bool) → a && b ≡ true → b ≡ true
and_right true b e = e
and_right false b e = let z : ◌≡◌ {A = ℕ} 0 1 = cc in absurd (omega arith)

pub and_false_left : (a b : Bool) → a ≡ false → a && b ≡ false
and_false_left a b e = rw e

pub and_false_right : (a b : Bool) → b ≡ false → a && b ≡ false
and_false_right true b e = e
and_false_right false b e = refl

pub and_true_right : (a b : Bool) → b ≡ true → a && b ≡ a
and_true_right true b e = e
and_true_right false b e = refl

-- none is tested yet
pub every_none : (p : ℕ → Bool) → every p 0 ≡ true
unfolding every
every_none p = refl

-- one more passes
pub every_more : (p : ℕ → Bool) (i : ℕ) → every p i ≡ true → p i ≡ true → every p (i + 1) ≡ true
unfolding every
every_more p i h e = rw (add-one i, h, e)

-- below n, or n itself
below_or_last : {A : Type 0} (n i : ℕ) → i < suc n → (i < n → A) → (i ≡ n → A) → Dec (i < n) → A
below_or_last n i h f g (yes l) = f l
below_or_last n i h f g (no l) = g (omega arith)

-- the rule at each number
pub every_at : (p : ℕ → Bool) (n i : ℕ) → every p n ≡ true → i < n → p i ≡ true
unfolding every
every_at p zero i t h = absurd (not-suc-le-zero h)
every_at p (suc n) i t h =
    below_or_last n i h
    (λ l. every_at p n i (and_left (every p n) (p n) t) l)
    (λ e. ap p e ∙ and_right (every p n) (p n) t)
    (dec_lt i n)

-- one that fails
pub every_fails : (p : ℕ → Bool) (n i : ℕ) → i < n → p i ≡ false → every p n ≡ false
unfolding every
every_fails p zero i h e = absurd (not-suc-le-zero h)
every_fails p (suc n) i h e =
    below_or_last n i h
    (λ l. and_false_left (every p n) (p n) (every_fails p n i l e))
    (λ q. and_false_right (every p n) (p n) (ap p (sym q) ∙ e))
    (dec_lt i n)

-- all were tested
pub every_done : (p : ℕ → Bool) (n i : ℕ) → i ≡ n → every p i ≡ true → every p n ≡ true
every_done p n i e h = ap (every p) (sym e) ∙ h
