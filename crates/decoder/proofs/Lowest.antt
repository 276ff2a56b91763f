-- The lowest register of a set, and the set without it.
-- Assumes nothing.
use mathlib.Core.Path.{◌≡◌, refl, sym, ap, ◌∙◌, subst}
use mathlib.Core.Bool.{true, false}
use Prim.Native.Nat.{ℕ, zero, suc, ◌+◌, ◌-◌, ◌*◌, ◌/◌, ◌%◌, ◌^◌, ◌≤◌, ◌<◌}
use native.Mathlib.Nat.{div-one, pow-suc, add-mul, one-mul, mod-lt}
use native.Mathlib.Numerals.{one-add}
use native.Mathlib.Decide.{dec_lt}
use native.Mathlib.Omega.{arith}
use borrow.Author.Tests.{eq-eqb, eqb-true}
use lib.Dec.{eqb, lit<}
use lib.Count.{count_trailing_zeros, under}
use lib.Pow.{pow_pos, split, high, shr-shr}
use Rattle.decoder.specs.Written.{in_set, lowest_of}
use Rattle.decoder.proofs.Sets.{digit_low}

-- the digit above k trailing zeros is set
abbrev Lowest : ℕ → ℕ → ℕ → Type 0
Lowest k n t = (t < k) × (n / 2 ^ t % 2 ≡ 1)

lowest_by : (k n d : ℕ) → 0 < n → n % 2 ≡ d → (0 < n / 2 → Lowest k (n / 2) (count_trailing_zeros k (n / 2))) → Lowest (suc k) n (under d (count_trailing_zeros k (n / 2)))
lowest_by k n zero h e ih =
    let p : 0 < n / 2 = omega arith in
    let t : ℕ = count_trailing_zeros k (n / 2) in
    let b : t < k = (ih p).0 in
    (omega arith, ap (λ (x : ℕ). x % 2) (ap (λ (i : ℕ). n / 2 ^ i) (sym (one-add t)) ∙ sym (shr-shr n 1 t)) ∙ (ih p).1)
lowest_by k n (suc zero) h e ih = (omega arith, ap (λ (x : ℕ). x % 2) (div-one n) ∙ e)
lowest_by k n (suc (suc d)) h e ih = let l : n % 2 < 2 = mod-lt n (lit< tt) in absurd (omega arith)

lowest : (k n : ℕ) → 0 < n → n < 2 ^ k → Lowest k n (count_trailing_zeros k n)
unfolding count_trailing_zeros
lowest zero n h l = absurd (omega arith)
lowest (suc k) n h l =
    let l' : n < 2 ^ k * 2 = subst (λ (m : ℕ). n < m) (pow-suc 2 k) l in
    let half : n / 2 < 2 ^ k = omega arith in
    lowest_by k n (n % 2) h refl (λ p. lowest k (n / 2) p half)

module _ (s : ℕ) (some : 0 < s) (word : s < 2 ^ 32) where
  pub lowest_lt : (lowest_of s).register < 32
  lowest_lt = (lowest 32 s some word).0

  pub lowest_in : in_set s (lowest_of s).register ≡ true
  lowest_in = eq-eqb (s / 2 ^ count_trailing_zeros 32 s % 2) 1 (lowest 32 s some word).1

-- a register that is in a set, taken out of it
module _ (s r : ℕ) (h : in_set s r ≡ true) where
  abbrev above : ℕ
  above = s / 2 ^ r / 2

  odd : s / 2 ^ r ≡ above * 2 + 1
  odd = omega (arith, eqb-true (s / 2 ^ r % 2) 1 h)

  whole : (above * 2 + 1) * 2 ^ r + s % 2 ^ r ≡ s
  whole = ap (λ (x : ℕ). x * 2 ^ r + s % 2 ^ r) (sym odd) ∙ split s r

  pub at_least : 2 ^ r ≤ s
  at_least = let e = add-mul (above * 2) 1 (2 ^ r) in let o = one-mul (2 ^ r) in let w = whole in omega arith

  taken_out : s - 2 ^ r ≡ above * 2 * 2 ^ r + s % 2 ^ r
  taken_out = let e = add-mul (above * 2) 1 (2 ^ r) in let o = one-mul (2 ^ r) in let w = whole in omega arith

  low_part : s % 2 ^ r < 2 ^ r
  low_part = mod-lt s (pow_pos r)

  higher : (x k : ℕ) → x / 2 ^ r / 2 ≡ above → r < k → x / 2 ^ k ≡ above / 2 ^ (k - suc r)
  higher x k e l =
      let j : ℕ = k - suc r in
      let g : r + (1 + j) ≡ k = omega arith in
      ap (λ (i : ℕ). x / 2 ^ i) (sym g) ∙ sym (shr-shr x r (1 + j)) ∙ sym (shr-shr (x / 2 ^ r) 1 j) ∙ ap (λ (y : ℕ). y / 2 ^ j) e

  rest_above : (s - 2 ^ r) / 2 ^ r / 2 ≡ above
  rest_above = let e : (s - 2 ^ r) / 2 ^ r ≡ above * 2 = ap (λ (x : ℕ). x / 2 ^ r) taken_out ∙ high (above * 2) r low_part in omega arith

  other_digit : (k : ℕ) → (k ≡ r → ⊥) → Dec (k < r) → (s - 2 ^ r) / 2 ^ k % 2 ≡ s / 2 ^ k % 2
  other_digit k ne (yes p) =
      ap (λ (x : ℕ). x / 2 ^ k % 2) taken_out
      ∙ digit_low (above * 2) r (s % 2 ^ r) k low_part p
      ∙ sym (digit_low (above * 2 + 1) r (s % 2 ^ r) k low_part p)
      ∙ ap (λ (x : ℕ). x / 2 ^ k % 2) whole
  other_digit k ne (no q) =
      let l : r < k = omega arith in
      ap (λ (x : ℕ). x % 2) (higher (s - 2 ^ r) k rest_above l ∙ sym (higher s k refl l))

  pub without_other : (k : ℕ) → (k ≡ r → ⊥) → in_set (s - 2 ^ r) k ≡ in_set s k
  without_other k ne = ap (λ (x : ℕ). eqb x 1) (other_digit k ne (dec_lt k r))

  pub without_same : in_set (s - 2 ^ r) r ≡ false
  without_same = ap (λ (x : ℕ). eqb (x % 2) 1) (ap (λ (x : ℕ). x / 2 ^ r) taken_out ∙ high (above * 2) r low_part) ∙ ap (λ (x : ℕ). eqb x 1) even
    where
      even : above * 2 % 2 ≡ 0
      even = omega arith

  pub without_less : s - 2 ^ r < s
  without_less = let a = at_least in let p = pow_pos r in omega arith
