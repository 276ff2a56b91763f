-- Numbers from their bits, read from left to right: each law once, over the bits and their count.
-- Assumes nothing.
use Rattle.std.proofs.Common.{◌≡◌, ℕ, zero, suc, ◌+◌, ◌-◌, ◌*◌, ◌/◌, ◌%◌, ◌^◌, ◌<◌, ◌≤◌, min, sym, refl, ap, ◌∙◌, ap₂, add-zero, add_assoc, add-suc, mod-eq_of_lt, mul_assoc, add-mul, pow-suc, mul-one, div-one, add-one, arith, shr-shr}
use native.Mathlib.Nat.{mod-one}
use lib.Arith.{digits_mod, digits_div, digits_lt}
use lib.Pow.{mod-pow-add}
use lib.Bits.{bit_and, and_step}
use Rattle.words.specs.Word.{bit}
use Rattle.words.specs.Bits.{number}

-- equal bits, equal numbers
pub number_ext : (f g : ℕ → ℕ) (n : ℕ) → ((i : ℕ) → i < n → f i ≡ g i) → number f n ≡ number g n
unfolding number
number_ext f g zero h = refl
number_ext f g (suc n) h = ap₂ (λ (x y : ℕ). x * 2 + y) (number_ext f g n (λ i l. h i (omega arith))) (h n (omega arith))

-- the first a bits stand above the b that follow
pub number_split : (f : ℕ → ℕ) (a b : ℕ) → number f (a + b) ≡ number f a * 2 ^ b + number (λ (i : ℕ). f (a + i)) b
unfolding number
number_split f a zero = ap (number f) (add-zero a) ∙ sym (add-zero (number f a * 1) ∙ mul-one (number f a))
number_split f a (suc b) =
    let l : ℕ = number (λ (i : ℕ). f (a + i)) b in
    ap (number f) (add-suc a b)
    ∙ ap (λ (x : ℕ). x * 2 + f (a + b)) (number_split f a b)
    ∙ ap (λ (x : ℕ). x + f (a + b)) (add-mul (number f a * 2 ^ b) l 2)
    ∙ add_assoc (number f a * 2 ^ b * 2) (l * 2) (f (a + b))
    ∙ ap (λ (x : ℕ). x + (l * 2 + f (a + b))) (mul_assoc (number f a) (2 ^ b) 2 ∙ ap (λ (x : ℕ). number f a * x) (sym (pow-suc 2 b)))

-- n bits of a word from a place on, as a quotient and a remainder
pub number_field : (w from n : ℕ) → from + n ≤ 32 → number (λ (i : ℕ). bit w (from + i)) n ≡ w / 2 ^ (32 - (from + n)) % 2 ^ n
unfolding number
number_field w from zero h = sym (mod-one (w / 2 ^ (32 - (from + 0))))
number_field w from (suc n) h =
    let k : ℕ = 31 - (from + n) in
    let e : 32 - (from + n) ≡ k + 1 = omega arith in
    let e' : 32 - (from + suc n) ≡ k = omega arith in
    ap (λ (x : ℕ). x * 2 + bit w (from + n)) (number_field w from n (omega arith) ∙ ap (λ (x : ℕ). w / 2 ^ x % 2 ^ n) e ∙ ap (λ (x : ℕ). x % 2 ^ n) (sym (shr-shr w k 1)))
    ∙ sym (mod-pow-add (w / 2 ^ k) n 1)
    ∙ ap₂ (λ (x y : ℕ). w / 2 ^ x % 2 ^ y) (sym e') (add-one n)

-- a word is its bits
pub number_word : (w : ℕ) → w < 2 ^ 32 → number (bit w) 32 ≡ w
number_word w h =
    number_ext (bit w) (λ (i : ℕ). bit w (0 + i)) 32 (λ i l. ap (bit w) (omega arith))
    ∙ number_field w 0 32 (omega arith) ∙ mod-eq_of_lt (omega arith) ∙ div-one w

-- a number made of n bits is below 2^n
module _ (f : ℕ → ℕ) (hf : (i : ℕ) → f i < 2) where
  pub number_lt : (n : ℕ) → number f n < 2 ^ n
  unfolding number
  number_lt zero = omega arith
  number_lt (suc n) = rw pow-suc (digits_lt (number_lt n) (hf n))

-- `and` works bit by bit
pub number_and : (f g : ℕ → ℕ) → ((i : ℕ) → f i < 2) → ((i : ℕ) → g i < 2) → (n : ℕ) → bit_and (number f n) (number g n) ≡ number (λ (i : ℕ). min (f i) (g i)) n
unfolding number
number_and f g hf hg zero = refl
number_and f g hf hg (suc n) =
    and_step (number f n * 2 + f n) (number g n * 2 + g n)
    ∙ ap₂ (λ (x y : ℕ). bit_and x y * 2 + min ((number f n * 2 + f n) % 2) ((number g n * 2 + g n) % 2)) (digits_div (number f n) (hf n)) (digits_div (number g n) (hg n))
    ∙ ap₂ (λ (x y : ℕ). bit_and (number f n) (number g n) * 2 + min x y) (digits_mod (number f n) (hf n)) (digits_mod (number g n) (hg n))
    ∙ ap (λ (x : ℕ). x * 2 + min (f n) (g n)) (number_and f g hf hg n)
