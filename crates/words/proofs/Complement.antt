-- The complement is what is left to a word of ones, and subf's sum is the difference.
-- Assumes nothing.
use Rattle.std.proofs.Common.{◌≡◌, ℕ, zero, suc, ◌+◌, ◌-◌, ◌/◌, ◌^◌, ◌<◌, refl, mod-lt, pow-suc, arith, lit<}
use Rattle.words.specs.Word.{bit}
use Rattle.words.specs.Bits.{number}
use Rattle.words.specs.Sums.{sum, complement_of, difference}
use Rattle.words.proofs.Number.{number_word}

-- bits and turned-over bits add up to ones
turned : (f : ℕ → ℕ) → ((i : ℕ) → f i < 2) → (n : ℕ) → number (λ (i : ℕ). 1 - f i) n + number f n + 1 ≡ 2 ^ n
unfolding number
turned f h zero = refl
turned f h (suc n) = omega (arith, turned f h n, h n, pow-suc 2 n)

what_is_left : (a c n : ℕ) → c + n + 1 ≡ 2 ^ 32 → n ≡ a → 4294967295 - a ≡ c
what_is_left a c n h e = omega arith

pub complement_law : (a : ℕ) → a < 2 ^ 32 → 4294967295 - a ≡ complement_of a
unfolding complement_of
complement_law a h =
    what_is_left a (complement_of a) (number (bit a) 32) (turned (bit a) (λ i. mod-lt (a / 2 ^ (31 - i)) (lit< tt)) 32) (number_word a h)

-- ¬a + b + 1 is b - a
pub subtract_law : (a b : ℕ) → a < 2 ^ 32 → b < 2 ^ 32 → sum (sum (complement_of a) b) 1 ≡ difference b a
subtract_law a b ha hb = omega (arith, complement_law a ha)
