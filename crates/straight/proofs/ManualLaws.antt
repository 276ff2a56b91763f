-- The manual's bit-by-bit operations are the sums, rotations and masks that the port's definitions use.
-- Assumes nothing.
use mathlib.Core.Path.{◌≡◌, refl, sym, ap, ap₂, ◌∙◌}
use mathlib.Core.Bool.{Bool, true, false}
use Prim.Native.Nat.{ℕ, zero, suc, ◌+◌, ◌-◌, ◌*◌, ◌/◌, ◌%◌, ◌^◌, ◌≤◌, ◌<◌, min, max}
use native.Mathlib.Nat.{mod-lt, div-one}
use native.Mathlib.Omega.{arith}
use borrow.Author.Tests.{lt-ltb, le-ltb, ltb-true, ltb-false}
use lib.Dec.{ltb, eqb, eqb→eq, lit<}
use lib.Arith.{digits_mod, digits_div}
use lib.Bits.{bit_and, bit_or, or_step}
use Rattle.words.specs.Choice.{pick}
use Rattle.words.specs.Word.{bit, field, simm_of}
use Rattle.words.specs.Bits.{number, in_mask, mask_of, rotated}
use Rattle.words.specs.Sums.{complement_of}
use Rattle.words.proofs.Number.{number_ext, number_split, number_field, number_word, number_and}
use Rattle.words.proofs.Fields.{field_lt}
use Rattle.words.proofs.Tests.{all, below}
use Rattle.straight.specs.Manual.{exts, shifted_simm, uimm, not, or, masked, rotate_and_mask}

bit_lt : (w i : ℕ) → bit w i < 2
bit_lt w i = mod-lt (w / 2 ^ (31 - i)) (lit< tt)

-- sixteen bits that are all b
sixteen : (b : ℕ) → b < 2 → number (λ (i : ℕ). b) 16 ≡ b * 65535
unfolding number
sixteen zero h = refl
sixteen (suc zero) h = refl
sixteen (suc (suc b)) h = absurd (omega arith)

-- the lower half of a word
lower : (w : ℕ) → number (λ (i : ℕ). bit w (16 + i)) 16 ≡ field w 16 31
lower w = number_field w 16 16 (omega arith)

-- the sign bit of the lower half says whether it is below 2^15
by_sign : (w v : ℕ) → v ≡ field w 16 31 → (t : Bool) → ltb v (2 ^ 15) ≡ t → bit w 16 * 65535 * 2 ^ 16 + v ≡ pick t v (v + (2 ^ 32 - 2 ^ 16))
by_sign w v e true t = omega (arith, ltb-true v (2 ^ 15) t, div-one w)
by_sign w v e false t = omega (arith, ltb-false v (2 ^ 15) t, div-one w)

pub exts_law : (w : ℕ) → exts w ≡ simm_of w
unfolding exts
exts_law w =
    let f : ℕ → ℕ = λ (i : ℕ). bit w (max i 16) in
    number_split f 16 16
    ∙ ap₂ (λ (x y : ℕ). x * 2 ^ 16 + y)
    (number_ext f (λ (i : ℕ). bit w 16) 16 (λ i l. let e : max i 16 ≡ 16 = omega arith in ap (bit w) e) ∙ sixteen (bit w 16) (bit_lt w 16))
    (number_ext (λ (i : ℕ). f (16 + i)) (λ (i : ℕ). bit w (16 + i)) 16 (λ i l. let e : max (16 + i) 16 ≡ 16 + i = omega arith in ap (bit w) e) ∙ lower w)
    ∙ by_sign w (field w 16 31) refl (ltb (field w 16 31) (2 ^ 15)) refl

-- a chosen bit, below and from 16 on
below_16 : (a b : ℕ → ℕ) (i : ℕ) → i < 16 → pick (ltb i 16) (a i) (b i) ≡ a i
below_16 a b i h = rw (lt-ltb i 16 h)

from_16 : (a b : ℕ → ℕ) (i : ℕ) → pick (ltb (16 + i) 16) (a (16 + i)) (b (16 + i)) ≡ b (16 + i)
from_16 a b i = let h : 16 ≤ 16 + i = omega arith in rw (le-ltb (16 + i) 16 h)

-- the ones above a negative SIMM fall out
by_half : (v : ℕ) → v < 2 ^ 16 → (t : Bool) → v * 2 ^ 16 + 0 * 65535 ≡ pick t v (v + (2 ^ 32 - 2 ^ 16)) * 2 ^ 16 % 2 ^ 32
by_half v h true = omega arith
by_half v h false = omega arith

pub shifted_law : (w : ℕ) → shifted_simm w ≡ simm_of w * 2 ^ 16 % 2 ^ 32
unfolding shifted_simm
shifted_law w =
    let f : ℕ → ℕ = λ (i : ℕ). pick (ltb i 16) (bit w (i + 16)) 0 in
    number_split f 16 16
    ∙ ap₂ (λ (x y : ℕ). x * 2 ^ 16 + y)
    (number_ext f (λ (i : ℕ). bit w (16 + i)) 16 (λ i l. below_16 (λ (k : ℕ). bit w (k + 16)) (λ (k : ℕ). 0) i l ∙ (let e : i + 16 ≡ 16 + i = omega arith in ap (bit w) e)) ∙ lower w)
    (number_ext (λ (i : ℕ). f (16 + i)) (λ (i : ℕ). 0) 16 (λ i l. from_16 (λ (k : ℕ). bit w (k + 16)) (λ (k : ℕ). 0) i) ∙ sixteen 0 (omega arith))
    ∙ by_half (field w 16 31) (field_lt w 16 31) (ltb (field w 16 31) (2 ^ 15))

pub uimm_law : (w : ℕ) → uimm w ≡ field w 16 31
unfolding uimm
uimm_law w =
    let f : ℕ → ℕ = λ (i : ℕ). pick (ltb i 16) 0 (bit w i) in
    number_split f 16 16
    ∙ ap₂ (λ (x y : ℕ). x * 2 ^ 16 + y)
    (number_ext f (λ (i : ℕ). 0) 16 (λ i l. below_16 (λ (k : ℕ). 0) (bit w) i l) ∙ sixteen 0 (omega arith))
    (number_ext (λ (i : ℕ). f (16 + i)) (λ (i : ℕ). bit w (16 + i)) 16 (λ i l. from_16 (λ (k : ℕ). 0) (bit w) i) ∙ lower w)
    ∙ omega arith

pub not_law : (a : ℕ) → not a ≡ complement_of a
unfolding not complement_of
not_law a = refl

-- `or` works bit by bit
number_or : (f g : ℕ → ℕ) → ((i : ℕ) → f i < 2) → ((i : ℕ) → g i < 2) → (n : ℕ) → bit_or (number f n) (number g n) ≡ number (λ (i : ℕ). max (f i) (g i)) n
unfolding number
number_or f g hf hg zero = refl
number_or f g hf hg (suc n) =
    or_step (number f n * 2 + f n) (number g n * 2 + g n)
    ∙ ap₂ (λ (x y : ℕ). bit_or x y * 2 + max ((number f n * 2 + f n) % 2) ((number g n * 2 + g n) % 2)) (digits_div (number f n) (hf n)) (digits_div (number g n) (hg n))
    ∙ ap₂ (λ (x y : ℕ). bit_or (number f n) (number g n) * 2 + max x y) (digits_mod (number f n) (hf n)) (digits_mod (number g n) (hg n))
    ∙ ap (λ (x : ℕ). x * 2 + max (f n) (g n)) (number_or f g hf hg n)

pub or_law : (a b : ℕ) → a < 2 ^ 32 → b < 2 ^ 32 → or a b ≡ bit_or a b
unfolding or
or_law a b ha hb = sym (number_or (bit a) (bit b) (bit_lt a) (bit_lt b) 32) ∙ ap₂ bit_or (number_word a ha) (number_word b hb)

-- the two ways to say which bits a mask has agree, at each pair of ends and each bit: one test, which antt computes
same_bit : ℕ → ℕ → ℕ → Bool
same_bit b e i = eqb (pick (in_mask b e i) 1 0) (masked b e i)

same_row : ℕ → Bool
unfolding same_bit
same_row b = all (λ (e : ℕ). all (same_bit b e) 32) 32

mask_bit : (b e i : ℕ) → b < 32 → e < 32 → i < 32 → pick (in_mask b e i) 1 0 ≡ masked b e i
unfolding same_row same_bit
mask_bit b e i hb he hi =
    eqb→eq (pick (in_mask b e i) 1 0) (masked b e i)
    (below (same_bit b e) 32 (below (λ (k : ℕ). all (same_bit b k) 32) 32 (below same_row 32 tt b hb) e he) i hi)

one_or_none : (t : Bool) → pick t 1 0 < 2
one_or_none true = lit< tt
one_or_none false = lit< tt

pub rotate_law : (x n b e : ℕ) → b < 32 → e < 32 → rotate_and_mask x n b e ≡ bit_and (rotated x n) (mask_of b e)
unfolding rotate_and_mask rotated mask_of
rotate_law x n b e hb he =
    number_ext (λ (i : ℕ). min (bit x ((i + n) % 32)) (masked b e i)) (λ (i : ℕ). min (bit x ((i + n) % 32)) (pick (in_mask b e i) 1 0)) 32
    (λ i l. ap (min (bit x ((i + n) % 32))) (sym (mask_bit b e i hb he l)))
    ∙ sym (number_and (λ (i : ℕ). bit x ((i + n) % 32)) (λ (i : ℕ). pick (in_mask b e i) 1 0) (λ i. bit_lt x ((i + n) % 32)) (λ i. one_or_none (in_mask b e i)) 32)

-- a rotation by the low five bits is one by the whole number
pub rotate_low : (x n : ℕ) → rotated x (field n 27 31) ≡ rotated x n
unfolding rotated
rotate_low x n =
    number_ext (λ (i : ℕ). bit x ((i + field n 27 31) % 32)) (λ (i : ℕ). bit x ((i + n) % 32)) 32
    (λ i l. let e : (i + field n 27 31) % 32 ≡ (i + n) % 32 = omega (arith, div-one n) in ap (bit x) e)
