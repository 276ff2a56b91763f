-- The library's rotation, two shifts and an or, is the manual's.
-- Assumes nothing.
use Rattle.std.proofs.Common.{◌≡◌, ℕ, ◌+◌, ◌-◌, ◌*◌, ◌/◌, ◌%◌, ◌^◌, ◌<◌, sym, ap, ◌∙◌, subst, ap₂, add-zero, mod-eq_of_lt, add_comm, div-one, mul-one, arith, shr_lt}
use native.Mathlib.Nat.{mul-mod_left}
use native.Mathlib.Decide.{ℕ_discrete as dec_eq}
use Rattle.std.specs.Int.{w32, rotate_left}
use lib.Pow.{shl-shr, mod-pow-add}
use lib.Bits.{bit_or, or_self, or_shifted}
use Rattle.words.specs.Word.{bit}
use Rattle.words.specs.Bits.{number, rotated}
use Rattle.words.proofs.Number.{number_ext, number_split, number_field, number_word}

-- by 0, or any multiple of 32: the word itself
rotate_none : (x n : ℕ) → x < 2 ^ 32 → n % 32 ≡ 0 → x ≡ rotated x n
unfolding rotated
rotate_none x n h e = sym (number_ext (λ (i : ℕ). bit x ((i + n) % 32)) (bit x) 32 (λ i l. ap (bit x) (omega arith)) ∙ number_word x h)

-- what a shift to the left by s keeps, of a word of d + s bits
shl_keeps : (x d s : ℕ) → x * 2 ^ s % 2 ^ (d + s) ≡ x % 2 ^ d * 2 ^ s
shl_keeps x d s =
    mod-pow-add (x * 2 ^ s) d s
    ∙ ap₂ (λ (y z : ℕ). y % 2 ^ d * 2 ^ s + z) (shl-shr x s) (mul-mod_left x (2 ^ s))
    ∙ add-zero (x % 2 ^ d * 2 ^ s)

rotate_some : (x n : ℕ) → x < 2 ^ 32 → (n % 32 ≡ 0 → ⊥) → bit_or (x * 2 ^ (n % 32) % 2 ^ 32) (x / 2 ^ (32 - n % 32)) ≡ rotated x n
unfolding rotated
rotate_some x n h ne =
    let s : ℕ = n % 32 in
    let d : ℕ = 32 - n % 32 in
    let ds : d + s ≡ 32 = omega arith in
    let sd : 32 - (s + d) ≡ 0 = omega arith in
    let s0 : 32 - (0 + s) ≡ d = omega arith in
    let f : ℕ → ℕ = λ (i : ℕ). bit x ((i + n) % 32) in
    let hi : number f d ≡ x % 2 ^ d =
    number_ext f (λ (i : ℕ). bit x (s + i)) d (λ i l. ap (bit x) (omega arith)) ∙ number_field x s d (omega arith)
    ∙ ap (λ (k : ℕ). x / 2 ^ k % 2 ^ d) sd ∙ ap (λ (y : ℕ). y % 2 ^ d) (div-one x) in
    let top : x / 2 ^ d < 2 ^ s = shr_lt s d (subst (λ (k : ℕ). x < 2 ^ k) (sym (add_comm s d ∙ ds)) h) in
    let lo : number (λ (i : ℕ). f (d + i)) s ≡ x / 2 ^ d =
    number_ext (λ (i : ℕ). f (d + i)) (λ (i : ℕ). bit x (0 + i)) s (λ i l. ap (bit x) (omega arith)) ∙ number_field x 0 s (omega arith)
    ∙ ap (λ (k : ℕ). x / 2 ^ k % 2 ^ s) s0 ∙ mod-eq_of_lt top in
    ap (λ (y : ℕ). bit_or y (x / 2 ^ d)) (ap (λ (k : ℕ). x * 2 ^ s % 2 ^ k) (sym ds) ∙ shl_keeps x d s)
    ∙ or_shifted (x % 2 ^ d) s (x / 2 ^ d) top
    ∙ ap₂ (λ (y z : ℕ). y * 2 ^ s + z) (sym hi) (sym lo)
    ∙ sym (number_split f d s)
    ∙ ap (number f) ds

-- by 0 both shifts of the library's rotation keep the word
rotate_zero : (x n : ℕ) → x < 2 ^ 32 → n % 32 ≡ 0 → rotate_left w32 x n ≡ x
rotate_zero x n h e =
    ap₂ bit_or (ap (λ (k : ℕ). x * 2 ^ k % 2 ^ 32) e ∙ mod-eq_of_lt (omega arith) ∙ mul-one x) (ap (λ (k : ℕ). x / 2 ^ ((32 - k) % 32)) e ∙ div-one x)
    ∙ or_self x

rotate_by : (x n : ℕ) → x < 2 ^ 32 → Dec (n % 32 ≡ 0) → rotate_left w32 x n ≡ rotated x n
rotate_by x n h (yes e) = rotate_zero x n h e ∙ rotate_none x n h e
rotate_by x n h (no ne) =
    let k : (32 - n % 32) % 32 ≡ 32 - n % 32 = mod-eq_of_lt (omega arith) in
    ap (λ (k : ℕ). bit_or (x * 2 ^ (n % 32) % 2 ^ 32) (x / 2 ^ k)) k ∙ rotate_some x n h ne

-- the library's rotation, by any number
pub rotate_law : (x n : ℕ) → x < 2 ^ 32 → rotate_left w32 x n ≡ rotated x n
rotate_law x n h = rotate_by x n h (dec_eq (n % 32) 0)
