-- Sets of registers as numbers: what is in them, and how shifts make them.
-- Assumes nothing.
use mathlib.Core.Path.{◌≡◌, refl, sym, ap, ◌∙◌, subst}
use mathlib.Core.Bool.{Bool, true, false, ◌||◌}
use Prim.Native.Nat.{ℕ, zero, suc, ◌+◌, ◌-◌, ◌*◌, ◌/◌, ◌%◌, ◌^◌, ◌<◌}
use native.Mathlib.Nat.{add_comm, one-mul, zero-mul, mod-eq_of_lt, pow-suc}
use native.Mathlib.Decide.{dec_lt}
use native.Mathlib.Omega.{arith}
use lib.Dec.{eqb, eqb→eq}
use lib.Bits.{bit_or}
use lib.Pow.{high, low, field, mod-mod-pow}
use Rattle.words.specs.Choice.{pick}
use Rattle.words.proofs.Tests.{all, below}
use Rattle.decoder.specs.Written.{writes, set_of, in_set, written_set}

-- `1 << d` is the set of register d: one test over the 32 registers
single : ℕ → Bool
unfolding set_of
single d = eqb (1 * 2 ^ d % 2 ^ 32) (set_of (λ (r : ℕ). eqb r d) 32)

pub one_register : (d : ℕ) → d < 32 → 1 * 2 ^ d % 2 ^ 32 ≡ set_of (λ (r : ℕ). eqb r d) 32
unfolding single set_of
one_register d h = eqb→eq (1 * 2 ^ d % 2 ^ 32) (set_of (λ (r : ℕ). eqb r d) 32) (below single 32 tt d h)

-- `1 << d | 1 << a` is the set of both: one test over the 1,024 pairs
double : ℕ → ℕ → Bool
unfolding set_of
double d a = eqb (bit_or (1 * 2 ^ d % 2 ^ 32) (1 * 2 ^ a % 2 ^ 32)) (set_of (λ (r : ℕ). (eqb r d) || (eqb r a)) 32)

doubles : ℕ → Bool
unfolding double
doubles d = all (double d) 32

pub two_registers : (d a : ℕ) → d < 32 → a < 32 → bit_or (1 * 2 ^ d % 2 ^ 32) (1 * 2 ^ a % 2 ^ 32) ≡ set_of (λ (r : ℕ). (eqb r d) || (eqb r a)) 32
unfolding double doubles set_of
two_registers d a hd ha =
    eqb→eq (bit_or (1 * 2 ^ d % 2 ^ 32) (1 * 2 ^ a % 2 ^ 32)) (set_of (λ (r : ℕ). (eqb r d) || (eqb r a)) 32) (below (double d) 32 (below doubles 32 tt d hd) a ha)

one_if : (b : Bool) (n : ℕ) → pick b n 0 ≡ pick b 1 0 * n
one_if true n = sym (one-mul n)
one_if false n = sym (zero-mul n)

one_if_lt : (b : Bool) → pick b 1 0 < 2
one_if_lt true = omega arith
one_if_lt false = omega arith

-- the set of a test, with the last register in front
set_of_suc : (f : ℕ → Bool) (n : ℕ) → set_of f (suc n) ≡ pick (f n) 1 0 * 2 ^ n + set_of f n
unfolding set_of
set_of_suc f n = ap (λ (m : ℕ). set_of f n + m) (one_if (f n) (2 ^ n)) ∙ add_comm (set_of f n) (pick (f n) 1 0 * 2 ^ n)

pub set_lt : (f : ℕ → Bool) (n : ℕ) → set_of f n < 2 ^ n
unfolding set_of
set_lt f zero = omega arith
set_lt f (suc n) = rw (set_of_suc, pow-suc) (digits_lt' (pick (f n) 1 0) (set_of f n) (2 ^ n) (one_if_lt (f n)) (set_lt f n))
  where
    digits_lt' : (b x m : ℕ) → b < 2 → x < m → b * m + x < m * 2
    digits_lt' zero x m h l = omega arith
    digits_lt' (suc zero) x m h l = omega arith
    digits_lt' (suc (suc b)) x m h l = absurd (omega arith)

-- a digit below place n does not see what stands from place n up
pub digit_low : (b n x r : ℕ) → x < 2 ^ n → r < n → (b * 2 ^ n + x) / 2 ^ r % 2 ≡ x / 2 ^ r % 2
digit_low b n x r hx hr =
    let y : ℕ = b * 2 ^ n + x in
    let j : ℕ = n - (1 + r) in
    let e : j + (1 + r) ≡ n = omega arith in
    let m : y % 2 ^ (1 + r) ≡ x % 2 ^ (1 + r) =
    sym (mod-mod-pow y j (1 + r)) ∙ ap (λ (k : ℕ). y % 2 ^ k % 2 ^ (1 + r)) e ∙ ap (λ (z : ℕ). z % 2 ^ (1 + r)) (low b n hx) in
    sym (field y 1 r) ∙ ap (λ (z : ℕ). z / 2 ^ r) m ∙ field x 1 r

digit : (f : ℕ → Bool) (n r : ℕ) → r < suc n → (r < n → set_of f n / 2 ^ r % 2 ≡ pick (f r) 1 0) → Dec (r < n) → set_of f (suc n) / 2 ^ r % 2 ≡ pick (f r) 1 0
digit f n r h ih (yes p) = ap (λ (z : ℕ). z / 2 ^ r % 2) (set_of_suc f n) ∙ digit_low (pick (f n) 1 0) n (set_of f n) r (set_lt f n) p ∙ ih p
digit f n r h ih (no q) =
    let e : n ≡ r = omega arith in
    subst (λ (k : ℕ). set_of f (suc n) / 2 ^ k % 2 ≡ pick (f k) 1 0) e
    (ap (λ (z : ℕ). z / 2 ^ n % 2) (set_of_suc f n) ∙ ap (λ (z : ℕ). z % 2) (high (pick (f n) 1 0) n (set_lt f n)) ∙ mod-eq_of_lt (one_if_lt (f n)))

digit_of : (f : ℕ → Bool) (n r : ℕ) → r < n → set_of f n / 2 ^ r % 2 ≡ pick (f r) 1 0
digit_of f zero r h = absurd (omega arith)
digit_of f (suc n) r h = digit f n r h (λ p. digit_of f n r p) (dec_lt r n)

one_is : (b : Bool) → eqb (pick b 1 0) 1 ≡ b
one_is true = refl
one_is false = refl

-- a register is in the set of a test exactly where the test holds
pub in_set_of : (f : ℕ → Bool) (n r : ℕ) → r < n → in_set (set_of f n) r ≡ f r
in_set_of f n r h = ap (λ (z : ℕ). eqb z 1) (digit_of f n r h) ∙ one_is (f r)

-- a register is in the set that a word writes exactly where the word writes it
pub in_written : (w r : ℕ) → r < 32 → in_set (written_set w) r ≡ writes w r
in_written w r h = in_set_of (writes w) 32 r h
