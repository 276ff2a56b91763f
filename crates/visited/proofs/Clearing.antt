-- Clearing the first n bits: below n none is set, from n up each is as it was.
-- Assumes nothing.
use mathlib.Core.Path.{◌≡◌, refl, sym, ap, ◌∙◌}
use mathlib.Core.List.{List, [], ◌∷◌, ◌++◌, append_assoc, append-nil}
use Prim.Native.Nat.{ℕ, zero, suc, ◌+◌, ◌-◌, ◌*◌, ◌/◌, ◌%◌, ◌^◌, ◌≤◌, ◌<◌, min}
use native.Mathlib.Nat.{zero-div, zero-mul, div-eq_of_lt, div-mul-le_self, mod-eq_of_lt, lt_of_le_of_lt}
use native.Mathlib.Numerals.{add-one}
use native.Mathlib.Omega.{arith}
use lib.ListN.{length, get_or, set, take, drop, drop_of_length-le}
use lib.Seq.{take_all, take-suc-set, drop-set-lt, drop-cons}
use lib.Pow.{shl-shr, shr-shr}
use Rattle.visited.specs.Bits.{bit_at, without_low, cleared}
use Rattle.visited.proofs.BitLaws.{no_low_digit}

pub cleared_length : (ws : List ℕ) (n : ℕ) → length (cleared ws n) ≡ length ws
unfolding cleared
cleared_length [] n = refl
cleared_length (w ∷ ws) n = ap suc (cleared_length ws (n - 32))

-- word i of a cleared map
cleared_word : (ws : List ℕ) (n i : ℕ) → get_or (cleared ws n) i 0 ≡ without_low (get_or ws i 0) (min (n - i * 32) 32)
unfolding cleared
cleared_word [] n i = sym (ap (λ (x : ℕ). x * 2 ^ min (n - i * 32) 32) (zero-div (2 ^ min (n - i * 32) 32)) ∙ zero-mul (2 ^ min (n - i * 32) 32))
cleared_word (w ∷ ws) n zero = let e : n ≡ n - 0 * 32 = omega arith in ap (λ (k : ℕ). without_low w (min k 32)) e
cleared_word (w ∷ ws) n (suc i) =
    let e : n - 32 - i * 32 ≡ n - suc i * 32 = omega arith in
    cleared_word ws (n - 32) i ∙ ap (λ (k : ℕ). without_low (get_or ws i 0) (min k 32)) e

high_digit : (w k j : ℕ) → k ≤ j → without_low w k / 2 ^ j % 2 ≡ w / 2 ^ j % 2
high_digit w k j h =
    let e : j ≡ k + (j - k) = omega arith in
    rw (e, ← shr-shr (without_low w k) k (j - k), ← shr-shr w k (j - k), shl-shr)

pub cleared_below : (ws : List ℕ) (n b : ℕ) → b < n → bit_at (cleared ws n) b ≡ 0
cleared_below ws n b h =
    rw (cleared_word ws n (b / 32)) (no_low_digit (get_or ws (b / 32) 0 / 2 ^ min (n - b / 32 * 32) 32) (min (n - b / 32 * 32) 32) (b % 32) (omega arith))

pub cleared_keeps_rest : (ws : List ℕ) (n b : ℕ) → n ≤ b → bit_at (cleared ws n) b ≡ bit_at ws b
cleared_keeps_rest ws n b h =
    rw (cleared_word ws n (b / 32)) (high_digit (get_or ws (b / 32) 0) (min (n - b / 32 * 32) 32) (b % 32) (omega arith))

-- what the code computes of a word
pub shifted_out_and_in : (w k : ℕ) → w < 2 ^ 32 → w / 2 ^ k * 2 ^ k % 2 ^ 32 ≡ without_low w k
shifted_out_and_in w k h = mod-eq_of_lt (lt_of_le_of_lt (div-mul-le_self w (2 ^ k)) h)

pub all_cleared : (w : ℕ) → w < 2 ^ 32 → without_low w 32 ≡ 0
all_cleared w h = ap (λ (x : ℕ). x * 2 ^ 32) (div-eq_of_lt h) ∙ zero-mul (2 ^ 32)

-- words before i are done, those from i on are left
abbrev pub partly : List ℕ → ℕ → ℕ → List ℕ
partly ws n i = take i ws ++ cleared (drop i ws) (n - i * 32)

pub cleared_begins : (ws : List ℕ) (n : ℕ) → partly ws n 0 ≡ cleared ws n
cleared_begins ws n = let e : n - 0 * 32 ≡ n = omega arith in rw e

one_more : (ws : List ℕ) (n i : ℕ) → i < length ws → partly (set ws i (without_low (get_or ws i 0) (min (n - i * 32) 32))) n (i + 1) ≡ partly ws n i
unfolding cleared
one_more ws n i h =
    let v : ℕ = without_low (get_or ws i 0) (min (n - i * 32) 32) in
    let e : n - suc i * 32 ≡ n - i * 32 - 32 = omega arith in
    rw (add-one i, take-suc-set ws i v h, drop-set-lt (suc i) ws i v (omega arith), e, drop-cons ws i 0 h)
    (append_assoc (take i ws) (v ∷ []) (cleared (drop (suc i) ws) (n - i * 32 - 32)))

pub cleared_one_more : (ws₀ ws : List ℕ) (n i left v : ℕ) → i < length ws → left ≡ n - i * 32 → v ≡ without_low (get_or ws i 0) (min left 32)
    → partly ws n i ≡ cleared ws₀ n → partly (set ws i v) n (i + 1) ≡ cleared ws₀ n
cleared_one_more ws₀ ws n i left v h el ev inv = rw (ev, el) (one_more ws n i h ∙ inv)

pub cleared_ends : (ws : List ℕ) (n i : ℕ) → length ws ≤ i → partly ws n i ≡ ws
unfolding cleared
cleared_ends ws n i h = rw (take_all i ws h, drop_of_length-le ws h, append-nil)
