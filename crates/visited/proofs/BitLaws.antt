-- Inserting a bit sets that bit and changes no other.
-- Assumes nothing.
use mathlib.Core.Path.{◌≡◌, refl, sym, ap, ◌∙◌}
use mathlib.Core.List.{List}
use Prim.Native.Nat.{ℕ, zero, suc, ◌+◌, ◌-◌, ◌*◌, ◌/◌, ◌%◌, ◌^◌, ◌≤◌, ◌<◌, max}
use native.Mathlib.Nat.{div-eq_of_lt, div_self, max-zero, max-eq_right, one-mul, mul-mod_left, mod-lt, mod-eq_of_lt, mul-add-mod_self_right, pow-suc, zero-div}
use native.Mathlib.Decide.{dec_lt, ℕ_discrete}
use native.Mathlib.Numerals.{add-one}
use native.Mathlib.Omega.{arith}
use lib.ListN.{length, length-set, get_or-eq_default}
use lib.Seq.{get_or-set_same, get_or-set_other, set_out}
use lib.Pow.{pow_pos, pow-lt, pow-add, shl-shr, shl_exact}
use lib.Bits.{bit_or, or_shr, or_step}
use Rattle.visited.specs.Bits.{bit_at, with_bit, with_run}

-- `1 << k` at 32 bits
pub one_shl : (k : ℕ) → k < 32 → 1 * 2 ^ k % 4294967296 ≡ 2 ^ k
one_shl k h = shl_exact 1 k 32 (omega arith) (omega arith) ∙ one-mul (2 ^ k)

-- a multiple of 2^k has no digit below k
pub no_low_digit : (a k j : ℕ) → j < k → a * 2 ^ k / 2 ^ j % 2 ≡ 0
no_low_digit a k j h =
    let d : ℕ = k - j - 1 in
    let e : k ≡ suc d + j = omega arith in
    let m : a * (2 ^ suc d * 2 ^ j) ≡ a * 2 ^ d * 2 * 2 ^ j = rw pow-suc (omega arith) in
    rw (e, pow-add 2 (suc d) j, m, shl-shr) (mul-mod_left _ _)

-- the digits of a power of two
digit_same : (k : ℕ) → 2 ^ k / 2 ^ k % 2 ≡ 1
digit_same k = ap (λ (n : ℕ). n % 2) (div_self (pow_pos k))

digit_other : (k j : ℕ) → (j ≡ k → ⊥) → 2 ^ k / 2 ^ j % 2 ≡ 0
digit_other k j ne =
    elim (dec_lt k j) [
      | yes h ↦ ap (λ (n : ℕ). n % 2) (div-eq_of_lt (pow-lt h))
      | no h ↦ ap (λ (n : ℕ). n / 2 ^ j % 2) (sym (one-mul (2 ^ k))) ∙ no_low_digit 1 k j (omega arith)
    ]

-- a digit of an or is the larger of the two
or_digit : (w v j : ℕ) → bit_or w v / 2 ^ j % 2 ≡ max (w / 2 ^ j % 2) (v / 2 ^ j % 2)
or_digit w v j =
    rw or_shr
    (ap (λ (n : ℕ). n % 2) (or_step (w / 2 ^ j) (v / 2 ^ j))
    ∙ mul-add-mod_self_right (bit_or (w / 2 ^ j / 2) (v / 2 ^ j / 2)) 2 (max (w / 2 ^ j % 2) (v / 2 ^ j % 2))
    ∙ mod-eq_of_lt (omega (arith, mod-lt (w / 2 ^ j) {m = 2} (omega arith), mod-lt (v / 2 ^ j) {m = 2} (omega arith))))

pub bit_is_digit : (ws : List ℕ) (b : ℕ) → bit_at ws b < 2
bit_is_digit ws b = mod-lt _ {m = 2} (omega arith)

-- past the map's end no bit is set
pub no_bit_past_end : (ws : List ℕ) (b : ℕ) → length ws ≤ b / 32 → bit_at ws b ≡ 0
no_bit_past_end ws b h =
    ap (λ (x : ℕ). x / 2 ^ (b % 32) % 2) (get_or-eq_default ws 0 h) ∙ ap (λ (x : ℕ). x % 2) (zero-div (2 ^ (b % 32)))

pub inserted_past_end : (ws : List ℕ) (b : ℕ) → length ws ≤ b / 32 → with_bit ws b ≡ ws
inserted_past_end ws b h = set_out ws (b / 32) _ h

pub inserted_length : (ws : List ℕ) (b : ℕ) → length (with_bit ws b) ≡ length ws
inserted_length ws b = length-set ws (b / 32) _

pub inserted_is_set : (ws : List ℕ) (b : ℕ) → b < length ws * 32 → bit_at (with_bit ws b) b ≡ 1
inserted_is_set ws b h =
    rw (get_or-set_same ws (b / 32) _ 0 (omega arith), or_digit, digit_same) (max-eq_right (omega arith))

pub insert_changes_no_other : (ws : List ℕ) (b j : ℕ) → (j ≡ b → ⊥) → bit_at (with_bit ws b) j ≡ bit_at ws j
insert_changes_no_other ws b j ne =
    elim (ℕ_discrete (j / 32) (b / 32)) [
      | no h ↦ rw (get_or-set_other ws (b / 32) (j / 32) _ 0 h)
      | yes e ↦ elim (dec_lt (b / 32) (length ws)) [
        | yes l ↦
            let n : j % 32 ≡ b % 32 → ⊥ = λ q. ne (omega arith) in
            rw (e, get_or-set_same ws (b / 32) _ 0 l, or_digit, digit_other (b % 32) (j % 32) n, max-zero)
        | no l ↦ ap (λ (vs : List ℕ). bit_at vs j) (inserted_past_end ws b (omega arith))
      ]
    ]

-- a run as long as the map it is set in
pub run_length : (ws : List ℕ) (b k : ℕ) → length (with_run ws b k) ≡ length ws
unfolding with_run
run_length ws b zero = refl
run_length ws b (suc k) = inserted_length (with_run ws b k) (b + k) ∙ run_length ws b k

pub run_past_end : (ws : List ℕ) (b k : ℕ) → length ws ≤ b / 32 → with_run ws b k ≡ ws
unfolding with_run
run_past_end ws b zero h = refl
run_past_end ws b (suc k) h =
    ap (λ (vs : List ℕ). with_bit vs (b + k)) (run_past_end ws b k h) ∙ inserted_past_end ws (b + k) (omega arith)

pub run_one_more : (ws vs us : List ℕ) (b k : ℕ) → vs ≡ with_run ws b k → us ≡ with_bit vs (b + k) → us ≡ with_run ws b (k + 1)
unfolding with_run
run_one_more ws vs us b k e f = rw (add-one k) (f ∙ ap (λ (m : List ℕ). with_bit m (b + k)) e)

pub run_is_set : (ws : List ℕ) (b k j : ℕ) → b ≤ j → j < b + k → j < length ws * 32 → bit_at (with_run ws b k) j ≡ 1
unfolding with_run
run_is_set ws b zero j l h r = absurd (omega arith)
run_is_set ws b (suc k) j l h r =
    elim (ℕ_discrete j (b + k)) [
      | yes e ↦ ap (bit_at (with_bit (with_run ws b k) (b + k))) e ∙ inserted_is_set (with_run ws b k) (b + k) (rw (run_length ws b k) (omega arith))
      | no ne ↦ insert_changes_no_other (with_run ws b k) (b + k) j ne ∙ run_is_set ws b k j l (omega arith) r
    ]

pub run_changes_no_other : (ws : List ℕ) (b k j : ℕ) → (b ≤ j → b + k ≤ j) → bit_at (with_run ws b k) j ≡ bit_at ws j
unfolding with_run
run_changes_no_other ws b zero j h = refl
run_changes_no_other ws b (suc k) j h =
    insert_changes_no_other (with_run ws b k) (b + k) j (λ e. let f = h (omega arith) in absurd (omega arith))
    ∙ run_changes_no_other ws b k j (λ l. let f = h l in omega arith)
