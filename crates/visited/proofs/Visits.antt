-- What a visit adds to the count of ones below n: one where it is the word's first, else nothing.
-- Assumes nothing.
use mathlib.Core.Path.{◌≡◌, refl, sym, ap, ◌∙◌}
use mathlib.Core.List.{List}
use Prim.Native.Nat.{ℕ, zero, suc, ◌+◌, ◌*◌, ◌≤◌, ◌<◌}
use native.Mathlib.Decide.{dec_lt, ℕ_discrete}
use native.Mathlib.Omega.{arith}
use lib.ListN.{length}
use Rattle.visited.specs.Bits.{bit_at, with_bit, cleared, ones_below}
use Rattle.visited.proofs.BitLaws.{inserted_is_set, insert_changes_no_other, inserted_past_end}
use Rattle.visited.proofs.Clearing.{cleared_below}

-- maps with the same bits below n have as many ones there
pub same_bits_same_count : (ws vs : List ℕ) (n : ℕ) → ((j : ℕ) → j < n → bit_at ws j ≡ bit_at vs j) → ones_below ws n ≡ ones_below vs n
unfolding ones_below
same_bits_same_count ws vs zero f = refl
same_bits_same_count ws vs (suc n) f =
    let here : bit_at ws n ≡ bit_at vs n = f n (omega arith) in
    omega (arith, here, same_bits_same_count ws vs n (λ j l. f j (omega arith)))

-- a bit from n up does not count below n
pub visit_from_n_up_adds_nothing : (ws : List ℕ) (b n : ℕ) → n ≤ b → ones_below (with_bit ws b) n ≡ ones_below ws n
visit_from_n_up_adds_nothing ws b n h = same_bits_same_count (with_bit ws b) ws n (λ j l. insert_changes_no_other ws b j (λ e. omega arith))

pub first_visit_adds_one : (ws : List ℕ) (b n : ℕ) → b < length ws * 32 → bit_at ws b ≡ 0 → b < n → ones_below (with_bit ws b) n ≡ ones_below ws n + 1
unfolding ones_below
first_visit_adds_one ws b zero r z h = absurd (omega arith)
first_visit_adds_one ws b (suc n) r z h =
    elim (ℕ_discrete n b) [
      | yes e ↦ rw (e, inserted_is_set ws b r, visit_from_n_up_adds_nothing ws b b (omega arith), z) (omega arith)
      | no ne ↦ rw (insert_changes_no_other ws b n ne, first_visit_adds_one ws b n r z (omega arith)) (omega arith)
    ]

again_changes_no_bit : (ws : List ℕ) (b j : ℕ) → bit_at ws b ≡ 1 → bit_at (with_bit ws b) j ≡ bit_at ws j
again_changes_no_bit ws b j o =
    elim (ℕ_discrete j b) [
      | no ne ↦ insert_changes_no_other ws b j ne
      | yes e ↦ elim (dec_lt b (length ws * 32)) [
        | yes r ↦ rw e (inserted_is_set ws b r ∙ sym o)
        | no r ↦ ap (λ (vs : List ℕ). bit_at vs j) (inserted_past_end ws b (omega arith))
      ]
    ]

pub visit_again_adds_nothing : (ws : List ℕ) (b n : ℕ) → bit_at ws b ≡ 1 → ones_below (with_bit ws b) n ≡ ones_below ws n
visit_again_adds_nothing ws b n o = same_bits_same_count (with_bit ws b) ws n (λ j l. again_changes_no_bit ws b j o)

-- a cleared map counts 0
pub cleared_counts_nothing : (ws : List ℕ) (n k : ℕ) → k ≤ n → ones_below (cleared ws n) k ≡ 0
unfolding ones_below
cleared_counts_nothing ws n zero h = refl
cleared_counts_nothing ws n (suc k) h = omega (arith, cleared_counts_nothing ws n k (omega arith), cleared_below ws n k (omega arith))
