-- The bytes of a number stand for it, have their top bits right, and no shorter list of groups stands for it.
-- Assumes nothing.
use mathlib.Core.Path.{◌≡◌, refl, ap, ◌∙◌}
use mathlib.Core.Bool.{true}
use mathlib.Core.List.{List, [], ◌∷◌}
use Prim.Native.Nat.{ℕ, zero, suc, ◌+◌, ◌-◌, ◌*◌, ◌/◌, ◌%◌, ◌^◌, ◌≤◌, ◌<◌}
use native.Mathlib.Decide.{dec_lt}
use native.Mathlib.Omega.{arith}
use lib.ListN.{length}
use borrow.Author.Tests.{lt-ltb, le-leb}
use Rattle.varint.specs.Groups.{groups, varint}
use Rattle.varint.specs.Value.{value_of, marked}
use Rattle.varint.proofs.GroupLaws.{last_group, more_groups}

one_group_more : (k n : ℕ) → 128 ≤ n → groups (suc k) n ≡ (n % 128 + 128) ∷ groups k (n / 128)
one_group_more k n h =
    let e : suc k - 1 ≡ k = omega arith in
    more_groups (suc k) n (λ z. omega arith) h ∙ ap (λ (j : ℕ). (n % 128 + 128) ∷ groups j (n / 128)) e

-- the groups of a number stand for it
groups_value : (k n : ℕ) → n < 128 ^ k * 128 → value_of (groups k n) ≡ n
unfolding value_of
groups_value zero n h = rw (last_group 0 n (omega arith)) (omega arith)
groups_value (suc k) n h =
    elim (dec_lt n 128) [
      | yes l ↦ rw (last_group (suc k) n l) (omega arith)
      | no l ↦ rw (one_group_more k n (omega arith)) (omega (arith, groups_value k (n / 128) (omega arith)))
    ]

-- their top bits are set on all but the last
one_more_marked : (b : ℕ) (bs : List ℕ) → 128 ≤ b → b < 256 → marked bs ≡ true → marked (b ∷ bs) ≡ true
unfolding marked
one_more_marked b [] l h m = let z : ◌≡◌ {A = ℕ} 0 1 = cc in absurd (omega arith)
one_more_marked b (c ∷ bs) l h m = rw (le-leb 128 b l, lt-ltb b 256 h, m)

groups_marked : (k n : ℕ) → n < 128 ^ k * 128 → marked (groups k n) ≡ true
unfolding marked
groups_marked zero n h = rw (last_group 0 n (omega arith)) (lt-ltb n 128 (omega arith))
groups_marked (suc k) n h =
    elim (dec_lt n 128) [
      | yes l ↦ rw (last_group (suc k) n l) (lt-ltb n 128 l)
      | no l ↦
          rw (one_group_more k n (omega arith))
          (one_more_marked (n % 128 + 128) (groups k (n / 128)) (omega arith) (omega arith) (groups_marked k (n / 128) (omega arith)))
    ]

-- whatever groups stand for a number, they are no fewer
groups_fewest : (k n : ℕ) (bs : List ℕ) → n < 128 ^ k * 128 → value_of bs ≡ n → 1 ≤ length bs → length (groups k n) ≤ length bs
unfolding value_of
groups_fewest k n [] h v l = absurd (omega arith)
groups_fewest zero n (b ∷ bs) h v l = rw (last_group 0 n (omega arith)) (omega arith)
groups_fewest (suc k) n (b ∷ []) h v l = rw (last_group (suc k) n (omega arith)) (omega arith)
groups_fewest (suc k) n (b ∷ c ∷ bs) h v l =
    elim (dec_lt n 128) [
      | yes s ↦ rw (last_group (suc k) n s) (omega arith)
      | no s ↦ rw (one_group_more k n (omega arith)) (omega (arith, groups_fewest k (n / 128) (c ∷ bs) (omega arith) (omega arith) (omega arith)))
    ]

-- the three for what is written
pub varint_value : (n : ℕ) → n < 2 ^ 32 → value_of (varint n) ≡ n
varint_value n h = groups_value 4 n (omega arith)

pub varint_marked : (n : ℕ) → n < 2 ^ 32 → marked (varint n) ≡ true
varint_marked n h = groups_marked 4 n (omega arith)

pub varint_shortest : (n : ℕ) (bs : List ℕ) → n < 2 ^ 32 → value_of bs ≡ n → 1 ≤ length bs → length (varint n) ≤ length bs
varint_shortest n bs h v l = groups_fewest 4 n bs (omega arith) v l

-- document 01: 300 is AC 02
pub c13_300 : varint 300 ≡ 0xAC ∷ 0x02 ∷ []
unfolding groups
c13_300 = refl
