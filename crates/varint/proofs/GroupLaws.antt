-- The definitions of Groups, a case at a time.
-- Assumes nothing.
use mathlib.Core.Path.{◌≡◌, refl, ap, ◌∙◌}
use mathlib.Core.List.{List, [], ◌∷◌}
use Prim.Native.Nat.{ℕ, zero, suc, ◌+◌, ◌-◌, ◌*◌, ◌/◌, ◌%◌, ◌≤◌, ◌<◌}
use native.Mathlib.Omega.{arith}
use native.Mathlib.Decide.{dec_lt}
use native.Mathlib.Nat.{mod-eq_of_lt}
use lib.ListN.{length, get_or}
use borrow.Author.Tests.{lt-ltb, le-ltb, eq-eqb, ne_eqb}
use Rattle.std.specs.Prelude.{Some, None}
use Rattle.varint.specs.Groups.{groups, joined, read_groups}

pub last_group : (k n : ℕ) → n < 128 → groups k n ≡ n ∷ []
unfolding groups
last_group zero n h = rw (mod-eq_of_lt h)
last_group (suc k) n h = rw (lt-ltb n 128 h)

pub no_group : (k n : ℕ) → k ≡ 0 → groups k n ≡ (n % 128) ∷ []
unfolding groups
no_group k n h = ap (λ (j : ℕ). groups j n) h

pub more_groups : (k n : ℕ) → (k ≡ 0 → ⊥) → 128 ≤ n → groups k n ≡ (n % 128 + 128) ∷ groups (k - 1) (n / 128)
unfolding groups
more_groups zero n h l = absurd (h refl)
more_groups (suc k) n h l =
    let e : suc k - 1 ≡ k = omega arith in
    rw (le-ltb n 128 l, e)

module _ (s : List ℕ) (k at : ℕ) where
  pub read_end : length s ≤ at → read_groups s k at ≡ None
  unfolding read_groups
  read_end h = go k
    where
      go : (j : ℕ) → read_groups s j at ≡ None
      go zero = rw (le-ltb at (length s) h)
      go (suc j) = rw (le-ltb at (length s) h)

  pub read_last : at < length s → get_or s at 0 < 128 → read_groups s k at ≡ Some (get_or s at 0, at + 1)
  unfolding read_groups
  read_last h l = go k
    where
      go : (j : ℕ) → read_groups s j at ≡ Some (get_or s at 0, at + 1)
      go zero = rw (lt-ltb at (length s) h, lt-ltb (get_or s at 0) 128 l)
      go (suc j) = rw (lt-ltb at (length s) h, lt-ltb (get_or s at 0) 128 l)

  pub read_cut : at < length s → 128 ≤ get_or s at 0 → k ≡ 0 → read_groups s k at ≡ None
  unfolding read_groups
  read_cut h l z = ap (λ (j : ℕ). read_groups s j at) z ∙ rw (lt-ltb at (length s) h, le-ltb (get_or s at 0) 128 l)

  pub read_more : at < length s → 128 ≤ get_or s at 0 → (k ≡ 0 → ⊥) → read_groups s k at ≡ joined (get_or s at 0) (read_groups s (k - 1) (at + 1))
  unfolding read_groups
  read_more h l = go k
    where
      go : (j : ℕ) → (j ≡ 0 → ⊥) → read_groups s j at ≡ joined (get_or s at 0) (read_groups s (j - 1) (at + 1))
      go zero z = absurd (z refl)
      go (suc j) z =
          let e : suc j - 1 ≡ j = omega arith in
          rw (lt-ltb at (length s) h, le-ltb (get_or s at 0) 128 l, e)

pub joined_zero : (b m e : ℕ) → m ≡ 0 → joined b (Some (m, e)) ≡ None
joined_zero b m e h = rw (eq-eqb m 0 h)

pub joined_large : (b m e : ℕ) → 33554432 ≤ m → joined b (Some (m, e)) ≡ None
joined_large b m e h = rw (ne_eqb m 0 (λ z. omega arith), le-ltb m 33554432 h)

pub joined_fits : (b m e : ℕ) → (m ≡ 0 → ⊥) → m < 33554432 → joined b (Some (m, e)) ≡ Some (m * 128 + (b - 128), e)
joined_fits b m e z h = rw (ne_eqb m 0 z, lt-ltb m 33554432 h)

-- at most five bytes
pub groups_short : (k n : ℕ) → length (groups k n) ≤ k + 1
groups_short zero n = rw (no_group 0 n refl) (omega arith)
groups_short (suc k) n =
    elim (dec_lt n 128) [
      | yes h ↦ rw (last_group (suc k) n h) (omega arith)
      | no h ↦
          let one : suc k - 1 ≡ k = omega arith in
          rw (more_groups (suc k) n (λ e. omega arith) (omega arith), one) (omega (arith, groups_short k (n / 128)))
    ]
