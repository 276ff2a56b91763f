-- Bytes that stand at a place of a list; and that a number reads there exactly where its bytes stand there.
-- Assumes nothing.
use mathlib.Core.Path.{◌≡◌, refl, sym, ap, ap₂, ◌∙◌}
use mathlib.Core.List.{List, [], ◌∷◌}
use Prim.Native.Nat.{ℕ, zero, suc, ◌+◌, ◌-◌, ◌*◌, ◌/◌, ◌%◌, ◌^◌, ◌≤◌, ◌<◌}
use native.Mathlib.Decide.{dec_lt, ℕ_discrete}
use native.Mathlib.Omega.{arith}
use native.Mathlib.Numerals.{add-one}
use lib.ListN.{length, get_or}
use Rattle.std.specs.Prelude.{Some, None}
use Rattle.varint.specs.Groups.{Read, groups, varint, joined, read_groups, number_at}
use Rattle.varint.proofs.GroupLaws.{last_group, more_groups, read_end, read_last, read_cut, read_more, joined_zero, joined_large, joined_fits}

-- the bytes xs stand in s from at on
abbrev pub Stands : List ℕ → ℕ → List ℕ → Type 0
Stands s at [] = at ≤ length s
Stands s at (x ∷ xs) = (at < length s) × ((get_or s at 0 ≡ x) × Stands s (suc at) xs)

-- every number of the list is a byte
abbrev pub Bytes : List ℕ → Type 0
Bytes s = (i : ℕ) → get_or s i 0 < 256

pub never : {n e : ℕ} (r : Read) → r ≡ None → r ≡ Some (n, e) → ⊥
never r p q = let z : ◌≡◌ {A = ℕ} 0 1 = cc in omega arith

-- a pair that was read has its parts
read_pair : Read → ℕ × ℕ
read_pair (Some p) = p
read_pair None = (0, 0)

pub same_read : {m e n f : ℕ} → ◌≡◌ {A = Read} (Some (m, e)) (Some (n, f)) → (m ≡ n) × (e ≡ f)
unfolding read_pair
same_read h = (ap (λ (r : Read). (read_pair r).0) h, ap (λ (r : Read). (read_pair r).1) h)

module _ (s : List ℕ) where
  last_back : (k n at : ℕ) → n < 128 → Stands s at (groups k n) → read_groups s k at ≡ Some (n, at + length (groups k n))
  last_back k n at h st =
      let w : Stands s at (n ∷ []) = rw (last_group k n h) at st in
      let l : get_or s at 0 < 128 = omega arith in
      rw (last_group k n h) (read_last s k at w.0 l ∙ ap (λ (m : ℕ). Some (m, at + 1)) w.1.0)

  -- the bytes of a number below 2^32 read as that number
  pub back : (k n at : ℕ) → n < 2 ^ 32 → n < 128 ^ k * 128 → Stands s at (groups k n) → read_groups s k at ≡ Some (n, at + length (groups k n))
  back zero n at h l st = last_back 0 n at (omega arith) st
  back (suc k) n at h l st =
      elim (dec_lt n 128) [
        | yes b ↦ last_back (suc k) n at b st
        | no b ↦
            let up : 128 ≤ n = omega arith in
            let some : suc k ≡ 0 → ⊥ = λ e. omega arith in
            let one : suc k - 1 ≡ k = omega arith in
            let g : groups (suc k) n ≡ (n % 128 + 128) ∷ groups k (n / 128) = more_groups (suc k) n some up ∙ ap (λ (j : ℕ). (n % 128 + 128) ∷ groups j (n / 128)) one in
            let w : Stands s at ((n % 128 + 128) ∷ groups k (n / 128)) = rw g at st in
            let rest : Stands s (at + 1) (groups k (n / 128)) = rw (add-one at) w.1.1 in
            let low : n / 128 < 128 ^ k * 128 = omega arith in
            let ih : read_groups s k (at + 1) ≡ Some (n / 128, at + 1 + length (groups k (n / 128))) = back k (n / 128) (at + 1) (omega arith) low rest in
            let sum : n / 128 * 128 + (get_or s at 0 - 128) ≡ n = omega arith in
            read_more s (suc k) at w.0 (omega arith) some
            ∙ ap (λ (j : ℕ). joined (get_or s at 0) (read_groups s j (at + 1))) one
            ∙ ap (joined (get_or s at 0)) ih
            ∙ joined_fits (get_or s at 0) (n / 128) _ (λ z. omega arith) (omega arith)
            ∙ ap₂ (λ m e. Some (m, e)) sum (rw g (omega arith))
      ]

  -- what reading a number at a place tells
  pub record Told (k at n e : ℕ) : Type 0 where
    pub stands : Stands s at (groups k n)
    pub next : e ≡ at + length (groups k n)
    pub low : n < 2 ^ 32
    pub fits : n < 128 ^ k * 128

  last_told : (k at n e : ℕ) → at < length s → get_or s at 0 < 128 → read_groups s k at ≡ Some (n, e) → Told k at n e
  last_told k at n e l b h =
      let eq : (get_or s at 0 ≡ n) × (at + 1 ≡ e) = same_read (sym (read_last s k at l b) ∙ h) in
      let v : get_or s at 0 ≡ n = eq.0 in
      let f : at + 1 ≡ e = eq.1 in
      let g : groups k n ≡ n ∷ [] = last_group k n (omega arith) in
      record {
        stands = rw g (l, (v, omega arith));
        next = rw g (sym f);
        low = omega arith;
        fits = small k (omega arith);
      }
    where
      small : (j : ℕ) → n < 128 → n < 128 ^ j * 128
      small zero q = omega arith
      small (suc j) q = omega (arith, small j q)

  more_told : (k at n e : ℕ) → Bytes s → ((m f : ℕ) → read_groups s k (at + 1) ≡ Some (m, f) → Told k (at + 1) m f)
      → at < length s → 128 ≤ get_or s at 0 → (r : Read) → read_groups s k (at + 1) ≡ r → joined (get_or s at 0) r ≡ Some (n, e) → Told (suc k) at n e
  more_told k at n e bytes ih l b None p h = absurd (never None refl h)
  more_told k at n e bytes ih l b (Some (m, f)) p h =
      elim (ℕ_discrete m 0) [
        | yes z ↦ absurd (never _ (joined_zero (get_or s at 0) m f z) h)
        | no z ↦ elim (dec_lt m 33554432) [
          | no q ↦ absurd (never _ (joined_large (get_or s at 0) m f (omega arith)) h)
          | yes q ↦
              let eq : (m * 128 + (get_or s at 0 - 128) ≡ n) × (f ≡ e) = same_read (sym (joined_fits (get_or s at 0) m f z q) ∙ h) in
              let v : m * 128 + (get_or s at 0 - 128) ≡ n = eq.0 in
              let w : f ≡ e = eq.1 in
              let t : Told k (at + 1) m f = ih m f p in
              let top : get_or s at 0 < 256 = bytes at in
              let some : suc k ≡ 0 → ⊥ = λ x. omega arith in
              let one : suc k - 1 ≡ k = omega arith in
              let same : n / 128 ≡ m = omega arith in
              let byte : get_or s at 0 ≡ n % 128 + 128 = omega arith in
              let g : groups (suc k) n ≡ (n % 128 + 128) ∷ groups k m =
              more_groups (suc k) n some (omega arith) ∙ ap₂ (λ (j i : ℕ). (n % 128 + 128) ∷ groups j i) one same in
              record {
                stands = rw g (l, (byte, rw (add-one at) at t.stands));
                next = rw g (omega (arith, t.next));
                low = omega arith;
                fits = omega (arith, t.fits);
              }
        ]
      ]

  pub told : (k at n e : ℕ) → Bytes s → read_groups s k at ≡ Some (n, e) → Told k at n e
  told zero at n e bytes h =
      elim (dec_lt at (length s)) [
        | no l ↦ absurd (never _ (read_end s 0 at (omega arith)) h)
        | yes l ↦ elim (dec_lt (get_or s at 0) 128) [
          | yes b ↦ last_told 0 at n e l b h
          | no b ↦ absurd (never _ (read_cut s 0 at l (omega arith) refl) h)
        ]
      ]
  told (suc k) at n e bytes h =
      elim (dec_lt at (length s)) [
        | no l ↦ absurd (never _ (read_end s (suc k) at (omega arith)) h)
        | yes l ↦ elim (dec_lt (get_or s at 0) 128) [
          | yes b ↦ last_told (suc k) at n e l b h
          | no b ↦
              let one : suc k - 1 ≡ k = omega arith in
              more_told k at n e bytes (λ m f. told k (at + 1) m f bytes) l (omega arith) (read_groups s k (at + 1)) refl
              (ap (λ (j : ℕ). joined (get_or s at 0) (read_groups s j (at + 1))) (sym one) ∙ sym (read_more s (suc k) at l (omega arith) (λ x. omega arith)) ∙ h)
        ]
      ]

  -- the two together: a number reads at a place exactly where its bytes stand there
  pub reads : (n at : ℕ) → n < 2 ^ 32 → Stands s at (varint n) → number_at s at ≡ Some (n, at + length (varint n))
  reads n at h st = back 4 n at h (omega arith) st

  pub read_tells : (n at e : ℕ) → Bytes s → number_at s at ≡ Some (n, e) → Told 4 at n e
  read_tells n at e bytes h = told 4 at n e bytes h
