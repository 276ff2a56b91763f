-- Words that agree from a number on hold the same slot there.
-- Assumes nothing.
use mathlib.Core.List.{List}
use mathlib.Core.Path.{◌≡◌, ap, ◌∙◌}
use Prim.Native.Nat.{ℕ, ◌+◌, ◌*◌, ◌≤◌, ◌<◌}
use native.Mathlib.Omega.{arith}
use lib.Dec.{eqb}
use lib.ListN.{length, get_or}
use Rattle.places.specs.declared.SectionAddress.{SectionAddress}
use Rattle.vm.specs.declared.VM.{VM}
use Rattle.slot.specs.Layout.{slot_size, state_size, slot_words, register_at, compare_at, held_at, state_at, place_in, state_in, is_slot}
use Rattle.slot.specs.Put.{matches}
use Rattle.slot.proofs.PutLaws.{listed_same, every_same}
use Rattle.slot.proofs.SlotLaws.{slot_length}

-- the n words from at on are the same in both lists
abbrev pub Agree : List ℕ → List ℕ → ℕ → ℕ → Type 0
Agree ws vs at n = (i : ℕ) → i < n → get_or vs (at + i) 0 ≡ get_or ws (at + i) 0

module _ (ws vs : List ℕ) where
  agree_part : (at n off m : ℕ) → off + m ≤ n → Agree ws vs at n → Agree ws vs (at + off) m
  agree_part at n off m l h i k = let e : at + off + i ≡ at + (off + i) = omega arith in rw e (h (off + i) (omega arith))

  agree_first : (at n : ℕ) → 0 < n → Agree ws vs at n → get_or vs at 0 ≡ get_or ws at 0
  agree_first at n l h = let z : at + 0 ≡ at = omega arith in rw z at (h 0 l)

  register_same : (at : ℕ) → Agree ws vs at 8 → register_at vs at ≡ register_at ws at
  register_same at h =
      rw (agree_first at 8 (omega arith) h, h 1 (omega arith), h 2 (omega arith), h 3 (omega arith), h 4 (omega arith), h 5 (omega arith), h 6 (omega arith), h 7 (omega arith))

  compare_same : (at : ℕ) → Agree ws vs at 8 → compare_at vs at ≡ compare_at ws at
  compare_same at h =
      let five : at + 4 + 1 ≡ at + 5 = omega arith in
      let six : at + 4 + 2 ≡ at + 6 = omega arith in
      let seven : at + 4 + 3 ≡ at + 7 = omega arith in
      rw (five, six, seven, agree_first at 8 (omega arith) h, h 1 (omega arith), h 2 (omega arith), h 3 (omega arith), h 4 (omega arith), h 5 (omega arith), h 6 (omega arith), h 7 (omega arith))

  held_same : (at : ℕ) → Agree ws vs at 4 → held_at vs at ≡ held_at ws at
  held_same at h = rw (agree_first at 4 (omega arith) h, h 1 (omega arith), h 2 (omega arith), h 3 (omega arith))

  compare_part : (at i : ℕ) → i < 8 → Agree ws vs at state_size → Agree ws vs (at + 256 + i * 8) 8
  compare_part at i k h =
      let e : at + 256 + i * 8 ≡ at + (256 + i * 8) = omega arith in
      rw e (agree_part at state_size (256 + i * 8) 8 (omega arith) h)

  pub place_same : (at : ℕ) → Agree ws vs at slot_size → place_in vs at ≡ place_in ws at
  place_same at h = rw (agree_first at slot_size (omega arith) h, h 1 (omega arith))

  pub state_same : (at : ℕ) → Agree ws vs at slot_size → state_in vs at ≡ state_in ws at
  unfolding state_at
  state_same at h =
      let s : Agree ws vs (at + 2) state_size = agree_part at slot_size 2 state_size (omega arith) h in
      let gs = listed_same (λ (i : ℕ). register_at vs (at + 2 + i * 8)) (λ (i : ℕ). register_at ws (at + 2 + i * 8)) 32
      (λ i k. register_same (at + 2 + i * 8) (agree_part (at + 2) state_size (i * 8) 8 (omega arith) s)) in
      let rs = listed_same (λ (i : ℕ). compare_at vs (at + 2 + 256 + i * 8)) (λ (i : ℕ). compare_at ws (at + 2 + 256 + i * 8)) 8
      (λ i k. compare_same (at + 2 + 256 + i * 8) (compare_part (at + 2) i k s)) in
      rw (gs, rs, held_same (at + 2 + 320) (agree_part (at + 2) state_size 320 4 (omega arith) s), held_same (at + 2 + 324) (agree_part (at + 2) state_size 324 4 (omega arith) s))

  pub slot_same : (at : ℕ) → Agree ws vs at slot_size → is_slot vs at ≡ is_slot ws at
  slot_same at h =
      let p : SectionAddress = place_in ws at in
      let s : VM = state_in ws at in
      ap (λ (q : SectionAddress). matches vs at (slot_words q (state_in vs at))) (place_same at h)
      ∙ ap (λ (t : VM). matches vs at (slot_words p t)) (state_same at h)
      ∙ every_same (λ (i : ℕ). eqb (get_or vs (at + i) 0) (get_or (slot_words p s) i 0)) (λ (i : ℕ). eqb (get_or ws (at + i) 0) (get_or (slot_words p s) i 0)) (length (slot_words p s))
      (λ i k. ap (λ (w : ℕ). eqb w (get_or (slot_words p s) i 0)) (h i (omega (arith, slot_length p s))))
