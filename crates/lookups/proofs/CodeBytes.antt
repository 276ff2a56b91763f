-- The word at an aligned place of code: its four bytes are in the buffer, and they are what reading a section gives.
-- Assumes nothing.
use Rattle.std.specs.Prelude.{Result, Ok, Err, ⊤, Some}
use mathlib.Core.Path.{◌≡◌, refl, ◌∙◌}
use mathlib.Core.Bool.{Bool, true, false}
use mathlib.Core.List.{List}
use Prim.Native.Nat.{ℕ, ◌+◌, ◌-◌, ◌%◌, ◌≤◌, ◌<◌}
use native.Mathlib.Nat.{add-zero}
use native.Mathlib.Omega.{arith}
use lib.Dec.{eqb}
use lib.ListN.{get_or, take, drop, length, length-drop}
use lib.Seq.{length-take-le, get_or-take, get_or-drop}
use borrow.Author.Tests.{lt-ltb, le-leb, ne_eqb, eqb-true}
use Rattle.words.specs.Choice.{pick}
use Rattle.words.specs.Bytes.{be32}
use Rattle.places.specs.declared.SectionAddress.{SectionAddress}
use Rattle.image.specs.Layout.{sections, section_at}
use Rattle.image.specs.Rules.{end_of, tables_sound, data_inside}
use Rattle.lookups.specs.Bytes.{offset_in, has_data, word_at}
use Rattle.lookups.specs.Code.{in_code, code_place}
use Rattle.lookups.proofs.SoundSections.{InCode, in_code_lem, HasData, has_data_lem}
use Rattle.lookups.specs.declared.PlaceError.TheVariants.{Misaligned, NotCode}
use Rattle.lookups.specs.declared.PlaceError.{PlaceError}

-- a fine place is in code and aligned
by_tests : (c a : Bool) → ◌≡◌ {A = Result ⊤ PlaceError} (pick c (pick a (Ok tt) (Err Misaligned)) (Err NotCode)) (Ok tt) → (c ≡ true) × (a ≡ true)
by_tests true true e = (refl, refl)
by_tests true false e = let z : ◌≡◌ {A = ℕ} 0 1 = cc in absurd (omega arith)
by_tests false a e = let z : ◌≡◌ {A = ℕ} 0 1 = cc in absurd (omega arith)

pub fine_place : (ws : List ℕ) (p : SectionAddress) → code_place ws p ≡ Ok tt → (in_code ws p ≡ true) × (p.address % 4 ≡ 0)
fine_place ws p e =
    let both = by_tests (in_code ws p) (eqb (p.address % 4) 0) e in
    (both.0, eqb-true _ _ both.1)

-- code has data
pub code_has_data : (ws : List ℕ) (p : SectionAddress) → InCode ws p → has_data ws p ≡ true
code_has_data ws p c =
    let s = section_at ws p.section in
    let no-bss : s.kind ≡ 3 → ⊥ = λ e. omega (arith, c.code) in
    rw (lt-ltb p.section (sections ws) c.place.exists, ne_eqb s.kind 3 no-bss, le-leb s.address p.address c.place.from, lt-ltb p.address (end_of s) c.place.upto)

-- what a fine place has: data, and room for four bytes before its section's end
pub record CodeBytes (ws : List ℕ) (n : ℕ) (p : SectionAddress) : Type 0 where
  pub place : InCode ws p
  pub bytes : HasData ws n p
  pub has : has_data ws p ≡ true
  pub room : p.address + 4 ≤ end_of (section_at ws p.section)

pub code_bytes : (ws : List ℕ) (n : ℕ) (p : SectionAddress) → tables_sound ws ≡ true → data_inside ws n ≡ true → code_place ws p ≡ Ok tt → CodeBytes ws n p
code_bytes ws n p t d e =
    let fine = fine_place ws p e in
    let c = in_code_lem ws p t fine.0 in
    let has = code_has_data ws p c in
    record {
      place = c;
      bytes = has_data_lem ws n p t d has;
      has = has;
      room = omega (arith, c.place.sound.code_address c.code, c.place.sound.code_size c.code, c.place.upto, fine.1);
    }

-- a word of a part that starts at o, of n bytes
byte_of_part : (bs : List ℕ) (o n i : ℕ) → i < n → get_or (take n (drop o bs)) i 0 ≡ get_or bs (o + i) 0
byte_of_part bs o n i h = get_or-take n (drop o bs) i 0 h ∙ get_or-drop o bs i 0

word_of_part : (bs : List ℕ) (o n : ℕ) → 4 ≤ n → be32 (take n (drop o bs)) 0 ≡ be32 bs o
word_of_part bs o n h =
    rw (byte_of_part bs o n 0 (omega arith), byte_of_part bs o n 1 (omega arith), byte_of_part bs o n 2 (omega arith), byte_of_part bs o n 3 (omega arith), add-zero o)

pub code_word_at : (ws bs : List ℕ) (p : SectionAddress) → CodeBytes ws (length bs) p → word_at ws bs p ≡ Some (be32 bs (offset_in ws p.section p.address))
code_word_at ws bs p c =
    let o : ℕ = offset_in ws p.section p.address in
    let n : ℕ = end_of (section_at ws p.section) - p.address in
    let fits : o + n ≤ length bs = omega (arith, c.bytes.inside, c.place.place.from, c.room) in
    let len : length (take n (drop o bs)) ≡ n = length-take-le n (drop o bs) (simp length-drop (omega arith)) in
    let four : 4 ≤ n = omega (arith, c.room) in
    rw (c.has, le-leb 4 (length (take n (drop o bs))) (omega arith), word_of_part bs o n four)
