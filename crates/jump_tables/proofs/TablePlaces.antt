-- A place in a Data or ReadOnly section of a sound image, and the words from there to the section's end.
-- Assumes nothing.
use Rattle.std.specs.Prelude.{Some}
use Prim.Native.Nat.{ℕ, ◌+◌, ◌-◌, ◌≤◌}
use mathlib.Core.Path.{◌≡◌, refl}
use mathlib.Core.Bool.{Bool, true, false, ◌&&◌, ◌||◌}
use mathlib.Core.List.{List}
use native.Mathlib.Omega.{arith}
use borrow.Author.Tests.{ltb-true, leb-true, eqb-true, lt-ltb, le-leb}
use lib.ListN.{length, take, drop, length-take, length-drop}
use lib.Dec.{ltb, leb, eqb}
use Rattle.words.specs.Bytes.{be32}
use Rattle.places.specs.declared.SectionAddress.{SectionAddress}
use Rattle.search.proofs.EveryLaws.{and_left, and_right}
use Rattle.image.specs.Numbers.{data_kind, read_only_kind, bss_kind}
use Rattle.image.specs.Layout.{sections, section_at}
use Rattle.image.specs.Rules.{end_of, tables_sound, data_inside}
use Rattle.lookups.specs.Bytes.{has_data, data_from, offset_in, word_at}
use Rattle.image.proofs.SoundTables.{sound_tables}
use Rattle.image.proofs.SectionLaws.{section_at_lem}
use Rattle.lookups.proofs.SoundSections.{InSection, has_data_lem}
use Rattle.jump_tables.specs.Tables.{is_table}

-- Data and ReadOnly are not Bss
not_bss : (k : ℕ) (t : Bool) → eqb k data_kind ≡ t → t || eqb k read_only_kind ≡ true → eqb k bss_kind ≡ false
not_bss k true d e = let is : k ≡ 1 = eqb-true k data_kind d in rw is
not_bss k false d e = let is : k ≡ 2 = eqb-true k read_only_kind e in rw is

pub record InTable (ws : List ℕ) (p : SectionAddress) : Type 0 where
  pub place : InSection ws p
  pub has_bytes : eqb (section_at ws p.section).kind bss_kind ≡ false

pub in_table : (ws : List ℕ) (p : SectionAddress) → tables_sound ws ≡ true → is_table ws p ≡ true → InTable ws p
in_table ws p t e =
    let s = section_at ws p.section in
    let there = ltb p.section (sections ws) in
    let kind = eqb s.kind data_kind || eqb s.kind read_only_kind in
    let low = leb s.address p.address in
    let high = ltb p.address (end_of s) in
    let first_two = and_left (there && kind) (low && high) e in
    let held = and_right (there && kind) (low && high) e in
    let exists = ltb-true _ _ (and_left there kind first_two) in
    record {
      place = record {
        exists = exists;
        from = leb-true _ _ (and_left low high held);
        upto = ltb-true _ _ (and_right low high held);
        sound = section_at_lem ws (sound_tables ws t) p.section exists;
      };
      has_bytes = not_bss s.kind (eqb s.kind data_kind) refl (and_right there kind first_two);
    }

-- the section has four bytes of data at each place before its end less 4
pub word_there : (ws bs : List ℕ) (p : SectionAddress) (a : ℕ) → tables_sound ws ≡ true → data_inside ws (length bs) ≡ true → is_table ws p ≡ true
    → p.address ≤ a → a + 4 ≤ end_of (section_at ws p.section)
    → word_at ws bs (record { section = p.section; address = a }) ≡ Some (be32 (data_from ws bs (record { section = p.section; address = a })) 0)
word_there ws bs p a t d e l h =
    let i = in_table ws p t e in
    let s = section_at ws p.section in
    let q : SectionAddress = record { section = p.section; address = a } in
    let there : has_data ws q ≡ true = rw (lt-ltb p.section (sections ws) i.place.exists, i.has_bytes, le-leb s.address a (omega (arith, i.place.from)), lt-ltb a (end_of s) (omega arith)) in
    let bytes = has_data_lem ws (length bs) q t d there in
    let size : 4 ≤ length (take (end_of s - a) (drop (offset_in ws p.section a) bs)) = simp (length-take, length-drop) (omega (arith, bytes.inside, i.place.from)) in
    rw (there, le-leb 4 (length (take (end_of s - a) (drop (offset_in ws p.section a) bs))) size)
