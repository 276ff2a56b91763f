-- What the rules give of a place that has data, and of a place in code.
-- Assumes nothing.
use mathlib.Core.Path.{◌≡◌}
use mathlib.Core.Bool.{Bool, true, ◌&&◌, not}
use mathlib.Core.List.{List}
use Prim.Native.Nat.{ℕ, ◌+◌, ◌≤◌, ◌<◌}
use lib.Dec.{ltb, leb, eqb}
use borrow.Author.Tests.{ltb-true, leb-true, eqb-true, eqb-false, not-true}
use Rattle.places.specs.declared.SectionAddress.{SectionAddress}
use Rattle.search.proofs.EveryLaws.{and_left, and_right}
use Rattle.image.specs.Numbers.{bss_kind, code_kind}
use Rattle.image.specs.Layout.{sections, section_at}
use Rattle.image.specs.Rules.{end_of, holds, tables_sound, data_inside}
use Rattle.lookups.specs.Bytes.{has_data}
use Rattle.lookups.specs.Code.{in_code}
use Rattle.image.proofs.SoundTables.{SoundTables, sound_tables}
use Rattle.image.proofs.SectionLaws.{SoundSection, section_at_lem, data_at}

-- a place in a section that exists
pub record InSection (ws : List ℕ) (p : SectionAddress) : Type 0 where
  pub exists : p.section < sections ws
  pub from : (section_at ws p.section).address ≤ p.address
  pub upto : p.address < end_of (section_at ws p.section)
  pub sound : SoundSection (section_at ws p.section)

-- the three tests of a place: its section exists, is of a kind, holds the address
in_section : (ws : List ℕ) (p : SectionAddress) → SoundTables ws → (k : Bool) → ltb p.section (sections ws) && k && holds (section_at ws p.section) p.address ≡ true
    → InSection ws p × (k ≡ true)
in_section ws p s k e =
    let there = ltb p.section (sections ws) in
    let low = leb (section_at ws p.section).address p.address in
    let high = ltb p.address (end_of (section_at ws p.section)) in
    let first_two = and_left (there && k) (low && high) e in
    let held = and_right (there && k) (low && high) e in
    let exists = ltb-true _ _ (and_left there k first_two) in (
      record {
        exists = exists;
        from = leb-true _ _ (and_left low high held);
        upto = ltb-true _ _ (and_right low high held);
        sound = section_at_lem ws s p.section exists;
      },
      and_right there k first_two,
    )

-- a place that has data lies in its section, whose bytes are all in the buffer
pub record HasData (ws : List ℕ) (n : ℕ) (p : SectionAddress) : Type 0 where
  pub place : InSection ws p
  pub inside : (section_at ws p.section).place + (section_at ws p.section).size ≤ n

pub has_data_lem : (ws : List ℕ) (n : ℕ) (p : SectionAddress) → tables_sound ws ≡ true → data_inside ws n ≡ true → has_data ws p ≡ true → HasData ws n p
has_data_lem ws n p t d e =
    let s = section_at ws p.section in
    let both = in_section ws p (sound_tables ws t) (not (eqb s.kind bss_kind)) e in
    let whole = both.0.sound.data_whole (eqb-false _ _ (not-true (eqb s.kind bss_kind) both.1)) in
    record { place = both.0; inside = rw (← whole) (data_at ws n d p.section both.0.exists) }

-- a place in code lies in a Code section
pub record InCode (ws : List ℕ) (p : SectionAddress) : Type 0 where
  pub place : InSection ws p
  pub code : (section_at ws p.section).kind ≡ code_kind

pub in_code_lem : (ws : List ℕ) (p : SectionAddress) → tables_sound ws ≡ true → in_code ws p ≡ true → InCode ws p
in_code_lem ws p t e =
    let both = in_section ws p (sound_tables ws t) (eqb (section_at ws p.section).kind code_kind) e in
    record { place = both.0; code = eqb-true _ _ both.1 }
