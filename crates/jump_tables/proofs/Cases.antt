-- Tables of one small image, by computation: what the incident was about.
-- Assumes nothing.
use Rattle.std.specs.Prelude.{Option, Some, None}
use Prim.Native.Nat.{ℕ}
use mathlib.Core.Path.{◌≡◌, refl}
use mathlib.Core.List.{List, [], ◌∷◌, ◌++◌}
use lib.ListN.{set}
use Rattle.places.specs.declared.SectionAddress.{SectionAddress}
use Rattle.search.specs.First.{first_from}
use Rattle.search.specs.Every.{every}
use Rattle.image.specs.Rules.{sections_sound, elf_distinct, sections_apart, words_before, bounds_sound, ascending, unbounds_sound, symbols_sound, tables_sound, data_inside}
use Rattle.lookups.specs.Relocations.{relocation_for}
use Rattle.jump_tables.specs.Keys.{insert_key}
use Rattle.jump_tables.specs.Readings.{sized_reading, guessed_reading}
use Rattle.jump_tables.specs.Tables.{passed, verdict, entries_of, read_off, Outcome, answer_of, count_of, bytes_of, sized_table, guessed_table, table_in, table_of}

-- an Executable, module 7: Code of 16 bytes at 80003000, Data of 22 at 80004000, ReadOnly of 12 at 0 (hex)
-- the third word of the Data is External, the fourth a relocation of another kind; the second is a symbol of 4 bytes
pub tables : List ℕ
tables =
    (0 ∷ 7 ∷ 3 ∷ 2 ∷ 0 ∷ 1 ∷ [])
    ++ (0x80003000 ∷ 16 ∷ 0 ∷ 1 ∷ 0 ∷ 16 ∷ []) ++ (0x80004000 ∷ 22 ∷ 1 ∷ 2 ∷ 16 ∷ 22 ∷ []) ++ (0 ∷ 12 ∷ 2 ∷ 3 ∷ 38 ∷ 12 ∷ [])
    ++ (1 ∷ 0x80004008 ∷ 0 ∷ 0xFFFFFFFF ∷ 0 ∷ 0 ∷ []) ++ (1 ∷ 0x8000400C ∷ 1 ∷ 0 ∷ 0x80003000 ∷ 0 ∷ [])
    ++ (1 ∷ 0x80004004 ∷ 4 ∷ 1 ∷ [])

-- the Data: 80003008, 80003000, 0, 0, 12345678 and two bytes; the ReadOnly: 0, 80003004, 80003004
pub bytes : List ℕ
bytes =
    (0 ∷ 0 ∷ 0 ∷ 0 ∷ 0 ∷ 0 ∷ 0 ∷ 0 ∷ 0 ∷ 0 ∷ 0 ∷ 0 ∷ 0 ∷ 0 ∷ 0 ∷ 0 ∷ [])
    ++ (0x80 ∷ 0 ∷ 0x30 ∷ 8 ∷ 0x80 ∷ 0 ∷ 0x30 ∷ 0 ∷ 0 ∷ 0 ∷ 0 ∷ 0 ∷ 0 ∷ 0 ∷ 0 ∷ 0 ∷ 0x12 ∷ 0x34 ∷ 0x56 ∷ 0x78 ∷ 1 ∷ 1 ∷ [])
    ++ (0 ∷ 0 ∷ 0 ∷ 0 ∷ 0x80 ∷ 0 ∷ 0x30 ∷ 4 ∷ 0x80 ∷ 0 ∷ 0x30 ∷ 4 ∷ [])

pub at : ℕ → ℕ → SectionAddress
at s a = record { section = s; address = a }

-- the answer's number, the count, the size, and the buffer, which held fives
pub shown : Outcome → List ℕ
shown o = answer_of o.table ∷ count_of o.table ∷ bytes_of o.table ∷ o.keys

pub fives : List ℕ
fives = 5 ∷ 5 ∷ 5 ∷ []

pub read : List ℕ → SectionAddress → ℕ → SectionAddress → Option SectionAddress → List ℕ → List ℕ
read ws p n start e buffer = shown (table_of ws bytes p n start e buffer)

pub record Cases : Type 0 where
  -- sized: ascending, zeros after; the size counts all bytes passed
  pub sized_table_lem : read tables (at 1 0x80004000) 8 (at 0 0) None fives ≡ 0 ∷ 2 ∷ 8 ∷ 0x80003000 ∷ 0x80003008 ∷ 0 ∷ []
  -- the known size of 4 beats a found 8, and no size
  pub symbol_size_beats_found : (read tables (at 1 0x80004004) 8 (at 0 0) None fives ≡ 0 ∷ 1 ∷ 4 ∷ 0x80003000 ∷ 0 ∷ 0 ∷ [])
      × (read tables (at 1 0x80004004) 0 (at 0 0) None fives ≡ 0 ∷ 1 ∷ 4 ∷ 0x80003000 ∷ 0 ∷ 0 ∷ [])
  -- 8: no multiple of 4, before the External entry is met; also where the end is cut to the section, and where the sum would wrap
  pub ragged_table : (read tables (at 1 0x80004008) 6 (at 0 0) None fives ≡ 8 ∷ 0 ∷ 0 ∷ 0 ∷ 0 ∷ 0 ∷ [])
      × (read tables (at 1 0x80004000) 100 (at 0 0) None fives ≡ 8 ∷ 0 ∷ 0 ∷ 0 ∷ 0 ∷ 0 ∷ [])
      × (read tables (at 1 0x80004000) 0xFFFFFFFF (at 0 0) None fives ≡ 8 ∷ 0 ∷ 0 ∷ 0 ∷ 0 ∷ 0 ∷ [])
  -- 9: the External entry, and before the relocation error that follows it
  pub external_entry : (read tables (at 1 0x80004008) 4 (at 0 0) None fives ≡ 9 ∷ 0 ∷ 0 ∷ 0 ∷ 0 ∷ 0 ∷ [])
      × (read tables (at 1 0x80004000) 16 (at 0 0) None fives ≡ 9 ∷ 0 ∷ 0 ∷ 0 ∷ 0 ∷ 0 ∷ [])
  -- 9: the entry that points nowhere; in a Relocatable any bare word but 0
  pub entry_that_points_nowhere : (read tables (at 1 0x80004010) 4 (at 0 0) None fives ≡ 9 ∷ 0 ∷ 0 ∷ 0 ∷ 0 ∷ 0 ∷ [])
      × (read (set tables 0 1) (at 1 0x80004000) 8 (at 0 0) None fives ≡ 9 ∷ 0 ∷ 0 ∷ 0 ∷ 0 ∷ 0 ∷ [])
  -- 7: a relocation error, sized and guessed, before the entry that points nowhere after it
  pub relocation_error : (read tables (at 1 0x8000400C) 8 (at 0 0) None fives ≡ 7 ∷ 0 ∷ 0 ∷ 0 ∷ 0 ∷ 0 ∷ [])
      × (read tables (at 1 0x8000400C) 0 (at 0 0) None fives ≡ 7 ∷ 0 ∷ 0 ∷ 0 ∷ 0 ∷ 0 ∷ [])
  -- 10: two entries and room for one; but a bad entry after them decides
  pub too_many_entries : (read tables (at 1 0x80004000) 8 (at 0 0) None (5 ∷ []) ≡ 10 ∷ 0 ∷ 0 ∷ 0 ∷ [])
      × (read tables (at 1 0x80004000) 12 (at 0 0) None (5 ∷ []) ≡ 9 ∷ 0 ∷ 0 ∷ 0 ∷ [])
  -- sized, a bare 0 is skipped though a section holds address 0, and is counted
  pub zero_skipped_and_counted : read tables (at 2 0) 8 (at 0 0) None fives ≡ 0 ∷ 1 ∷ 8 ∷ 0x80003004 ∷ 0 ∷ 0 ∷ []
  -- two words and one entry; the table runs into the section's end, though the sum would wrap
  pub distinct_to_section_end : read tables (at 2 4) 0xFFFFFFFC (at 0 0) None fives ≡ 0 ∷ 1 ∷ 8 ∷ 0x80003004 ∷ 0 ∷ 0 ∷ []
  -- guessed, 0 is a word like any other; the section's end stops
  pub guess_to_section_end : read tables (at 2 0) 0 (at 0 0) None fives ≡ 0 ∷ 2 ∷ 12 ∷ 0x80003004 ∷ 0x200000000 ∷ 0 ∷ []
  -- guessed, External stops; so do a target before the start, at the end and past it; in a Relocatable any bare word
  pub guess_stops : (read tables (at 1 0x80004000) 0 (at 0 0x80003000) (Some (at 0 0x80003010)) fives ≡ 0 ∷ 2 ∷ 8 ∷ 0x80003000 ∷ 0x80003008 ∷ 0 ∷ [])
      × (read tables (at 1 0x80004000) 0 (at 0 0x80003004) (Some (at 0 0x80003010)) fives ≡ 0 ∷ 1 ∷ 4 ∷ 0x80003008 ∷ 0 ∷ 0 ∷ [])
      × (read tables (at 1 0x80004000) 0 (at 0 0x80003000) (Some (at 0 0x80003008)) fives ≡ 0 ∷ 0 ∷ 0 ∷ 0 ∷ 0 ∷ 0 ∷ [])
      × (read tables (at 1 0x80004000) 0 (at 0 0x80003000) (Some (at 0 0x80003004)) fives ≡ 0 ∷ 0 ∷ 0 ∷ 0 ∷ 0 ∷ 0 ∷ [])
      × (read (set tables 0 1) (at 1 0x80004000) 0 (at 0 0) None fives ≡ 0 ∷ 0 ∷ 0 ∷ 0 ∷ 0 ∷ 0 ∷ [])
  -- outside Data and ReadOnly: Code, a section's end, no section; no entries and size 0, ragged or not
  pub table_outside : (read tables (at 0 0x80003000) 6 (at 0 0) None fives ≡ 0 ∷ 0 ∷ 0 ∷ 0 ∷ 0 ∷ 0 ∷ [])
      × (read tables (at 1 0x80004016) 4 (at 0 0) None fives ≡ 0 ∷ 0 ∷ 0 ∷ 0 ∷ 0 ∷ 0 ∷ [])
      × (read tables (at 3 0x80004000) 4 (at 0 0) None fives ≡ 0 ∷ 0 ∷ 0 ∷ 0 ∷ 0 ∷ 0 ∷ [])
  -- 1: the image is broken, and the buffer is as it was
  pub broken_image : read (set tables 0 2) (at 1 0x80004000) 8 (at 0 0) None fives ≡ 1 ∷ 0 ∷ 0 ∷ fives

pub cases : Cases
unfolding read tables bytes at shown fives first_from every sections_sound elf_distinct sections_apart words_before bounds_sound ascending unbounds_sound symbols_sound tables_sound data_inside relocation_for insert_key sized_reading guessed_reading passed verdict entries_of read_off sized_table guessed_table table_in table_of
cases =
    record {
      sized_table_lem = refl;
      symbol_size_beats_found = (refl, refl);
      ragged_table = (refl, refl, refl);
      external_entry = (refl, refl);
      entry_that_points_nowhere = (refl, refl);
      relocation_error = (refl, refl);
      too_many_entries = (refl, refl);
      zero_skipped_and_counted = refl;
      distinct_to_section_end = refl;
      guess_to_section_end = refl;
      guess_stops = (refl, refl, refl, refl, refl);
      table_outside = (refl, refl, refl);
      broken_image = refl;
    }
