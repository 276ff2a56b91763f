-- What a table's answer is, case by case, in document 01's order: outside, ragged, sized, guessed.
-- Assumes nothing.
use Prim.Native.Nat.{ℕ, ◌+◌, ◌-◌, ◌/◌, ◌%◌}
use mathlib.Core.Path.{◌≡◌, refl}
use mathlib.Core.Bool.{Bool, true, false}
use mathlib.Core.List.{List}
use native.Mathlib.Omega.{arith}
use borrow.Author.Tests.{eq-eqb, ne_eqb}
use lib.ListN.{length, replicate}
use Rattle.std.specs.Prelude.{Ok, Err, Result, ⊤, Option}
use Rattle.words.specs.Choice.{pick}
use Rattle.places.specs.declared.SectionAddress.{SectionAddress}
use Rattle.image.specs.Layout.{section_at}
use Rattle.image.specs.Rules.{end_of, sound, judged}
use Rattle.jump_tables.specs.declared.How.TheVariants.{Sized, Guessed}
use Rattle.jump_tables.specs.declared.TableError.TheVariants as error
use Rattle.jump_tables.specs.Tables.{refused, read_off, words_passed, clamped_size, size_of, is_table, sized_table, guessed_table, table_in, table_of}
use Rattle.image.specs.declared.BrokenImage.{BrokenImage}
use Rattle.image.specs.Rules.{broken}

-- what the judge of images answers
sound_case : (b : Bool) → ◌≡◌ {A = Result ⊤ BrokenImage} (pick b (Ok tt) (Err broken)) (Ok tt) → b ≡ true
sound_case true e = refl
sound_case false e = let z : ◌≡◌ {A = ℕ} 0 1 = cc in absurd (omega arith)

broken_case : (b : Bool) → ◌≡◌ {A = Result ⊤ BrokenImage} (pick b (Ok tt) (Err broken)) (Err broken) → b ≡ false
broken_case true e = let z : ◌≡◌ {A = ℕ} 0 1 = cc in absurd (omega arith)
broken_case false e = refl

pub judged_sound : (ws : List ℕ) (n : ℕ) → judged ws n ≡ Ok tt → sound ws n ≡ true
judged_sound ws n e = sound_case (sound ws n) e

pub judged_broken : (ws : List ℕ) (n : ℕ) → judged ws n ≡ Err broken → sound ws n ≡ false
judged_broken ws n e = broken_case (sound ws n) e

-- a broken image: 1, and the buffer is left as it was
pub broken_is_1 : (ws bs : List ℕ) (p : SectionAddress) (n : ℕ) (start : SectionAddress) (e : Option SectionAddress) (buffer : List ℕ) → sound ws (length bs) ≡ false
    → table_of ws bs p n start e buffer ≡ record { table = Err error.Broken; keys = buffer }
unfolding table_of
broken_is_1 ws bs p n start e buffer s = rw s

pub sound_is_read : (ws bs : List ℕ) (p : SectionAddress) (n : ℕ) (start : SectionAddress) (e : Option SectionAddress) (buffer : List ℕ) → sound ws (length bs) ≡ true
    → table_of ws bs p n start e buffer ≡ table_in ws bs p n start e (length buffer)
unfolding table_of
sound_is_read ws bs p n start e buffer s = rw s

module _ (ws bs : List ℕ) (p : SectionAddress) (n : ℕ) (start : SectionAddress) (e : Option SectionAddress) (room : ℕ) where
  -- a table outside Data and ReadOnly has no entries and size 0, whatever its size
  pub outside_is_empty : is_table ws p ≡ false
      → table_in ws bs p n start e room ≡ record { table = Ok (record { count = 0; size = 0 }); keys = replicate room 0 }
  unfolding table_in
  outside_is_empty t = rw t

  -- with no size it is guessed
  pub no_size_is_guessed : is_table ws p ≡ true → size_of ws p n ≡ 0 → table_in ws bs p n start e room ≡ guessed_table ws bs p start e room
  unfolding table_in
  no_size_is_guessed t z = rw (t, eq-eqb (size_of ws p n) 0 z)

  pub size_is_read : is_table ws p ≡ true → (size_of ws p n ≡ 0 → ⊥) → table_in ws bs p n start e room ≡ sized_table ws bs p (size_of ws p n) room
  unfolding table_in
  size_is_read t z = rw (t, ne_eqb (size_of ws p n) 0 z)

  -- a ragged table is 8 whatever its words are: before 7 and 9
  pub ragged_sized : (size : ℕ) → size ≡ clamped_size ws p n → (size % 4 ≡ 0 → ⊥) → sized_table ws bs p n room ≡ refused error.Ragged room
  unfolding sized_table
  ragged_sized size c r = rw (← c, ne_eqb (size % 4) 0 r)

  pub whole_sized : (size : ℕ) → size ≡ clamped_size ws p n → size % 4 ≡ 0 → sized_table ws bs p n room ≡ read_off (words_passed ws bs Sized p (size / 4)) room
  unfolding sized_table
  whole_sized size c r = rw (← c, eq-eqb (size % 4) 0 r)

  pub guessed_by_words : (left : ℕ) → left ≡ end_of (section_at ws p.section) - p.address
      → guessed_table ws bs p start e room ≡ read_off (words_passed ws bs (Guessed start e) p (left / 4 + 1)) room
  unfolding guessed_table
  guessed_by_words left c = rw (← c)
