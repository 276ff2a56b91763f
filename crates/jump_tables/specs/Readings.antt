-- What each word of a jump table means: document 01, section "Jump tables".
-- Assumes nothing.
use Rattle.std.specs.Prelude.{ℕ, Bool, false, ◌||◌, not, List, eqb, Some, None, Ok, Err, Option}
use Rattle.words.specs.Choice.{pick}
use Rattle.places.specs.declared.SectionAddress.{SectionAddress}
use Rattle.places.specs.declared.RelocationTarget.{RelocationTarget}
use Rattle.places.specs.declared.RelocationTarget.TheVariants.{External, Address}
use Rattle.places.specs.Places.{before}
use Rattle.search.specs.First.{on_found}
use Rattle.image.specs.Numbers.{executable_kind}
use Rattle.image.specs.Layout.{image_kind}
use Rattle.lookups.specs.declared.Wanted.TheVariants.{Absolute}
use Rattle.lookups.specs.Sections.{at_address}
use Rattle.lookups.specs.Relocations.{relocation_for}
use Rattle.lookups.specs.Bytes.{word_at}
use Rattle.jump_tables.specs.declared.How.{How}
use Rattle.jump_tables.specs.declared.How.TheVariants.{Sized, Guessed}
use Rattle.jump_tables.specs.declared.Reading.{Reading}
use Rattle.jump_tables.specs.declared.Reading.TheVariants.{Stopped, Skipped, Faulty, Nowhere, Entry}
use Rattle.lookups.specs.Relocations.{Relocation}

-- by cases on the relocation at a word, which is looked up first; an error is 7, sized and guessed
abbrev pub on_relocation : Relocation → Reading → (RelocationTarget → Reading) → Reading
on_relocation (Ok None) bare f = bare
on_relocation (Err why) bare f = Faulty
on_relocation (Ok (Some t)) bare f = f t

-- the place that a bare word names: in an Executable by the first section that holds it, in a Relocatable none
abbrev pub bare_entry : List ℕ → ℕ → Option SectionAddress
bare_entry ws v =
    pick (eqb (image_kind ws) executable_kind)
    (on_found (at_address ws v) (λ (i : ℕ). Some (record { section = i; address = v })) None)
    None

abbrev pub on_entry : Option SectionAddress → Reading → (SectionAddress → Reading) → Reading
on_entry None z f = z
on_entry (Some t) z f = f t

-- sized: External points nowhere, and so does a word in no section; a bare 0 is skipped
abbrev pub sized_target : RelocationTarget → Reading
sized_target External = Nowhere
sized_target (Address t) = Entry t

abbrev pub sized_word : List ℕ → Option ℕ → Reading
sized_word ws None = Stopped
sized_word ws (Some v) = pick (eqb v 0) Skipped (on_entry (bare_entry ws v) Nowhere Entry)

unfoldable pub sized_reading : List ℕ → List ℕ → SectionAddress → Reading
sized_reading ws bs p = on_relocation (relocation_for ws p Absolute) (sized_word ws (word_at ws bs p)) sized_target

-- at or past the function's end, where it has one
abbrev pub past_end : Option SectionAddress → SectionAddress → Bool
past_end None t = false
past_end (Some e) t = not (before t e)

-- a target before the function's start, or at or past its end, stops the guess
abbrev pub in_function : SectionAddress → Option SectionAddress → SectionAddress → Reading
in_function start e t = pick (before t start || past_end e t) Stopped (Entry t)

-- guessed: External, the section's end and a word in no section stop; 0 has no special place
abbrev pub guessed_target : SectionAddress → Option SectionAddress → RelocationTarget → Reading
guessed_target start e External = Stopped
guessed_target start e (Address t) = in_function start e t

abbrev pub guessed_word : List ℕ → SectionAddress → Option SectionAddress → Option ℕ → Reading
guessed_word ws start e None = Stopped
guessed_word ws start e (Some v) = on_entry (bare_entry ws v) Stopped (in_function start e)

unfoldable pub guessed_reading : List ℕ → List ℕ → SectionAddress → Option SectionAddress → SectionAddress → Reading
guessed_reading ws bs start e p =
    on_relocation (relocation_for ws p Absolute) (guessed_word ws start e (word_at ws bs p)) (guessed_target start e)

abbrev pub reading_of : List ℕ → List ℕ → How → SectionAddress → Reading
reading_of ws bs Sized p = sized_reading ws bs p
reading_of ws bs (Guessed start e) p = guessed_reading ws bs start e p
