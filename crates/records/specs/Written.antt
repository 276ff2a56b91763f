-- Section records written into the image's words: docs/FORMATS.md, "The image".
-- Assumes nothing.
use Rattle.std.specs.Prelude.{ℕ, ◌+◌, ◌*◌, Bool, ◌&&◌, List, [], ◌∷◌, ◌++◌, length, leb, Result, Ok, Err}
use Rattle.std.proofs.lemmas.List.Edits.{sets}
use Rattle.words.specs.Choice.{pick}
use Rattle.image.specs.declared.Section.{Section}
use Rattle.image.specs.Numbers.{max_sections}
use Rattle.records.specs.declared.WriteError.{WriteError}
use Rattle.records.specs.declared.WriteError.TheVariants.{TooMany, NoRoom}

-- n records are few enough
abbrev pub few : ℕ → Bool
few n = leb n max_sections

-- m words have room for the head and n records
abbrev pub roomy : ℕ → ℕ → Bool
roomy n m = leb (n * 6 + 6) m

-- n records are written into m words
abbrev pub fits : ℕ → ℕ → Bool
fits n m = few n && roomy n m

-- a section's six words
abbrev pub section_words : Section → List ℕ
section_words s = s.address ∷ s.size ∷ s.kind ∷ s.elf ∷ s.place ∷ s.length ∷ []

-- the words of records one after another
unfoldable pub table_words : List Section → List ℕ
table_words [] = []
table_words (s ∷ ss) = section_words s ++ table_words ss

-- the words with s for record i
abbrev pub with_section : List ℕ → ℕ → Section → List ℕ
with_section ws i s = sets ws (i * 6 + 6) (section_words s)

-- the words with the records: all of them, or none
abbrev pub with_sections : List ℕ → List Section → List ℕ
with_sections ws t = pick (fits (length t) (length ws)) (sets ws 6 (table_words t)) ws

-- the answer for n records and m words: how many are written, or why none
abbrev pub written : ℕ → ℕ → Result ℕ WriteError
written n m = pick (few n) (pick (roomy n m) (Ok n) (Err NoRoom)) (Err TooMany)
