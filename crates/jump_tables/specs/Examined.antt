-- The words of a table that are looked at: up to the one that stops or is bad, itself included.
-- Assumes nothing.
use Rattle.std.specs.Prelude.{ℕ, zero, suc, ◌+◌, ◌-◌, ◌/◌, ◌%◌, List, eqb, Option}
use Rattle.words.specs.Choice.{pick}
use Rattle.places.specs.declared.SectionAddress.{SectionAddress}
use Rattle.image.specs.Layout.{section_at}
use Rattle.image.specs.Rules.{end_of}
use Rattle.jump_tables.specs.declared.How.TheVariants.{Sized, Guessed}
use Rattle.jump_tables.specs.declared.Reading.{Reading}
use Rattle.jump_tables.specs.declared.Reading.TheVariants.{Stopped, Skipped, Faulty, Nowhere, Entry}
use Rattle.jump_tables.specs.Tables.{word_reading, clamped_size, size_of, is_table}

-- after a word that stops or is bad no more are looked at
abbrev pub on_good : Reading → ℕ → ℕ
on_good Stopped n = 0
on_good Skipped n = n
on_good Faulty n = 0
on_good Nowhere n = 0
on_good (Entry t) n = n

-- how many, of at most n from number i on
unfoldable pub examined : (ℕ → Reading) → ℕ → ℕ → ℕ
examined f zero i = 0
examined f (suc n) i = suc (on_good (f i) (examined f n (suc i)))

-- of a table: none outside Data and ReadOnly, and none of a ragged one
unfoldable pub words_examined : List ℕ → List ℕ → SectionAddress → ℕ → SectionAddress → Option SectionAddress → ℕ
words_examined ws bs p n start e =
    pick (is_table ws p)
    (pick (eqb (size_of ws p n) 0)
    (examined (word_reading ws bs (Guessed start e) p) ((end_of (section_at ws p.section) - p.address) / 4 + 1) 0)
    (pick (eqb (clamped_size ws p (size_of ws p n) % 4) 0) (examined (word_reading ws bs Sized p) (clamped_size ws p (size_of ws p n) / 4) 0) 0))
    0
