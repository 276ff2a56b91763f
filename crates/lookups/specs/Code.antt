-- Places of code, and the numbering of Code words in section order.
-- Assumes nothing.
use Rattle.std.specs.Prelude.{ℕ, ◌+◌, ◌-◌, ◌/◌, ◌%◌, Bool, ◌&&◌, List, ltb, eqb, Result, Ok, Err, ⊤}
use Rattle.words.specs.Choice.{pick}
use Rattle.places.specs.declared.SectionAddress.{SectionAddress}
use Rattle.image.specs.Numbers.{code_kind}
use Rattle.image.specs.Layout.{sections, section_at}
use Rattle.image.specs.Rules.{holds, words_before}
use Rattle.lookups.specs.declared.PlaceError.TheVariants.{Misaligned, NotCode}
use Rattle.lookups.specs.declared.PlaceError.{PlaceError}

-- a place is in code: its own section exists, is Code and holds the address
abbrev pub in_code : List ℕ → SectionAddress → Bool
in_code ws p =
    ltb p.section (sections ws) && eqb (section_at ws p.section).kind code_kind && holds (section_at ws p.section) p.address

-- 2 where it is not in code, then 3 where its address is no multiple of 4
abbrev pub code_place : List ℕ → SectionAddress → Result ⊤ PlaceError
code_place ws p = pick (in_code ws p) (pick (eqb (p.address % 4) 0) (Ok tt) (Err Misaligned)) (Err NotCode)

abbrev pub answer_of : Result ⊤ PlaceError → ℕ
answer_of (Err NotCode) = 2
answer_of (Err Misaligned) = 3
answer_of (Ok tt) = 0

-- the number of the Code word at a place: the words of the sections before it, then those before it in its own
abbrev pub word_number : List ℕ → SectionAddress → ℕ
word_number ws p = words_before ws p.section + (p.address - (section_at ws p.section).address) / 4
