-- A section's bytes in the lent buffer.
-- Assumes nothing.
use Rattle.std.specs.Prelude.{ℕ, ◌+◌, ◌-◌, Bool, ◌&&◌, not, List, [], take, drop, length, ltb, leb, eqb, Option, Some, None}
use Rattle.words.specs.Choice.{pick}
use Rattle.words.specs.Bytes.{be32}
use Rattle.places.specs.declared.SectionAddress.{SectionAddress}
use Rattle.image.specs.Numbers.{bss_kind}
use Rattle.image.specs.Layout.{sections, section_at}
use Rattle.image.specs.Rules.{holds, end_of}

-- where the byte of section i at an address stands in the buffer
abbrev pub offset_in : List ℕ → ℕ → ℕ → ℕ
offset_in ws i a = (section_at ws i).place + (a - (section_at ws i).address)

-- a place has data: its section exists, is no Bss and holds the address
abbrev pub has_data : List ℕ → SectionAddress → Bool
has_data ws p =
    ltb p.section (sections ws) && not (eqb (section_at ws p.section).kind bss_kind) && holds (section_at ws p.section) p.address

-- the bytes from a place to its section's end; none for Bss or an address outside
abbrev pub data_from : List ℕ → List ℕ → SectionAddress → List ℕ
data_from ws bs p =
    pick (has_data ws p)
    (take (end_of (section_at ws p.section) - p.address) (drop (offset_in ws p.section p.address) bs))
    []

-- where those bytes stand in the buffer; the empty ones at its start
abbrev pub data_offset : List ℕ → SectionAddress → ℕ
data_offset ws p = pick (has_data ws p) (offset_in ws p.section p.address) 0

-- the word at a place, where its section has four bytes of data from there on
abbrev pub word_at : List ℕ → List ℕ → SectionAddress → Option ℕ
word_at ws bs p = pick (leb 4 (length (data_from ws bs p))) (Some (be32 (data_from ws bs p) 0)) None
