-- Places: a section's index and an address.
-- Assumes nothing.
use Rattle.std.specs.Prelude.{ℕ, Bool, ◌&&◌, ◌||◌, ltb, eqb}
use Rattle.words.specs.Sums.{sum}
use Rattle.places.specs.declared.SectionAddress.{SectionAddress}

-- n bytes on: only the address part changes, modulo 2^32
abbrev pub moved : SectionAddress → ℕ → SectionAddress
moved p n = record { section = p.section; address = sum p.address n }

-- a stands before b: by section, then by address
abbrev pub before : SectionAddress → SectionAddress → Bool
before a b = (ltb a.section b.section) || ((eqb a.section b.section) && (ltb a.address b.address))
