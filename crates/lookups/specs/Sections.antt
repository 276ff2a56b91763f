-- Sections by address, and object symbols.
-- Assumes nothing.
use Rattle.std.specs.Prelude.{ℕ, ◌+◌, Bool, ◌&&◌, List, leb, ltb, eqb, Option}
use Rattle.words.specs.Choice.{pick}
use Rattle.places.specs.declared.SectionAddress.{SectionAddress}
use Rattle.search.specs.First.{first, on_found}
use Rattle.image.specs.Layout.{sections, symbols, section_at, symbol_at}
use Rattle.image.specs.Rules.{holds}

-- a section of that address and size holds an address
abbrev pub within : ℕ → ℕ → ℕ → Bool
within address size a = leb address a && ltb a (address + size)

-- the first section that holds an address
abbrev pub held : List ℕ → ℕ → ℕ → Bool
held ws a i = holds (section_at ws i) a

abbrev pub at_address : List ℕ → ℕ → Option ℕ
at_address ws a = first (held ws a) (sections ws)

-- the object symbol at a place
abbrev pub symbol_here : List ℕ → SectionAddress → ℕ → Bool
symbol_here ws p j = eqb (symbol_at ws j).section p.section && eqb (symbol_at ws j).address p.address

abbrev pub symbol_index : List ℕ → SectionAddress → Option ℕ
symbol_index ws p = first (symbol_here ws p) (symbols ws)

-- its size where that is known, else 0; a known size of 0 counts as none
abbrev pub known_size : List ℕ → SectionAddress → ℕ
known_size ws p = on_found (symbol_index ws p) (λ (j : ℕ). pick (eqb (symbol_at ws j).known 1) (symbol_at ws j).size 0) 0
