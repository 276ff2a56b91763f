-- Places that stand in the words a stride apart, and the number whose order is theirs.
-- Assumes nothing.
use Rattle.std.specs.Prelude.{ℕ, ◌+◌, ◌*◌, ◌^◌, Bool, ◌&&◌, List, eqb}
use Rattle.places.specs.declared.SectionAddress.{SectionAddress}
use Rattle.image.specs.Layout.{word}

-- a place as one number: by section, then by address
abbrev pub key_of : ℕ → ℕ → ℕ
key_of section address = section * 2 ^ 32 + address

abbrev pub key_at : List ℕ → ℕ → ℕ
key_at ws k = key_of (word ws k) (word ws (k + 1))

-- the places that begin at a word
abbrev pub places_at : List ℕ → ℕ → ℕ → ℕ → SectionAddress
places_at ws from stride j = record { section = word ws (from + j * stride); address = word ws (from + j * stride + 1) }

-- place number j is p
abbrev pub here_of : (ℕ → SectionAddress) → SectionAddress → ℕ → Bool
here_of at p j = eqb (at j).section p.section && eqb (at j).address p.address
