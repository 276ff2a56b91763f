-- What a walk is given besides its starts, as nine words: r2 (given, number), r13 (given, number), function start (section, address),
-- function end (given, section, address). Given is 1. Assumes nothing.
use Rattle.std.specs.Prelude.{ℕ, ◌+◌, List, [], ◌∷◌, ◌++◌, eqb, get_or, Option, Some, None}
use Rattle.words.specs.Choice.{pick}
use Rattle.places.specs.declared.SectionAddress.{SectionAddress}
use Rattle.image_file.specs.declared.Head.{Head}

-- a number that may be given, a place, a place that may be given
abbrev pub base_in : List ℕ → ℕ → Option ℕ
base_in g k = pick (eqb (get_or g k 0) 1) (Some (get_or g (k + 1) 0)) None

abbrev pub place_in : List ℕ → ℕ → SectionAddress
place_in g k = record { section = get_or g k 0; address = get_or g (k + 1) 0 }

abbrev pub maybe_in : List ℕ → ℕ → Option SectionAddress
maybe_in g k = pick (eqb (get_or g k 0) 1) (Some (place_in g (k + 1))) None

-- the same written as words
abbrev pub base_words : Option ℕ → List ℕ
base_words None = 0 ∷ 0 ∷ []
base_words (Some n) = 1 ∷ n ∷ []

abbrev pub maybe_words : Option SectionAddress → List ℕ
maybe_words None = 0 ∷ 0 ∷ 0 ∷ []
maybe_words (Some p) = 1 ∷ p.section ∷ p.address ∷ []

-- the nine words of a file's head
abbrev pub given_words : Head → List ℕ
given_words h = base_words h.two ++ (base_words h.thirteen ++ (h.from.section ∷ h.from.address ∷ maybe_words h.upto))
