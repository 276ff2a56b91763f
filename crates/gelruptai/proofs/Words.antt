-- Nine words written one by one are those of a file's head, and read back they give what the head gave.
-- Assumes nothing.
use Rattle.std.specs.Prelude.{Option, Some, None}
use Prim.Native.Nat.{ℕ}
use mathlib.Core.List.{List, [], ◌∷◌, ◌++◌}
use mathlib.Core.Path.{◌≡◌, refl}
use lib.ListN.{get_or}
use Rattle.places.specs.declared.SectionAddress.{SectionAddress}
use Rattle.image_file.specs.declared.Head.{Head}
use Rattle.gelruptai.specs.Given.{base_in, place_in, maybe_in, base_words, maybe_words, given_words}

-- element by element
abbrev each : Option ℕ → Option ℕ → ℕ → ℕ → Option SectionAddress → List ℕ
each a b s t p =
    get_or (base_words a) 0 0 ∷ get_or (base_words a) 1 0 ∷ get_or (base_words b) 0 0 ∷ get_or (base_words b) 1 0 ∷ s ∷ t
    ∷ get_or (maybe_words p) 0 0 ∷ get_or (maybe_words p) 1 0 ∷ get_or (maybe_words p) 2 0 ∷ []

pub nine_words : (a b : Option ℕ) (s t : ℕ) (p : Option SectionAddress) → each a b s t p ≡ base_words a ++ (base_words b ++ (s ∷ t ∷ maybe_words p))
nine_words None None s t None = refl
nine_words None None s t (Some p) = refl
nine_words None (Some n) s t None = refl
nine_words None (Some n) s t (Some p) = refl
nine_words (Some m) None s t None = refl
nine_words (Some m) None s t (Some p) = refl
nine_words (Some m) (Some n) s t None = refl
nine_words (Some m) (Some n) s t (Some p) = refl

-- so that a walk over a file's nine words is given what the file says
abbrev ReadBack : Option ℕ → Option ℕ → SectionAddress → Option SectionAddress → List ℕ → Type 0
ReadBack a b s p g = (base_in g 0 ≡ a) × (base_in g 2 ≡ b) × (place_in g 4 ≡ s) × (maybe_in g 6 ≡ p)

read_back : (a b : Option ℕ) (s : SectionAddress) (p : Option SectionAddress)
    → ReadBack a b s p (base_words a ++ (base_words b ++ (s.section ∷ s.address ∷ maybe_words p)))
read_back None None s None = (refl, refl, refl, refl)
read_back None None s (Some p) = (refl, refl, refl, refl)
read_back None (Some n) s None = (refl, refl, refl, refl)
read_back None (Some n) s (Some p) = (refl, refl, refl, refl)
read_back (Some m) None s None = (refl, refl, refl, refl)
read_back (Some m) None s (Some p) = (refl, refl, refl, refl)
read_back (Some m) (Some n) s None = (refl, refl, refl, refl)
read_back (Some m) (Some n) s (Some p) = (refl, refl, refl, refl)

pub given_is_read_back : (h : Head) → ReadBack h.two h.thirteen h.from h.upto (given_words h)
given_is_read_back h = read_back h.two h.thirteen h.from h.upto
