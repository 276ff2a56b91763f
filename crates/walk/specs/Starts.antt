-- What comes before the first block: the judgement, and the starts pushed.
-- Assumes nothing.
use Rattle.std.specs.Prelude.{ℕ, ◌≡◌, Result, Ok, Err, IfOk, IfErr, List, map, Option}
use Rattle.places.specs.declared.SectionAddress.{SectionAddress}
use Rattle.turns.specs.declared.WalkError.{WalkError}
use Rattle.turns.specs.Moves.{place_of}
use Rattle.turns.specs.Walks.{given, judged}
use Rattle.turns.specs.Heads.{Head}
use Rattle.walk.specs.declared.Begun.{Begun}

-- a start is its section's index times 2^32 plus its address
abbrev pub places_of : List ℕ → List SectionAddress
places_of starts = map place_of starts

-- judged, and the map cleared and the starts pushed; or refused, and nothing touched
pub record Begins (ws bs starts : List ℕ) (two thirteen : Option ℕ) (vis words : List ℕ) (r : Result Begun WalkError) (vis' words' : List ℕ) : Type 0 where
  pub refused : IfErr r (λ e. ((from : SectionAddress) (upto : Option SectionAddress) → judged (given ws bs (places_of starts) two thirteen from upto) vis ≡ Err e)
      × (vis' ≡ vis) × (words' ≡ words))
  pub begun : IfOk r (λ b. (from : SectionAddress) (upto : Option SectionAddress) (buffer : List ℕ)
      → (judged (given ws bs (places_of starts) two thirteen from upto) vis ≡ Ok tt)
      × Head (given ws bs (places_of starts) two thirteen from upto) vis (record { stack = words; entries = buffer }) words' b.held buffer b.full vis' 0 0 0 0)
