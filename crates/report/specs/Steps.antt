-- What the parts of the writer promise to each other.
-- Assumes nothing.
use Rattle.std.specs.Prelude.{◌≡◌, Bool, true, false, List, ◌∷◌, ℕ, ◌+◌, ◌≤◌, length}
use Rattle.std.proofs.lemmas.List.Edits.{sets}
use Rattle.report.specs.declared.Scan.{Scan}
use Rattle.report.specs.Runs.{runs}
use Rattle.report.specs.Bytes.{run_bytes}

-- xs was laid into a buffer from a place on, and r is the place after it; what the buffer does not reach is passed over
pub record Laid (buf after : List ℕ) (at : ℕ) (xs : List ℕ) (r : ℕ) : Type 0 where
  pub place : r ≡ at + length xs
  pub bytes : after ≡ sets buf at xs

-- the bytes of the runs that a scan has yet to write, where the words to come are bs
abbrev pub yet : Scan → List Bool → List ℕ
yet s bs = run_bytes (runs s.gap s.len bs)

-- one word more of a scan: whatever words come after it, the same bytes go to the same places
pub record Turned (buf after : List ℕ) (s t : Scan) (v : Bool) : Type 0 where
  pub long : length after ≡ length buf
  pub place : (bs : List Bool) → t.at + length (yet t bs) ≡ s.at + length (yet s (v ∷ bs))
  pub bytes : (bs : List Bool) → sets after t.at (yet t bs) ≡ sets buf s.at (yet s (v ∷ bs))
  pub small : t.gap + t.len ≤ s.gap + s.len + 1

-- the runs that end before a word, where the word before it was visited or not
abbrev pub closed_by : Bool → Bool → ℕ
closed_by true false = 1
closed_by true true = 0
closed_by false v = 0
