-- Maximal runs of visited words, section by section.
-- Assumes nothing.
use Rattle.std.specs.Prelude.{ℕ, zero, suc, ◌+◌, Bool, true, false, List, [], ◌∷◌}
use Rattle.image.specs.Layout.{sections, section_at}
use Rattle.image.specs.Rules.{words_of, words_before}
use Rattle.visited.specs.Bits.{visited_at}

-- `len` visited words after `gap` words that are not
pub record Run : Type 0 where
  pub gap : ℕ
  pub len : ℕ

abbrev pub run : ℕ → ℕ → Run
run g l = record { gap = g; len = l }

-- the run that has begun: one of no words is none
abbrev pub begun : ℕ → ℕ → List Run
begun g zero = []
begun g (suc l) = run g (suc l) ∷ []

-- the maximal runs of some words, where g words not visited and then l visited ones were passed
unfoldable pub runs : ℕ → ℕ → List Bool → List Run
runs g l [] = begun g l
runs g l (true ∷ bs) = runs g (suc l) bs
runs g zero (false ∷ bs) = runs (suc g) zero bs
runs g (suc l) (false ∷ bs) = run g (suc l) ∷ runs 1 zero bs

abbrev pub runs_of : List Bool → List Run
runs_of bs = runs 0 0 bs

-- f at k numbers from i on
unfoldable pub tab : {A : Type 0} → (ℕ → A) → ℕ → ℕ → List A
tab f i zero = []
tab f i (suc k) = f i ∷ tab f (i + 1) k

-- the Code words of section i; a section of another kind has none
abbrev pub words_at : List ℕ → ℕ → ℕ
words_at im i = words_of (section_at im i)

-- the runs of section i, from a map
abbrev pub runs_in : List ℕ → List ℕ → ℕ → List Run
runs_in im ws i = runs_of (tab (visited_at ws) (words_before im i) (words_at im i))

-- those of every section, in order
abbrev pub all_runs : List ℕ → List ℕ → List (List Run)
all_runs im ws = tab (runs_in im ws) 0 (sections im)
