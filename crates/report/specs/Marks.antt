-- The map with the words of runs visited.
-- Assumes nothing.
use Rattle.std.specs.Prelude.{ℕ, ◌+◌, List, [], ◌∷◌}
use Rattle.image.specs.Rules.{words_before, code_words}
use Rattle.visited.specs.Bits.{with_run, cleared}
use Rattle.report.specs.Runs.{Run}

-- the runs of words from bit b on
unfoldable pub with_runs : List ℕ → ℕ → List Run → List ℕ
with_runs ws b [] = ws
with_runs ws b (r ∷ rs) = with_runs (with_run ws (b + r.gap) r.len) (b + r.gap + r.len) rs

-- the runs of sections from number i on
unfoldable pub with_sections : List ℕ → List ℕ → ℕ → List (List Run) → List ℕ
with_sections im ws i [] = ws
with_sections im ws i (rs ∷ rss) = with_sections im (with_runs ws (words_before im i) rs) (i + 1) rss

-- the W bits set from runs, those from W up as they were
abbrev pub map_of : List ℕ → List ℕ → List (List Run) → List ℕ
map_of im ws rss = with_sections im (cleared ws (code_words im)) 0 rss
