-- The bytes of a report, version 1.
-- Assumes nothing.
use Rattle.std.specs.Prelude.{ℕ, List, [], ◌∷◌, ◌++◌, length}
use Rattle.varint.specs.Groups.{varint}
use Rattle.report.specs.Runs.{Run, all_runs}

-- each run is the gap in words and the length
unfoldable pub run_bytes : List Run → List ℕ
run_bytes [] = []
run_bytes (r ∷ rs) = varint r.gap ++ varint r.len ++ run_bytes rs

-- a section is the run count, then its runs
abbrev pub section_bytes : List Run → List ℕ
section_bytes rs = varint (length rs) ++ run_bytes rs

unfoldable pub sections_bytes : List (List Run) → List ℕ
sections_bytes [] = []
sections_bytes (rs ∷ rss) = section_bytes rs ++ sections_bytes rss

-- version 1, the section count, the sections
abbrev pub report_bytes : List (List Run) → List ℕ
report_bytes rss = varint 1 ++ varint (length rss) ++ sections_bytes rss

-- the report of an image and a map
abbrev pub report_of : List ℕ → List ℕ → List ℕ
report_of im ws = report_bytes (all_runs im ws)
