-- The answers of writing and reading a report, and what each leaves, for all inputs.
-- Assumes nothing.
use Rattle.std.specs.Prelude.{ℕ, List, ◌++◌, length, drop, replicate, leb, Result, Ok, Err, ⊤}
use Rattle.words.specs.Choice.{pick}
use Rattle.image.specs.Rules.{sound, code_words}
use Rattle.visited.specs.Bits.{has_room}
use Rattle.report.specs.declared.WriteError.{WriteError}
use Rattle.report.specs.declared.WriteError.TheVariants as write
use Rattle.report.specs.declared.ReadError.{ReadError}
use Rattle.report.specs.declared.ReadError.TheVariants as read
use Rattle.report.specs.Bytes.{report_of}
use Rattle.report.specs.Reading.{on_place, read_report}
use Rattle.report.specs.Marks.{map_of}

-- one of three, in document 01's order: a broken image, a map with fewer than W bits, else
abbrev pub judged_first : {A : Type 0} → List ℕ → ℕ → List ℕ → A → A → A → A
judged_first im n ws broken small else = pick (sound im n) (pick (has_room ws (code_words im)) else small) broken

-- writing: 1, 4, 10, or how many bytes the report has
abbrev pub write_answer : List ℕ → ℕ → List ℕ → ℕ → Result ℕ WriteError
write_answer im n ws room =
    judged_first im n ws (Err write.BrokenImage) (Err write.SmallMap)
    (pick (leb (length (report_of im ws)) room) (Ok (length (report_of im ws))) (Err write.NoRoom))

-- the report, and past it the bytes as they were; all zeros for 10; untouched for 1 and 4
abbrev pub write_leaves : List ℕ → ℕ → List ℕ → List ℕ → List ℕ
write_leaves im n ws out =
    judged_first im n ws out out
    (pick (leb (length (report_of im ws)) (length out)) (report_of im ws ++ drop (length (report_of im ws)) out) (replicate (length out) 0))

abbrev pub write_error : WriteError → ℕ
write_error write.BrokenImage = 1
write_error write.SmallMap = 4
write_error write.NoRoom = 10

abbrev pub write_number : Result ℕ WriteError → ℕ
write_number (Ok k) = 0
write_number (Err e) = write_error e

-- reading: 1, 4, 13, or done
abbrev pub read_answer : List ℕ → ℕ → List ℕ → List ℕ → Result ⊤ ReadError
read_answer im n s ws =
    judged_first im n ws (Err read.BrokenImage) (Err read.SmallMap) (on_place (read_report im s).end (λ e. Ok tt) (Err read.NoReport))

-- the W bits set from the report; the map untouched for 1, 4 and 13
abbrev pub read_leaves : List ℕ → ℕ → List ℕ → List ℕ → List ℕ
read_leaves im n s ws = judged_first im n ws ws ws (on_place (read_report im s).end (λ e. map_of im ws (read_report im s).runs) ws)

abbrev pub read_error : ReadError → ℕ
read_error read.BrokenImage = 1
read_error read.SmallMap = 4
read_error read.NoReport = 13

abbrev pub read_number : Result ⊤ ReadError → ℕ
read_number (Ok u) = 0
read_number (Err e) = read_error e
