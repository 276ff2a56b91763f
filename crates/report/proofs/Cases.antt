-- The report of document 01's C13 (crate `cases`) written and read: what the two functions answer and leave, by computation.
-- Assumes nothing.
use mathlib.Core.Path.{◌≡◌, refl}
use mathlib.Core.List.{List, [], ◌∷◌}
use Prim.Native.Nat.{ℕ}
use Rattle.search.specs.Every.{every}
use Rattle.image.specs.Rules.{sections_sound, elf_distinct, sections_apart, words_before, bounds_sound, ascending, unbounds_sound, symbols_sound, tables_sound, data_inside}
use Rattle.varint.specs.Groups.{groups, read_groups}
use Rattle.visited.specs.Bits.{with_run, cleared}
use Rattle.std.specs.Prelude.{Ok}
use Rattle.report.specs.Runs.{runs, tab}
use Rattle.report.specs.Bytes.{run_bytes, sections_bytes}
use Rattle.report.specs.Reading.{read_runs, read_sections, read_report}
use Rattle.report.specs.Marks.{with_runs, with_sections}
use Rattle.report.specs.Answers.{write_answer, write_leaves, read_answer, read_leaves}

-- an Executable, module 0, one section and no further tables; 32 bytes of Code at 80000000, elf number 1, data at place 0
abbrev c13_image : List ℕ
c13_image = 0 ∷ 0 ∷ 1 ∷ 0 ∷ 0 ∷ 0 ∷ 0x80000000 ∷ 32 ∷ 0 ∷ 1 ∷ 0 ∷ 32 ∷ []

-- bits 0, 1, 2 and 5
abbrev c13_map : List ℕ
c13_map = 0x27 ∷ []

abbrev c13_report : List ℕ
c13_report = 0x01 ∷ 0x01 ∷ 0x02 ∷ 0x00 ∷ 0x03 ∷ 0x02 ∷ 0x01 ∷ []

-- written into eight bytes it leaves the last as it was
pub c13_written : write_answer c13_image 32 c13_map 8 ≡ Ok 7
unfolding every sections_sound elf_distinct sections_apart words_before bounds_sound ascending unbounds_sound symbols_sound tables_sound data_inside groups runs tab run_bytes sections_bytes
c13_written = refl

pub c13_leaves : write_leaves c13_image 32 c13_map (9 ∷ 9 ∷ 9 ∷ 9 ∷ 9 ∷ 9 ∷ 9 ∷ 9 ∷ []) ≡ 0x01 ∷ 0x01 ∷ 0x02 ∷ 0x00 ∷ 0x03 ∷ 0x02 ∷ 0x01 ∷ 9 ∷ []
unfolding every sections_sound elf_distinct sections_apart words_before bounds_sound ascending unbounds_sound symbols_sound tables_sound data_inside groups runs tab run_bytes sections_bytes
c13_leaves = refl

-- read into a map of ones it sets the 8 bits, and those above stay
pub c13_read : read_answer c13_image 32 c13_report (0xFFFFFFFF ∷ []) ≡ Ok tt
unfolding every sections_sound elf_distinct sections_apart words_before bounds_sound ascending unbounds_sound symbols_sound tables_sound data_inside read_groups read_runs read_sections read_report
c13_read = refl

pub c13_bits : read_leaves c13_image 32 c13_report (0xFFFFFFFF ∷ []) ≡ 0xFFFFFF27 ∷ []
unfolding every sections_sound elf_distinct sections_apart words_before bounds_sound ascending unbounds_sound symbols_sound tables_sound data_inside read_groups read_runs read_sections read_report with_run cleared with_runs with_sections
c13_bits = refl
