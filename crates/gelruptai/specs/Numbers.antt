-- Answers as numbers. Those of a walk and of reports are `answer_of`, `write_number` and `read_number` of their own crates.
-- Assumes nothing.
use Rattle.std.specs.Prelude.{ℕ, Option, Some, None, Result, Ok, Err}
use Rattle.faults.specs.declared.Rule.{Rule}
use Rattle.faults.specs.declared.Rule.TheVariants as rule
use Rattle.jump_tables.specs.declared.Table.{Table}
use Rattle.jump_tables.specs.declared.TableError.{TableError}
use Rattle.jump_tables.specs.Tables.{error_number}
use Rattle.report.specs.declared.WriteError.{WriteError}
use Rattle.image_file.specs.declared.Wrong.{Wrong}
use Rattle.image_file.specs.declared.Wrong.TheVariants as wrong
use Rattle.image_file.specs.declared.Fault.{Fault}
use Rattle.image_file.specs.declared.Head.{Head}

-- the image rule that is broken first, by the order in which they are judged, or none
abbrev pub rule_number : Option Rule → ℕ
rule_number None = 0
rule_number (Some rule.Words) = 1
rule_number (Some rule.Counts) = 2
rule_number (Some rule.Kind) = 3
rule_number (Some rule.Sections) = 4
rule_number (Some rule.ElfNumbers) = 5
rule_number (Some rule.Overlaps) = 6
rule_number (Some rule.CodeWords) = 7
rule_number (Some rule.Bounds) = 8
rule_number (Some rule.BoundOrder) = 9
rule_number (Some rule.Unbounds) = 10
rule_number (Some rule.Symbols) = 11
rule_number (Some rule.SymbolOrder) = 12
rule_number (Some rule.Data) = 13

-- document 01's numbers of a table's refusals
abbrev pub table_number : Result Table TableError → ℕ
table_number (Ok t) = 0
table_number (Err e) = error_number e

-- a report's length, 0 where none was written
abbrev pub length_of : Result ℕ WriteError → ℕ
length_of (Ok k) = k
length_of (Err e) = 0

-- what is wrong with a file, in the order of docs/FORMATS.md
abbrev pub wrong_number : Wrong → ℕ
wrong_number wrong.Short = 1
wrong_number wrong.Magic = 2
wrong_number wrong.Version = 3
wrong_number wrong.Flag = 4
wrong_number wrong.Unused = 5
wrong_number wrong.Truncated = 6
wrong_number wrong.Trailing = 7
wrong_number wrong.WordsRoom = 8
wrong_number wrong.StartsRoom = 9

abbrev pub file_number : Result Head Fault → ℕ
file_number (Err f) = wrong_number f.wrong
file_number (Ok h) = 0
