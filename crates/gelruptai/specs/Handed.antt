-- What a call hands back, in the buffers that it was lent.
-- Assumes nothing.
use Rattle.std.specs.Prelude.{ℕ, ◌+◌, ◌*◌, List, [], ◌∷◌, Result, Ok, Err}
use Rattle.slot.specs.Layout.{slot_size}
use Rattle.turns.specs.declared.Walked.{Walked}
use Rattle.turns.specs.Walks.{Leaves, given, walked, answer_of}
use Rattle.walk.specs.Starts.{places_of}
use Rattle.jump_tables.specs.declared.Table.{Table}
use Rattle.jump_tables.specs.declared.TableError.{TableError}
use Rattle.jump_tables.specs.Tables.{Outcome, count_of, bytes_of, table_of}
use Rattle.image_file.specs.declared.Fault.{Fault}
use Rattle.image_file.specs.declared.Head.{Head}
use Rattle.image_file.specs.Reading.{data_from}
use Rattle.gelruptai.specs.Given.{base_in, place_in, maybe_in, given_words}

-- the words of a stack for so many states: two, and for each a slot and its number in the order table
abbrev pub stack_words : ℕ → ℕ
stack_words n = 2 + n * (slot_size + 1)

-- a walk's answer and buffers
pub record Handed : Type 0 where
  pub answer : ℕ
  pub counts : List ℕ
  pub map : List ℕ
  pub stack : List ℕ
  pub entries : List ℕ

-- stepped, begun, read, not read, waiting
abbrev pub walk_counts : Walked → List ℕ
walk_counts w = w.stepped ∷ w.begun ∷ w.read ∷ w.not_read ∷ w.held ∷ []

abbrev pub handed : Leaves → Handed
handed l =
    record {
      answer = answer_of l.result.answer;
      counts = walk_counts l.result;
      map = l.vis;
      stack = l.lent.stack;
      entries = l.lent.entries;
    }

-- the walk of crate `turns`, with what it is given read from nine words
abbrev pub walk_on : List ℕ → List ℕ → List ℕ → List ℕ → List ℕ → List ℕ → List ℕ → Handed
walk_on ws bs starts g vis stack entries =
    handed
    (walked (given ws bs (places_of starts) (base_in g 0) (base_in g 2) (place_in g 4) (maybe_in g 6)) vis
    (record { stack = stack; entries = entries }))

-- the table at a place, guessed within the function bounds of the nine words
abbrev pub table_on : List ℕ → List ℕ → ℕ → ℕ → ℕ → List ℕ → List ℕ → Outcome
table_on ws bs section address size g entries =
    table_of ws bs (record { section = section; address = address }) size (place_in g 4) (maybe_in g 6) entries

-- entries, bytes passed
abbrev pub table_counts : Result Table TableError → List ℕ
table_counts t = count_of t ∷ bytes_of t ∷ []

-- a file's nine words, and: image words, starts, where the data begins, data bytes; or where something is wrong
abbrev pub file_given : Result Head Fault → List ℕ → List ℕ
file_given (Err f) g = g
file_given (Ok h) g = given_words h

abbrev pub file_counts : List ℕ → Result Head Fault → List ℕ
file_counts bs (Err f) = f.at ∷ 0 ∷ 0 ∷ 0 ∷ []
file_counts bs (Ok h) = h.words ∷ h.starts ∷ data_from bs ∷ h.bytes ∷ []
