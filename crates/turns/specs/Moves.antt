-- What each word and each table of an image asks of the walk: document 01, section "Executor and walk", sentence by sentence.
-- Assumes nothing; it is meant for sound images.
use Rattle.std.specs.Prelude.{ℕ, ◌/◌, ◌%◌, ◌^◌, Bool, true, false, List, [], ◌∷◌, ◌++◌, map, take, eqb, Result, Ok, Err, ⊤, Option, Some, None}
use Rattle.words.specs.Choice.{pick}
use Rattle.words.specs.Bytes.{be32}
use Rattle.places.specs.Places.{moved}
use Rattle.places.specs.declared.SectionAddress.{SectionAddress}
use Rattle.places.specs.declared.RelocationTarget.{RelocationTarget}
use Rattle.places.specs.declared.RelocationTarget.TheVariants as target
use Rattle.image.specs.Rules.{code_words}
use Rattle.lookups.specs.Bytes.{offset_in}
use Rattle.lookups.specs.Code.{code_place, word_number}
use Rattle.vm.specs.declared.VM.{VM}
use Rattle.vm.specs.declared.BranchTarget.{BranchTarget}
use Rattle.vm.specs.declared.BranchTarget.TheVariants as branch
use Rattle.step.specs.declared.StepResult.{StepResult}
use Rattle.step.specs.declared.StepResult.TheVariants as result
use Rattle.step.specs.declared.Stepped.{Stepped}
use Rattle.step.specs.Step.{step_of}
use Rattle.stack.specs.Stack.{Entry, entry_key}
use Rattle.stack.specs.Push.{pushed_words}
use Rattle.jump_tables.specs.declared.TableError.TheVariants as error
use Rattle.jump_tables.specs.Tables.{Outcome, refused, answer_of, count_of, table_in, size_of}
use Rattle.turns.specs.Grounds.{Way, to, table, Move, on, jump, leave, Ground}
use Rattle.lookups.specs.declared.PlaceError.TheVariants as place
use Rattle.lookups.specs.declared.PlaceError.{PlaceError}

-- how many entries a table may have in a walk, and how many places one word can push: two ways of so many
abbrev pub table_room : ℕ
table_room = 1024

abbrev pub most_pushed : ℕ
most_pushed = 2048

-- a table that is asked for: where it is, and its size in bytes, 0 for none
pub record Asked : Type 0 where
  pub target : RelocationTarget
  pub size : ℕ

-- the lent words: the stack's, and the entry buffer
pub record Lent : Type 0 where
  pub stack : List ℕ
  pub entries : List ℕ

-- an aligned code address
abbrev pub is_fine : Result ⊤ PlaceError → Bool
is_fine (Err place.NotCode) = false
is_fine (Err place.Misaligned) = false
is_fine (Ok tt) = true

-- the word at a place: its four bytes in the buffer
abbrev pub word_of : List ℕ → List ℕ → SectionAddress → ℕ
word_of ws bs p = be32 bs (offset_in ws p.section p.address)

abbrev pub size_in : Option ℕ → ℕ
size_in None = 0
size_in (Some n) = n

abbrev pub asked_of : RelocationTarget → Option ℕ → Asked
asked_of t n = record { target = t; size = size_in n }

-- External leads nowhere
abbrev pub way_to : RelocationTarget → VM → List (Way SectionAddress VM Asked)
way_to target.External s = []
way_to (target.Address q) s = to q s ∷ []

-- a target's way: an address or a table; "Anything else ends the block"
abbrev pub ways_of : BranchTarget → VM → List (Way SectionAddress VM Asked)
ways_of branch.Unknown s = []
ways_of branch.Return s = []
ways_of (branch.Address t) s = way_to t s
ways_of (branch.JumpTable t n) s = table (asked_of t n) s ∷ []

-- "Jump to an aligned code address: in this section jump, in another push and end the block"
abbrev pub jump_to : SectionAddress → RelocationTarget → VM → Move SectionAddress VM Asked
jump_to p target.External s = leave []
jump_to p (target.Address q) s = pick (eqb q.section p.section) (jump q s) (leave (to q s ∷ []))

-- "A table, a jump's target .., is read ..; then the block ends"
abbrev pub jump_by : SectionAddress → BranchTarget → VM → Move SectionAddress VM Asked
jump_by p branch.Unknown s = leave []
jump_by p branch.Return s = leave []
jump_by p (branch.Address t) s = jump_to p t s
jump_by p (branch.JumpTable t n) s = leave (table (asked_of t n) s ∷ [])

-- by the step's result, its state, and the second way's
unfoldable pub move_by : SectionAddress → StepResult → VM → VM → Move SectionAddress VM Asked
-- "Continue and LoadStore continue"
move_by p result.Continue s o = on s
move_by p (result.LoadStore t g a) s o = on s
-- "Illegal ends the block"
move_by p result.Illegal s o = leave []
move_by p (result.Jump t) s o = jump_by p t s
-- "Branch: push each such target in order, linked ones too, each with its own state, then end the block"
move_by p (result.Branch b c) s o = leave (ways_of b.target s ++ ways_of c.target o)
-- no word of code of a sound image is refused
move_by p (result.Refused why) s o = leave []

abbrev pub move_from : SectionAddress → Stepped → Move SectionAddress VM Asked
move_from p r = move_by p r.result r.vm r.other

-- what the word at p asks in the state s
unfoldable pub move_at : List ℕ → List ℕ → SectionAddress → VM → Move SectionAddress VM Asked
move_at ws bs p s = move_from p (step_of ws p (word_of ws bs p) s)

-- "read with the given function bounds and 1,024 entries"; External is not read
abbrev pub look_to : List ℕ → List ℕ → SectionAddress → Option SectionAddress → RelocationTarget → ℕ → Outcome
look_to ws bs from upto target.External n = refused error.PointsNowhere table_room
look_to ws bs from upto (target.Address p) n = table_in ws bs p n from upto table_room

unfoldable pub look_at : List ℕ → List ℕ → SectionAddress → Option SectionAddress → Asked → Outcome
look_at ws bs from upto a = look_to ws bs from upto a.target a.size

-- "A refused or External table adds one to "tables not read"": all others were read, empty or not
abbrev pub is_read : Outcome → Bool
is_read o = eqb (answer_of o.table) 0

-- an entry is its section's index times 2^32 plus its address
abbrev pub place_of : ℕ → SectionAddress
place_of k = record { section = k / 2 ^ 32; address = k % 2 ^ 32 }

-- the entries, ascending; a refused table has none
abbrev pub listed_in : Outcome → List SectionAddress
listed_in o = map place_of (take (count_of o.table) o.keys)

-- the table has no known size: neither its symbol's nor the found one
abbrev pub guessed_to : List ℕ → RelocationTarget → ℕ → Bool
guessed_to ws target.External n = true
guessed_to ws (target.Address p) n = eqb (size_of ws p n) 0

abbrev pub is_guessed : List ℕ → Asked → Bool
is_guessed ws a = guessed_to ws a.target a.size

-- the stack's words after a sorted push onto n states
abbrev pub pushing : Lent → ℕ → SectionAddress → VM → Lent
pushing m n p s = record { stack = pushed_words m.stack n p s true; entries = m.entries }

-- the entry buffer after a table was asked for; External leaves it
abbrev pub reading_to : RelocationTarget → List ℕ → List ℕ → List ℕ
reading_to target.External old new = old
reading_to (target.Address p) old new = new

abbrev pub reading : Lent → Asked → Outcome → Lent
reading m a o = record { stack = m.stack; entries = reading_to a.target m.entries o.keys }

-- the ground of an image: tables ws, data bs, function bounds, and so many slots
abbrev pub ground_of : List ℕ → List ℕ → SectionAddress → Option SectionAddress → ℕ → Ground SectionAddress VM Asked Outcome Entry Lent
ground_of ws bs from upto slots = record {
  words = code_words ws;
  slots = slots;
  most = most_pushed;
  is_word = λ p. is_fine (code_place ws p);
  number = λ p. word_number ws p;
  next = λ p. moved p 4;
  entry = λ p s. record { place = p; state = s };
  place = λ e. e.place;
  state = λ e. e.state;
  key = λ e. entry_key e;
  move = move_at ws bs;
  look = look_at ws bs from upto;
  is_read = λ o. is_read o;
  listed = λ o. listed_in o;
  pushing = pushing;
  reading = reading;
}
