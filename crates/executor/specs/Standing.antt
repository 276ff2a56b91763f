-- Where an execution stands, and the numbers of the answers.
-- Assumes nothing.
use Rattle.std.specs.Prelude.{ℕ, Bool, List, [], ◌∷◌, Result, Ok, Err}
use Rattle.words.specs.Choice.{pick}
use Rattle.places.specs.declared.SectionAddress.{SectionAddress}
use Rattle.vm.specs.declared.VM.{VM}
use Rattle.vm.specs.States.{fresh}
use Rattle.stack.specs.Stack.{Entry}
use Rattle.executor.specs.declared.Phase.{Phase}
use Rattle.executor.specs.declared.Phase.TheVariants as phase
use Rattle.executor.specs.declared.Execution.{Execution}
use Rattle.executor.specs.declared.Refusal.{Refusal}
use Rattle.executor.specs.declared.Refusal.TheVariants as refusal

-- the waiting states (the next to pop last), the visited words, and what is under way
pub record Standing : Type 0 where
  pub stack : List Entry
  pub map : List ℕ
  pub run : Execution

abbrev pub standing : List Entry → List ℕ → Execution → Standing
standing es v run = record { stack = es; map = v; run = run }

abbrev pub execution : Phase → SectionAddress → SectionAddress → VM → Execution
execution ph at start s = record { phase = ph; at = at; block_start = start; vm = s }

-- nothing is under way any more: place and state stay behind, and no call reads them
abbrev pub dropped : Execution → Execution
dropped run = execution phase.Idle run.at run.block_start run.vm

-- nothing is under way yet, and all is Unknown
abbrev pub at_rest : Execution
at_rest = execution phase.Idle (record { section = 0; address = 0 }) (record { section = 0; address = 0 }) fresh

-- by cases: nothing under way, running, waiting
abbrev pub on_phase : {B : Type 0} → Phase → B → B → B → B
on_phase phase.Idle i r w = i
on_phase phase.Running i r w = r
on_phase phase.Waiting i r w = w

-- by cases: refused, or not
abbrev pub on_answer : {A B : Type 0} → Result A Refusal → (Refusal → B) → (A → B) → B
on_answer (Err why) f g = f why
on_answer (Ok a) f g = g a

-- document 01's number of each refusal
abbrev pub refusal_number : Refusal → ℕ
refusal_number refusal.BrokenImage = 1
refusal_number refusal.BadStack = 12
refusal_number refusal.SmallMap = 4
refusal_number refusal.OutOfTurn = 11
refusal_number refusal.OtherSection = 6
refusal_number refusal.NotCode = 2
refusal_number refusal.Misaligned = 3
refusal_number refusal.StackFull = 5

-- and of each answer: 0 where the call is not refused
abbrev pub number_of : {A : Type 0} → Result A Refusal → ℕ
number_of (Err why) = refusal_number why
number_of (Ok a) = 0

-- what a caller has after a call: what it answered, or, refused, what he had
abbrev pub kept_of : {A : Type 0} → A → Result A Refusal → A
kept_of a (Err why) = a
kept_of a (Ok b) = b

-- the number of the first test that fails, or 0
unfoldable pub first_failing : List (Bool × ℕ) → ℕ
first_failing [] = 0
first_failing (t ∷ ts) = pick t.0 (first_failing ts) t.1
