-- The walk's answer: document 01's refusals in their order, else the walk from its starts, and what it leaves.
-- Assumes nothing.
use Rattle.std.specs.Prelude.{ℕ, ⊤, Result, Ok, Err, List, [], ◌∷◌, length, Option}
use Rattle.words.specs.Choice.{pick}
use Rattle.places.specs.declared.SectionAddress.{SectionAddress}
use Rattle.image.specs.Rules.{code_words, sound}
use Rattle.lookups.specs.Code.{code_place}
use Rattle.vm.specs.declared.VM.{VM}
use Rattle.vm.specs.States.{bases_of}
use Rattle.stack.specs.Stack.{Entry, room}
use Rattle.visited.specs.Bits.{has_room}
use Rattle.jump_tables.specs.Tables.{Outcome}
use Rattle.turns.specs.declared.WalkError.{WalkError}
use Rattle.turns.specs.declared.WalkError.TheVariants as error
use Rattle.turns.specs.declared.Walked.{Walked}
use Rattle.turns.specs.Grounds.{Ground, Conf, Event}
use Rattle.turns.specs.Turns.{start_of, walk_of}
use Rattle.turns.specs.Histories.{steps, blocks, tables_read, tables_not_read, in_order}
use Rattle.turns.specs.Moves.{Asked, Lent, is_read, ground_of}
use Rattle.lookups.specs.declared.PlaceError.TheVariants as place
use Rattle.lookups.specs.declared.PlaceError.{PlaceError}

-- what a walk is given
pub record Given : Type 0 where
  -- the image's tables and its data
  pub tables : List ℕ
  pub bytes : List ℕ
  -- the starts in turn, and the numbers of r2 and r13
  pub starts : List SectionAddress
  pub two : Option ℕ
  pub thirteen : Option ℕ
  -- the function bounds of guessed tables
  pub from : SectionAddress
  pub upto : Option SectionAddress

abbrev pub given : List ℕ → List ℕ → List SectionAddress → Option ℕ → Option ℕ → SectionAddress → Option SectionAddress → Given
given ws bs starts two thirteen from upto =
    record { tables = ws; bytes = bs; starts = starts; two = two; thirteen = thirteen; from = from; upto = upto }

-- where a walk over an image stands
abbrev pub Standing : Type 0
Standing = Conf SectionAddress VM Asked Outcome Entry Lent

-- document 01's number of each refusal
abbrev pub error_number : WalkError → ℕ
error_number error.BrokenImage = 1
error_number error.NotCode = 2
error_number error.Misaligned = 3
error_number error.MapTooSmall = 4
error_number error.StackFull = 5

-- and of each answer: 0 for a walk that ran to its end
abbrev pub answer_of : Result ⊤ WalkError → ℕ
answer_of (Ok u) = 0
answer_of (Err e) = error_number e

-- "judge all starts in turn (2, then 3)": the first bad one decides
abbrev pub judged_by : Result ⊤ PlaceError → Result ⊤ WalkError → Result ⊤ WalkError
judged_by (Err place.NotCode) z = Err error.NotCode
judged_by (Err place.Misaligned) z = Err error.Misaligned
judged_by (Ok tt) z = z

unfoldable pub starts_judged : List ℕ → List SectionAddress → Result ⊤ WalkError
starts_judged ws [] = Ok tt
starts_judged ws (p ∷ ps) = judged_by (code_place ws p) (starts_judged ws ps)

-- 1, 4, then the starts
unfoldable pub judged : Given → List ℕ → Result ⊤ WalkError
judged i vis =
    pick (sound i.tables (length i.bytes))
    (pick (has_room vis (code_words i.tables)) (starts_judged i.tables i.starts) (Err error.MapTooSmall))
    (Err error.BrokenImage)

-- the ground of what is given
abbrev pub ground_in : Given → Lent → Ground SectionAddress VM Asked Outcome Entry Lent
ground_in i lent = ground_of i.tables i.bytes i.from i.upto (room (length lent.stack))

-- "push each start with a fresh state (given r2 and r13 numbers, if any, as Constants)"
abbrev pub start_in : Given → List ℕ → Lent → Standing
start_in i vis lent = start_of (ground_in i lent) i.starts (bases_of i.two i.thirteen) lent vis

-- "run until the stack is empty, also past Ended"
unfoldable pub walk_over : Given → List ℕ → Lent → Standing
walk_over i vis lent = walk_of (ground_in i lent) (start_in i vis lent)

-- the walk's history, the earliest event first
abbrev pub history_of : Standing → List (Event SectionAddress VM Asked Outcome)
history_of c = in_order c.pile.log

-- what a walk answers and leaves: the counts, how many states wait, the visited map, the lent words
pub record Leaves : Type 0 where
  pub result : Walked
  pub vis : List ℕ
  pub lent : Lent

-- "On 1, 4, 2, 3" nothing is touched and the counts are 0
abbrev pub refused_with : WalkError → List ℕ → Lent → Leaves
refused_with e vis lent =
    record { result = record { answer = Err e; stepped = 0; begun = 0; read = 0; not_read = 0; held = 0 }; vis = vis; lent = lent }

-- "In a walk 5 ends it: bits and stack stay as reached, with true counts"
abbrev pub left_by : Standing → Leaves
left_by c = record {
  result = record {
    answer = pick c.pile.full (Err error.StackFull) (Ok tt);
    stepped = steps c.pile.log;
    begun = blocks c.pile.log;
    read = tables_read (λ o. is_read o) c.pile.log;
    not_read = tables_not_read (λ o. is_read o) c.pile.log;
    held = length c.pile.stack;
  };
  vis = c.vis;
  lent = c.pile.lent;
}

-- by the judgement: the walk where nothing is refused
abbrev pub unless_refused : Result ⊤ WalkError → Leaves → (WalkError → Leaves) → Leaves
unless_refused (Ok u) z f = z
unless_refused (Err e) z f = f e

-- the walk
unfoldable pub walked : Given → List ℕ → Lent → Leaves
walked i vis lent = unless_refused (judged i vis) (left_by (walk_over i vis lent)) (λ e. refused_with e vis lent)
