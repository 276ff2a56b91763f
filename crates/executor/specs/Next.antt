-- `next`: the next word of a run, else of the highest unvisited waiting state.
-- Assumes nothing.
use Rattle.std.specs.Prelude.{ℕ, ◌-◌, ◌≤◌, ◌≡◌, Bool, true, false, List, [], ◌∷◌, eqb, length, Option, Some, None, Result, Ok, Err}
use Rattle.std.specs.Result.{result_and}
use Rattle.words.specs.Choice.{pick}
use Rattle.words.specs.Bytes.{be32}
use Rattle.places.specs.declared.SectionAddress.{SectionAddress}
use Rattle.lookups.specs.Bytes.{offset_in}
use Rattle.lookups.specs.Code.{word_number}
use Rattle.vm.specs.declared.VM.{VM}
use Rattle.step.specs.declared.StepResult.{StepResult}
use Rattle.step.specs.declared.StepResult.TheVariants as result
use Rattle.step.specs.declared.Stepped.{Stepped}
use Rattle.step.specs.Step.{step_of}
use Rattle.stack.specs.Stack.{Entry, entries, held_at}
use Rattle.visited.specs.Bits.{visited_at, with_bit}
use Rattle.executor.specs.declared.Refusal.{Refusal}
use Rattle.executor.specs.declared.Refusal.TheVariants as refusal
use Rattle.executor.specs.declared.Phase.TheVariants as phase
use Rattle.executor.specs.declared.Execution.{Execution}
use Rattle.executor.specs.declared.Handed.{Handed}
use Rattle.executor.specs.Standing.{Standing, standing, execution, dropped, on_phase, on_answer}
use Rattle.executor.specs.Judge.{is_word, verdict_of, room_of}

-- "Visited bits stand for Code words in section order"
abbrev pub seen : List ℕ → List ℕ → SectionAddress → Bool
seen im v p = visited_at v (word_number im p)

-- the highest of some waiting states and those below it, or none
pub data Top : Type 0 where
  none : Top
  some : List Entry → Entry → Top

abbrev pub on_top : {B : Type 0} → Top → B → (List Entry → Entry → B) → B
on_top none z f = z
on_top (some es e) z f = f es e

-- the highest that is unvisited: "A popped visited state is skipped"
unfoldable pub top : List ℕ → List ℕ → List Entry → Top
top im v [] = none
top im v (e ∷ es) = on_top (top im v es) (pick (seen im v e.place) none (some [] e)) (λ fs f. some (e ∷ fs) f)

-- what `next` came to, a refusal, an end or a step, and where the execution stands then
pub record Nexted : Type 0 where
  pub outcome : Result (Option Stepped) Refusal
  pub then : Standing

-- a refusal leaves everything as it was
abbrev pub refused_at : Refusal → Standing → Nexted
refused_at why c = record { outcome = Err why; then = c }

-- the end of a run, or of all of them
abbrev pub ended_at : List Entry → List ℕ → Execution → Nexted
ended_at es v run = record { outcome = Ok None; then = standing es v (dropped run) }

-- the word at a place, stepped: its four bytes in the buffer
abbrev pub step_here : List ℕ → List ℕ → SectionAddress → VM → Stepped
step_here im bs p s = step_of im p (be32 bs (offset_in im p.section p.address)) s

-- a Branch leaves the state that it met, as its ways have states of their own
abbrev pub is_branch : StepResult → Bool
is_branch result.Continue = false
is_branch (result.LoadStore t g a) = false
is_branch result.Illegal = false
is_branch (result.Jump t) = false
is_branch (result.Branch b c) = true
is_branch (result.Refused why) = false

abbrev pub state_after : Stepped → VM → VM
state_after r s = pick (is_branch r.result) s r.vm

-- the word at p of a block from start is marked and stepped, and waits
abbrev pub stepped_at : List ℕ → List ℕ → List Entry → List ℕ → SectionAddress → SectionAddress → VM → Nexted
stepped_at im bs es v p start s = record {
  outcome = Ok (Some (step_here im bs p s));
  then = standing es (with_bit v (word_number im p)) (execution phase.Waiting p start (state_after (step_here im bs p s) s));
}

-- "past the section's end the run ends and the stack stays"
abbrev pub resumed : List ℕ → List ℕ → Standing → Nexted
resumed im bs c =
    pick (is_word im c.run.at)
    (stepped_at im bs c.stack c.map c.run.at c.run.block_start c.run.vm)
    (ended_at c.stack c.map c.run)

-- a popped state begins a block; where all are visited none is left
abbrev pub popped : List ℕ → List ℕ → Standing → Nexted
popped im bs c =
    on_top (top im c.map c.stack)
    (ended_at [] c.map c.run)
    (λ es e. stepped_at im bs es c.map e.place e.place e.state)

-- 11 while an instruction waits
abbrev pub next_of : List ℕ → List ℕ → Standing → Nexted
next_of im bs c = on_phase c.run.phase (popped im bs c) (resumed im bs c) (refused_at refusal.OutOfTurn c)

-- 1, 12, 4, then 11, of any words, count, map and execution
abbrev pub next_call : List ℕ → List ℕ → List ℕ → ℕ → List ℕ → Execution → Nexted
next_call im bs words n v run =
    on_answer (result_and (verdict_of im (length bs) words n run.phase run.at) (room_of im v))
    (λ why. refused_at why (standing (entries words n) v run))
    (λ fine. next_of im bs (standing (entries words n) v run))

-- what is handed back, with so many states left: a refusal hands back nothing, as the caller has all that it would
abbrev pub handed_with : Nexted → ℕ → Result Handed Refusal
handed_with r n = on_answer r.outcome Err (λ s. Ok (record { step = s; run = r.then.run; count = n }))

abbrev pub handed_by : Nexted → Result Handed Refusal
handed_by r = handed_with r (length r.then.stack)

-- that answer, and the visited words then
abbrev pub AnsweredWith : Nexted → ℕ → Result Handed Refusal → List ℕ → Type 0
AnsweredWith q n r v = (r ≡ handed_with q n) × (v ≡ q.then.map)

abbrev pub AnsweredBy : Nexted → Result Handed Refusal → List ℕ → Type 0
AnsweredBy q r v = AnsweredWith q (length q.then.stack) r v

-- r states are left where visited ones are taken off the top of n
pub record Tops (im v words : List ℕ) (n r : ℕ) : Type 0 where
  pub within : r ≤ n
  pub same : top im v (entries words n) ≡ pick (eqb r 0) none (some (entries words (r - 1)) (held_at words (r - 1)))
