-- `reply`: where the waiting instruction goes on.
-- Assumes nothing.
use Rattle.std.specs.Prelude.{ℕ, List, eqb, Result, Ok, Err}
use Rattle.std.specs.Result.{result_and}
use Rattle.words.specs.Choice.{pick}
use Rattle.places.specs.Places.{moved}
use Rattle.places.specs.declared.SectionAddress.{SectionAddress}
use Rattle.executor.specs.declared.Refusal.{Refusal}
use Rattle.executor.specs.declared.Refusal.TheVariants as refusal
use Rattle.executor.specs.declared.Phase.TheVariants as phase
use Rattle.executor.specs.declared.Execution.{Execution}
use Rattle.executor.specs.declared.ExecCbResult.{ExecCbResult}
use Rattle.executor.specs.declared.ExecCbResult.TheVariants as how
use Rattle.executor.specs.Standing.{execution, dropped, on_phase}
use Rattle.executor.specs.Judge.{test, verdict_of, room_of, word_of}
use Rattle.executor.specs.Next.{seen}

-- 6, 2, 3; "Jump to a visited word ends the block", to another it begins one
abbrev pub jumped : List ℕ → List ℕ → Execution → SectionAddress → Result Execution Refusal
jumped im v run q =
    result_and (result_and (test (eqb q.section run.at.section) refusal.OtherSection) (word_of im q))
    (Ok (pick (seen im v q) (dropped run) (execution phase.Running q q run.vm)))

-- "Continue doesn't test the next word"; "Reply End drops the waiting instruction"
abbrev pub followed : List ℕ → List ℕ → Execution → ExecCbResult → Result Execution Refusal
followed im v run how.Continue = Ok (execution phase.Running (moved run.at 4) run.block_start run.vm)
followed im v run (how.Jump q) = jumped im v run q
followed im v run how.EndBlock = Ok (dropped run)
followed im v run how.End = Ok (dropped run)

-- 11 while none waits
abbrev pub reply_of : List ℕ → List ℕ → Execution → ExecCbResult → Result Execution Refusal
reply_of im v run h = on_phase run.phase (Err refusal.OutOfTurn) (Err refusal.OutOfTurn) (followed im v run h)

-- 1, 12, 4, then 11, of any words, count, map and execution: what is under way then; refused, it is the caller's as before
abbrev pub reply_call : List ℕ → ℕ → List ℕ → ℕ → List ℕ → Execution → ExecCbResult → Result Execution Refusal
reply_call im d words n v run h = result_and (result_and (verdict_of im d words n run.phase run.at) (room_of im v)) (reply_of im v run h)
