-- A straight run: `step_of` again and again while its result is Continue or LoadStore.
-- Assumes nothing.
use Rattle.std.specs.Prelude.{ℕ, zero, suc, ◌+◌, ◌/◌, List}
use Rattle.words.specs.Bytes.{be32}
use Rattle.places.specs.Places.{moved}
use Rattle.places.specs.declared.SectionAddress.{SectionAddress}
use Rattle.vm.specs.declared.VM.{VM}
use Rattle.vm.specs.Registers.{cr_at}
use Rattle.step.specs.declared.Effect.{Effect}
use Rattle.step.specs.declared.Effect.TheVariants.{Nothing, SetD, SetA, Compare, ToLr, ToCtr, FromLr, FromCtr, Load, Store, Clear, Leaves}
use Rattle.step.specs.declared.Leave.{Leave}
use Rattle.step.specs.declared.Leave.TheVariants.{Ended}
use Rattle.step.specs.declared.StepResult.{StepResult}
use Rattle.step.specs.declared.StepResult.TheVariants as result
use Rattle.step.specs.declared.Stopped.{Stopped}
use Rattle.step.specs.Ways.{bi_of, leave_of}
use Rattle.step.specs.Step.{effect_in, step_of}

-- by cases: a result that goes on to the next word, or any other
abbrev pub on_going : {A : Type 0} → StepResult → A → A → A
on_going result.Continue go stop = go
on_going (result.LoadStore t g a) go stop = go
on_going result.Illegal go stop = stop
on_going (result.Jump t) go stop = stop
on_going (result.Branch b c) go stop = stop
on_going (result.Refused why) go stop = stop

-- how the word leaves, where it does
unfoldable pub leave_by : Effect → List ℕ → SectionAddress → ℕ → VM → Leave
leave_by Nothing ws at w s = Ended
leave_by (SetD g) ws at w s = Ended
leave_by (SetA g) ws at w s = Ended
leave_by (Compare c g) ws at w s = Ended
leave_by (ToLr v) ws at w s = Ended
leave_by (ToCtr v) ws at w s = Ended
leave_by FromLr ws at w s = Ended
leave_by FromCtr ws at w s = Ended
leave_by (Load g t) ws at w s = Ended
leave_by (Store g t) ws at w s = Ended
leave_by (Clear k) ws at w s = Ended
leave_by (Leaves way) ws at w s = leave_of way ws at w s.ctr.value (cr_at s (bi_of w / 4))

abbrev pub stopped_at : Leave → SectionAddress → VM → Stopped
stopped_at l at s = record { leave = l; at = at; vm = s }

-- from byte i of the code on, n words; the first of them stands at the place
unfoldable pub run_of : List ℕ → List ℕ → ℕ → ℕ → SectionAddress → VM → Stopped
run_of ws code i zero at s = stopped_at Ended at s
run_of ws code i (suc n) at s =
    on_going (step_of ws at (be32 code i) s).result
    (run_of ws code (i + 4) n (moved at 4) (step_of ws at (be32 code i) s).vm)
    (stopped_at (leave_by (effect_in ws at (be32 code i) s) ws at (be32 code i) s) at s)
