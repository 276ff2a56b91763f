-- The invariant: from here the run comes to its end, and the cells hold its state.
use Prim.Native.Nat.{◌*◌, ◌/◌}
use lib.ListN.{length}
use Rattle.step.specs.Runs.{run_of}
use Rattle.cells.specs.Cells.{state_of, Cells}
use Rattle.runs.proofs.Running.{Running}
use Rattle.runs.proofs.run.Given as goal

abbrev pub invariant-loop-k : goal.invariant-loop-k
invariant-loop-k l = Running l.im.words.now l.code (run_of l.im.words.now l.code 0 (length l.code / 4) l.initial.p (state_of l.initial.cells)) (l.k * 4) l.p (state_of l.cells) × Cells l.cells (state_of l.cells)
