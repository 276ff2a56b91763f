-- The loop's invariant: the registers below four times the loop's number are done.
use mathlib.Core.Path.{◌≡◌}
use Prim.Native.Nat.{◌+◌, ◌*◌, ◌≤◌}
use lib.ListN.{length}
use Rattle.cells.specs.Cells.{state_of}
use Rattle.slot.specs.Layout.{state_size}
use Rattle.clones.proofs.ResultLaws.{Done}
use Rattle.clones.proofs.put_result.Given as goal

abbrev pub invariant-loop-i : goal.invariant-loop-i
invariant-loop-i l = (length l.words ≡ length l.initial.words) × (l.at + state_size ≤ length l.initial.words) × Done (state_of l.cells) l.value l.crf l.initial.words l.at (l.i * 4) l.words
