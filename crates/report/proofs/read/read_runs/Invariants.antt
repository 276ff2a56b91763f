-- `report::read::read_runs` meets its contract.
use mathlib.Core.Path.{◌≡◌}
use lib.ListN.{length}
use Rattle.report.proofs.ReadLaws.{ReadSoFar}
use Rattle.report.proofs.read.read_runs.Given as goal

abbrev pub invariant-loop-j : goal.invariant-loop-j
invariant-loop-j l = (length l.map ≡ length l.initial.map) × ReadSoFar l.s l.k l.words l.at l.initial.map l.b l.p l.least l.map l.c l.j
