-- `report::read::read_sections` meets its contract.
use mathlib.Core.Path.{◌≡◌}
use lib.ListN.{length}
use Rattle.report.proofs.ReadLaws.{SectionsSoFar}
use Rattle.report.proofs.read.read_sections.Given as goal

abbrev pub invariant-loop-i : goal.invariant-loop-i
invariant-loop-i l = (length l.map ≡ length l.initial.map) × SectionsSoFar l.im l.s l.at l.initial.map l.map l.p l.b l.i
