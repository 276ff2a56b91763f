-- `report::write::write_sections` meets its contract.
use Rattle.report.proofs.Laying.{LaidSoFar}
use Rattle.report.proofs.write.write_sections.Given as goal

abbrev pub invariant-loop-i : goal.invariant-loop-i
invariant-loop-i l = LaidSoFar l.initial.buf l.buf l.im l.map l.at l.p l.b l.i
