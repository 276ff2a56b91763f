-- `report::write::write_runs` meets its contract.
use Rattle.report.proofs.Laying.{Scanning}
use Rattle.report.proofs.write.write_runs.Given as goal

abbrev pub invariant-loop-j : goal.invariant-loop-j
invariant-loop-j l = Scanning l.initial.buf l.buf l.map l.at l.b l.words l.s l.j
