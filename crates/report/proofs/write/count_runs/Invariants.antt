-- `report::write::count_runs` meets its contract.
use Rattle.report.proofs.Laying.{Counting}
use Rattle.report.proofs.write.count_runs.Given as goal

abbrev pub invariant-loop-j : goal.invariant-loop-j
invariant-loop-j l = Counting l.map l.b l.words l.n l.last l.j
