-- `shown::sections::show_runs` meets its contract.
use Prim.Native.Nat.{◌-◌, ◌≤◌}
use Rattle.shown.proofs.sections.show_runs.Given as goal

abbrev pub invariant-loop-j : goal.invariant-loop-j
invariant-loop-j g l = l.j ≤ l.p.words.count

abbrev pub decreases-loop-j : goal.decreases-loop-j
decreases-loop-j g l = l.p.words.count - l.j
