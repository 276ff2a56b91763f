-- `visited::mark_run` meets its contract.
use mathlib.Core.Path.{◌≡◌}
use Rattle.visited.specs.Bits.{with_run}
use Rattle.visited.proofs.mark_run.Given as goal

abbrev pub invariant-loop-j : goal.invariant-loop-j
invariant-loop-j l = l.map ≡ with_run l.initial.map l.b l.j
