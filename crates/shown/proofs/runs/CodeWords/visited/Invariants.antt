-- `shown::runs::CodeWords::visited` meets its contract.
use Rattle.std.specs.Prelude.{◌≤◌, ◌≡◌}
use Rattle.shown.specs.Counted.{visited_in}
use Rattle.shown.proofs.runs.CodeWords.visited.Given as goal

abbrev pub invariant-loop-k : goal.invariant-loop-k
invariant-loop-k l = (l.n ≡ visited_in l.map l.self.base l.k) × (l.n ≤ l.k)
