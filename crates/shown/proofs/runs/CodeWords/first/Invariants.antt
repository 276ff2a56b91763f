-- `shown::runs::CodeWords::first` meets its contract.
use Rattle.std.specs.Prelude.{ℕ, ◌+◌, ◌≤◌, ◌<◌, ◌≡◌, not}
use Rattle.visited.specs.Bits.{visited_at}
use Rattle.shown.proofs.runs.CodeWords.first.Given as goal

abbrev pub invariant-loop-k : goal.invariant-loop-k
invariant-loop-k l = (l.j ≤ l.k) × ((i : ℕ) → l.j ≤ i → i < l.k → visited_at l.map (l.self.base + i) ≡ not l.wanted)
