-- The first of some words that was visited, or was not, as wanted.
-- Assumes nothing.
use Rattle.std.specs.Prelude.{ℕ, ◌+◌, ◌≤◌, ◌<◌, ◌≡◌, Bool, not, List}
use Rattle.visited.specs.Bits.{visited_at}

-- of so many words, the first of which has the number base: r is the first from j on that is as wanted, or their number
pub record Sought (ws : List ℕ) (base words j : ℕ) (wanted : Bool) (r : ℕ) : Type 0 where
  pub from : j ≤ r
  pub upto : r ≤ words
  pub passed : (k : ℕ) → j ≤ k → k < r → visited_at ws (base + k) ≡ not wanted
  pub found : r < words → visited_at ws (base + r) ≡ wanted
