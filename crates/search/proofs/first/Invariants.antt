-- `search::first` meets its contract: no number passed yet is the first match.
use Rattle.std.proofs.Common.{◌≡◌, ℕ, ◌<◌, ◌-◌, Bool}
use Rattle.search.specs.First.{first_from, first}
use Rattle.search.proofs.first.Given as goal

abbrev pub invariant-loop-i : goal.invariant-loop-i
invariant-loop-i g l =
    (p : ℕ → Bool) → ((i : ℕ) (b : Bool) → i < l.n → goal.F-post g l.test i b → b ≡ p i) → first p l.n ≡ first_from p (l.n - l.i) l.i
