-- A test that holds at every number below a bound.
-- Assumes nothing.
use Rattle.std.specs.Prelude.{Bool, true, ◌&&◌, ℕ, zero, suc}

-- p 0, p 1, .., p (n - 1) all hold
unfoldable pub every : (ℕ → Bool) → ℕ → Bool
every p zero = true
every p (suc n) = (every p n) && (p n)
