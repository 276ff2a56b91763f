-- A history of visits, the latest at its head, and its first visits.
-- Assumes nothing.
use Rattle.std.specs.Prelude.{ℕ, ◌+◌, Bool, true, false, ◌&&◌, ◌||◌, List, [], ◌∷◌, eqb, ltb}
use Rattle.words.specs.Choice.{pick}
use Rattle.visited.specs.Bits.{with_bit}

-- the map after a history of visits
unfoldable pub after : List ℕ → List ℕ → List ℕ
after ws [] = ws
after ws (b ∷ bs) = with_bit (after ws bs) b

-- word b was visited in a history
unfoldable pub among : List ℕ → ℕ → Bool
among [] b = false
among (c ∷ bs) b = eqb b c || among bs b

-- how many visits found their word not yet visited
unfoldable pub first_visits : List ℕ → ℕ
first_visits [] = 0
first_visits (b ∷ bs) = first_visits bs + pick (among bs b) 0 1

-- every word visited is below n
unfoldable pub all_below : ℕ → List ℕ → Bool
all_below n [] = true
all_below n (b ∷ bs) = ltb b n && all_below n bs
