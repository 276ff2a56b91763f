-- What a list of groups stands for, and whether their top bits are as they must be.
-- Assumes nothing.
use Rattle.std.specs.Prelude.{ℕ, ◌+◌, ◌*◌, ◌%◌, Bool, false, ◌&&◌, List, [], ◌∷◌, leb, ltb}

-- the number of which these are the groups, low group first
unfoldable pub value_of : List ℕ → ℕ
value_of [] = 0
value_of (b ∷ bs) = value_of bs * 128 + b % 128

-- bytes with the top bit set on all but the last
unfoldable pub marked : List ℕ → Bool
marked [] = false
marked (b ∷ []) = ltb b 128
marked (b ∷ c ∷ bs) = leb 128 b && ltb b 256 && marked (c ∷ bs)
