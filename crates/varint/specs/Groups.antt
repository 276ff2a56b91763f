-- A number in groups of seven bits, low group first, the top bit set on all but the last; and what reads so at a place.
-- Assumes nothing.
use Rattle.std.specs.Prelude.{ℕ, zero, suc, ◌+◌, ◌-◌, ◌*◌, ◌/◌, ◌%◌, List, [], ◌∷◌, length, get_or, ltb, eqb, Option, Some, None}
use Rattle.words.specs.Choice.{pick}

-- a number and the place after it, or none
abbrev pub Read : Type 0
Read = Option (ℕ × ℕ)

-- n in at most k + 1 groups
unfoldable pub groups : ℕ → ℕ → List ℕ
groups zero n = (n % 128) ∷ []
groups (suc k) n = pick (ltb n 128) (n ∷ []) ((n % 128 + 128) ∷ groups k (n / 128))

-- five groups hold every number below 2^32
abbrev pub varint : ℕ → List ℕ
varint n = groups 4 n

-- a group with its top bit set, below what the groups after it read as: that is no 0 (shortest form), and the whole is below 2^32
abbrev pub joined : ℕ → Read → Read
joined b (Some (m, e)) = pick (eqb m 0) None (pick (ltb m 0x2000000) (Some (m * 128 + (b - 128), e)) None)
joined b None = None

-- what a byte reads as: a last group, or one before what `rest` reads as
abbrev pub group_at : List ℕ → ℕ → Read → Read
group_at s at rest =
    pick (ltb at (length s)) (pick (ltb (get_or s at 0) 128) (Some (get_or s at 0, at + 1)) (joined (get_or s at 0) rest)) None

-- what reads at a place, in at most k + 1 groups
unfoldable pub read_groups : List ℕ → ℕ → ℕ → Read
read_groups s zero at = group_at s at None
read_groups s (suc k) at = group_at s at (read_groups s k (at + 1))

abbrev pub number_at : List ℕ → ℕ → Read
number_at s at = read_groups s 4 at
