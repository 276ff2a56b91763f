-- What the audit counts: visited words of a section, and what part of the whole they are.
-- Assumes nothing.
use Rattle.std.specs.Prelude.{ℕ, zero, suc, ◌+◌, ◌*◌, ◌/◌, ◌^◌, List, eqb, leb}
use Rattle.words.specs.Choice.{pick}
use Rattle.visited.specs.Bits.{visited_at}

-- how many of n words, the first of which has the number base, were visited
unfoldable pub visited_in : List ℕ → ℕ → ℕ → ℕ
visited_in ws base zero = 0
visited_in ws base (suc n) = visited_in ws base n + pick (visited_at ws (base + n)) 1 0

-- tenths of a percent, rounded down; 0 of nothing, and of a part above 2^40, which no image has
abbrev pub tenths_of : ℕ → ℕ → ℕ
tenths_of part whole = pick (eqb whole 0) 0 (pick (leb part (2 ^ 40)) (part * 1000 / whole) 0)
