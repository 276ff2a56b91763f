-- Big-endian words of a list of bytes.
-- Assumes nothing.
use Rattle.std.specs.Prelude.{ℕ, ◌+◌, ◌*◌, List, length, nat_le, slice_index}
use Rattle.words.specs.Choice.{pick}

-- the four bytes from index k on, as a number
abbrev pub be32 : List ℕ → ℕ → ℕ
be32 bs k = slice_index bs k * 16777216 + slice_index bs (k + 1) * 65536 + slice_index bs (k + 2) * 256 + slice_index bs (k + 3)

-- the same, or 0 where fewer than four bytes are left
abbrev pub word_in : List ℕ → ℕ → ℕ
word_in bs k = pick (nat_le (k + 4) (length bs)) (be32 bs k) 0
