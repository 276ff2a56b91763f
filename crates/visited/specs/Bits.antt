-- The visited map: a bit for each Code word, in words of 32 bits, the low bit of each word first.
-- Assumes nothing.
use Rattle.std.specs.Prelude.{ℕ, zero, suc, ◌+◌, ◌-◌, ◌*◌, ◌/◌, ◌%◌, ◌^◌, min, Bool, List, [], ◌∷◌, length, get_or, set, eqb, leb}
use Rattle.std.specs.Int.Bits.{bit_or}

-- bit b: bit b mod 32 of word b / 32; 0 past the map's end
abbrev pub bit_at : List ℕ → ℕ → ℕ
bit_at ws b = get_or ws (b / 32) 0 / 2 ^ (b % 32) % 2

-- Code word number b was visited
abbrev pub visited_at : List ℕ → ℕ → Bool
visited_at ws b = eqb (bit_at ws b) 1

-- the map has at least n bits
abbrev pub has_room : List ℕ → ℕ → Bool
has_room ws n = leb n (length ws * 32)

-- the map with bit b set; a bit past its end is not there
abbrev pub with_bit : List ℕ → ℕ → List ℕ
with_bit ws b = set ws (b / 32) (bit_or (get_or ws (b / 32) 0) (2 ^ (b % 32)))

-- the map with k bits from b on set
unfoldable pub with_run : List ℕ → ℕ → ℕ → List ℕ
with_run ws b zero = ws
with_run ws b (suc k) = with_bit (with_run ws b k) (b + k)

-- a word with its k lowest bits cleared
abbrev pub without_low : ℕ → ℕ → ℕ
without_low w k = w / 2 ^ k * 2 ^ k

-- the map with its first n bits cleared, word by word; those from n up stay as they were
unfoldable pub cleared : List ℕ → ℕ → List ℕ
cleared [] n = []
cleared (w ∷ ws) n = without_low w (min n 32) ∷ cleared ws (n - 32)

-- how many of a word's k lowest bits are set
unfoldable pub low_ones : ℕ → ℕ → ℕ
low_ones w zero = 0
low_ones w (suc k) = low_ones w k + w / 2 ^ k % 2

-- how many of the first n bits are set
unfoldable pub ones_below : List ℕ → ℕ → ℕ
ones_below ws zero = 0
ones_below ws (suc n) = ones_below ws n + bit_at ws n
