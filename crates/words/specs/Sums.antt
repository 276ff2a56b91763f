-- Sums of 32-bit words.
-- Assumes nothing.
use Rattle.std.specs.Prelude.{ℕ, ◌+◌, ◌-◌, ◌%◌, ◌^◌}
use Rattle.words.specs.Word.{bit}
use Rattle.words.specs.Bits.{number}

-- a + b, modulo 2^32
abbrev pub sum : ℕ → ℕ → ℕ
sum a b = (a + b) % 2 ^ 32

-- a - b, modulo 2^32
abbrev pub difference : ℕ → ℕ → ℕ
difference a b = (a + (2 ^ 32 - b)) % 2 ^ 32

-- every bit turned over
unfoldable pub complement_of : ℕ → ℕ
unfolding number
complement_of a = number (λ (i : ℕ). 1 - bit a i) 32
