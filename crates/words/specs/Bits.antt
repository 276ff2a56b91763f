-- Words built from their bits, and the two operations of the rotate instructions.
-- Assumes nothing.
use Rattle.std.specs.Prelude.{ℕ, zero, suc, ◌+◌, ◌*◌, ◌%◌, Bool, ◌&&◌, ◌||◌, nat_le, nat_lt}
use Rattle.words.specs.Choice.{pick}
use Rattle.words.specs.Word.{bit}

-- the number whose n bits, read from left to right, are f 0, f 1, ..
unfoldable pub number : (ℕ → ℕ) → ℕ → ℕ
number f zero = 0
number f (suc n) = number f n * 2 + f n

-- MASK(b, e) has bit i: from b to e, or, where e is below b, from b to 31 and from 0 to e
abbrev pub in_mask : ℕ → ℕ → ℕ → Bool
in_mask b e i = ((nat_le b i) && (nat_le i e)) || ((nat_lt e b) && ((nat_le i e) || (nat_le b i)))

-- MASK(b, e)
unfoldable pub mask_of : ℕ → ℕ → ℕ
unfolding number
mask_of b e = number (λ (i : ℕ). pick (in_mask b e i) 1 0) 32

-- ROTL(x, n): bit i is x's bit i + n, counted round
unfoldable pub rotated : ℕ → ℕ → ℕ
unfolding number
rotated x n = number (λ (i : ℕ). bit x ((i + n) % 32)) 32
