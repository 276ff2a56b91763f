-- The mask by two shifts is the manual's, at each of the 1,024 pairs: one test, which antt computes.
-- Assumes nothing.
use Rattle.std.proofs.Common.{◌≡◌, ℕ, ◌-◌, ◌*◌, ◌/◌, ◌%◌, ◌^◌, ◌<◌, Bool, eqb, leb, eqb→eq}
use lib.Bits.{bit_and, bit_or}
use Rattle.words.specs.Choice.{pick}
use Rattle.words.specs.Bits.{mask_of}
use Rattle.words.proofs.Tests.{all, below}

abbrev from : ℕ → ℕ
from b = 4294967295 / 2 ^ b

abbrev upto : ℕ → ℕ
upto e = 4294967295 * 2 ^ (31 - e) % 2 ^ 32

abbrev shifted : ℕ → ℕ → ℕ
shifted b e = pick (leb b e) (bit_and (from b) (upto e)) (bit_or (from b) (upto e))

row : ℕ → Bool
unfolding mask_of
row b = all (λ (e : ℕ). eqb (shifted b e) (mask_of b e)) 32

pub mask_law : (b e : ℕ) → b < 32 → e < 32 → shifted b e ≡ mask_of b e
unfolding row mask_of
mask_law b e hb he =
    eqb→eq (shifted b e) (mask_of b e) (below (λ (k : ℕ). eqb (shifted b k) (mask_of b k)) 32 (below row 32 tt b hb) e he)
