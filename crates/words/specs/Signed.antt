-- Signed numbers: what k bits stand for in two's complement, and an address with a signed offset.
-- Assumes nothing.
use Rattle.std.specs.Prelude.{ℕ, suc, ◌+◌, ◌-◌, ◌%◌, ◌^◌, ℤ, pos, negsuc, nat_lt}
use Rattle.words.specs.Choice.{pick}

-- v as k bits: v itself below 2^(k-1), else v - 2^k (negsuc n is -1 - n)
abbrev pub signed_of : ℕ → ℕ → ℤ
signed_of k v = pick (nat_lt v (2 ^ (k - 1))) (pos v) (negsuc (2 ^ k - suc v))

-- a plus a signed number, modulo 2^32
abbrev pub offset_by : ℕ → ℤ → ℕ
offset_by a (pos n) = (a + n) % 2 ^ 32
offset_by a (negsuc n) = (a + (2 ^ 32 - suc n)) % 2 ^ 32
