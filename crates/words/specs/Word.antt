-- A 32-bit word in the manual's numbering, bit 0 the most significant, and its fields.
-- Assumes nothing.
use Rattle.std.specs.Prelude.{ℕ, ◌+◌, ◌-◌, ◌*◌, ◌/◌, ◌%◌, ◌^◌, Bool, ◌==◌, nat_lt}
use Rattle.words.specs.Choice.{pick}

-- bit i of w
abbrev pub bit : ℕ → ℕ → ℕ
bit w i = w / 2 ^ (31 - i) % 2

-- the bits of w from one to another, both included, as a number
abbrev pub field : ℕ → ℕ → ℕ → ℕ
field w from to = w / 2 ^ (31 - to) % 2 ^ (to - from + 1)

-- whether bit i of w is set
abbrev pub flag : ℕ → ℕ → Bool
flag w i = bit w i == 1

-- EXTS: a number of k bits with its sign bit repeated to the left, 32 bits in all
abbrev pub extended : ℕ → ℕ → ℕ
extended k v = pick (nat_lt v (2 ^ (k - 1))) v (v + (2 ^ 32 - 2 ^ k))

-- SPR: the second half of the field stands before the first
abbrev pub spr_of : ℕ → ℕ
spr_of w = field w 16 20 * 32 + field w 11 15

-- SIMM as the sums take it
abbrev pub simm_of : ℕ → ℕ
simm_of w = extended 16 (field w 16 31)

-- EXTS(LI || 0b00): the displacement of b, 26 bits signed
abbrev pub li_of : ℕ → ℕ
li_of w = extended 26 (field w 6 29 * 4)

-- EXTS(BD || 0b00): the displacement of bc, 16 bits signed
abbrev pub bd_of : ℕ → ℕ
bd_of w = extended 16 (field w 16 29 * 4)
