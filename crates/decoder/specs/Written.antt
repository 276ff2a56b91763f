-- The general registers that a word writes, and sets of registers as numbers.
-- Assumes nothing.
use Rattle.std.specs.Prelude.{ℕ, zero, suc, ◌+◌, ◌-◌, ◌/◌, ◌%◌, ◌^◌, Bool, false, ◌||◌, List, [], ◌∷◌, eqb}
use Rattle.std.specs.Int.Count.{count_trailing_zeros}
use Rattle.words.specs.Choice.{pick}
use Rattle.words.specs.Word.{field}
use Rattle.decoder.specs.declared.Writes.{Writes}
use Rattle.decoder.specs.declared.Writes.TheVariants.{Nothing, Rd, Ra, RdRa}
use Rattle.decoder.specs.declared.Taken.{Taken}
use Rattle.decoder.specs.Decode.{decoded}

-- whether a word w of this kind writes register r
abbrev pub writes_by : Writes → ℕ → ℕ → Bool
writes_by Nothing w r = false
writes_by Rd w r = eqb r (field w 6 10)
writes_by Ra w r = eqb r (field w 11 15)
writes_by RdRa w r = (eqb r (field w 6 10)) || (eqb r (field w 11 15))

-- whether the word writes register r
abbrev pub writes : ℕ → ℕ → Bool
writes w r = writes_by (decoded w).writes w r

-- the registers below n at which the test holds, register r as 2 ^ r
unfoldable pub set_of : (ℕ → Bool) → ℕ → ℕ
set_of f zero = 0
set_of f (suc n) = set_of f n + pick (f n) (2 ^ n) 0

-- whether register r is in a set
abbrev pub in_set : ℕ → ℕ → Bool
in_set s r = eqb (s / 2 ^ r % 2) 1

-- the set of the registers that a word of this kind writes
abbrev pub set_by : Writes → ℕ → ℕ
set_by kind w = set_of (writes_by kind w) 32

-- the set of the registers that the word writes
abbrev pub written_set : ℕ → ℕ
written_set w = set_by (decoded w).writes w

-- the lowest register of a set, 32 of the empty one, and the set without it
abbrev pub lowest_of : ℕ → Taken
lowest_of s = record { register = count_trailing_zeros 32 s; rest = s - 2 ^ count_trailing_zeros 32 s }

-- a list from register i on, blank where the test holds
unfoldable pub blank_where : {A : Type 0} → A → (ℕ → Bool) → ℕ → List A → List A
blank_where blank f i [] = []
blank_where blank f i (x ∷ xs) = pick (f i) blank x ∷ blank_where blank f (suc i) xs
