-- Section records lent as a list, and the first of them that a test holds of.
-- Assumes nothing.
use Rattle.std.specs.Prelude.{ℕ, Bool, List, length, get_or, eqb, Option}
use Rattle.search.specs.First.{first}
use Rattle.image.specs.declared.Section.{Section}
use Rattle.image.specs.Rules.{holds}

-- what stands past the last record
abbrev pub no_record : Section
no_record = record { address = 0; size = 0; kind = 0; elf = 0; place = 0; length = 0 }

-- record i
abbrev pub nth_record : List Section → ℕ → Section
nth_record t i = get_or t i no_record

-- a section has that elf number
abbrev pub numbered : Section → ℕ → Bool
numbered s elf = eqb s.elf elf

-- the first record that a test holds of, at a number
abbrev pub first_record : (Section → ℕ → Bool) → List Section → ℕ → Option ℕ
first_record p t v = first (λ (i : ℕ). p (nth_record t i) v) (length t)

-- the first record that holds an address
abbrev pub record_at : List Section → ℕ → Option ℕ
record_at t a = first_record holds t a

-- the first record with an elf number
abbrev pub record_by_elf : List Section → ℕ → Option ℕ
record_by_elf t elf = first_record numbered t elf
