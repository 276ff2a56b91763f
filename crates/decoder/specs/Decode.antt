-- What a word decodes to, and where a branch goes.
-- Assumes nothing.
use Rattle.std.specs.Prelude.{ℕ, Bool, ◌||◌, eqb}
use Rattle.words.specs.Choice.{pick}
use Rattle.words.specs.Word.{field, flag, li_of, bd_of}
use Rattle.words.specs.Sums.{sum}
use Rattle.decoder.specs.declared.Decoded.{Decoded}
use Rattle.decoder.specs.Table.{Row, rows, first}

-- 19 and 31 have an extended opcode, ten bits
abbrev pub has_extended : ℕ → Bool
has_extended p = (eqb p 19) || (eqb p 31)

abbrev pub extended_in : ℕ → ℕ
extended_in w = pick (has_extended (field w 0 5)) (field w 21 30) 0

-- the word's row
unfoldable pub row_of : ℕ → Row
row_of w = first rows (field w 0 5) (extended_in w)

unfoldable pub decoded : ℕ → Decoded
decoded w = record { op = (row_of w).op; writes = (row_of w).writes }

-- LI of a b, BD of any other word
abbrev pub displacement_of : ℕ → ℕ
displacement_of w = pick (eqb (field w 0 5) 18) (li_of w) (bd_of w)

-- AA says that the displacement is the address itself
abbrev pub branch_dest : ℕ → ℕ → ℕ
branch_dest w address = pick (flag w 30) (displacement_of w) (sum address (displacement_of w))
