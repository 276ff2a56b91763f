-- The code's tables are listed from the rows, and an entry leads to its row.
-- Assumes nothing.
use mathlib.Core.Path.{◌≡◌, sym, ap, ap₂, ◌∙◌}
use mathlib.Core.Bool.{Bool, true, ◌||◌}
use Prim.Native.Nat.{ℕ, ◌/◌, ◌%◌, ◌<◌}
use native.Mathlib.Nat.{zero-add}
use borrow.Author.Tests.{ne_eqb}
use lib.Arith.{digits_div, digits_mod}
use lib.ListN.{get_or}
use Rattle.words.specs.Choice.{pick}
use Rattle.words.specs.Word.{field}
use Rattle.words.proofs.Tabulate.{tabulate, get_d_tabulate}
use Rattle.decoder.specs.Ops.{names, kind_number, kinds}
use Rattle.decoder.specs.Table.{Row, rows, first, coded}
use Rattle.decoder.specs.Decode.{has_extended, row_of}
use Rattle.decoder.specs.declared.Op.TheVariants.{Illegal}
use Rattle.decoder.specs.declared.Writes.TheVariants.{Nothing}
use Rattle.decoder.proofs.Names.{named, number_lt, kind_named}

-- an entry holds the operation and the kind of its row
pub op_coded : (r : Row) → get_or names (coded r % 64) Illegal ≡ r.op
op_coded r = ap (λ (n : ℕ). get_or names n Illegal) (digits_mod (kind_number r.writes) (number_lt r.op)) ∙ named r.op

pub kind_coded : (r : Row) → get_or kinds (coded r / 64) Nothing ≡ r.writes
kind_coded r = ap (λ (n : ℕ). get_or kinds n Nothing) (digits_div (kind_number r.writes) (number_lt r.op)) ∙ kind_named r.writes

-- what stands in a column that is listed from a rule
pub listed : (f : ℕ → ℕ) (n k : ℕ) → k < n → get_or (tabulate f 0 n) k 0 ≡ f k
listed f n k h = get_d_tabulate f n 0 k h ∙ ap f (zero-add k)

-- the extended opcode counts under 19 and 31, and nowhere else
pub row_extended : (w p : ℕ) → field w 0 5 ≡ p → has_extended p ≡ true → first rows p (field w 21 30) ≡ row_of w
unfolding row_of
row_extended w p e t = ap₂ (λ (q : ℕ) (b : Bool). first rows q (pick b (field w 21 30) 0)) (sym e) (sym (ap has_extended e ∙ t))

pub row_primary : (w : ℕ) → (field w 0 5 ≡ 19 → ⊥) → (field w 0 5 ≡ 31 → ⊥) → first rows (field w 0 5) 0 ≡ row_of w
unfolding row_of
row_primary w h19 h31 =
    ap (λ (b : Bool). first rows (field w 0 5) (pick b (field w 21 30) 0))
    (sym (ap₂ (λ (a b : Bool). a || b) (ne_eqb (field w 0 5) 19 h19) (ne_eqb (field w 0 5) 31 h31)))
