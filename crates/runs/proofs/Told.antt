-- What a word's opcode tells of it, for the words that are not decoded.
-- Assumes nothing.
use mathlib.Core.Path.{◌≡◌, ap}
use mathlib.Core.Bool.{false}
use mathlib.Core.List.{List}
use Prim.Native.Nat.{ℕ}
use Rattle.words.specs.Word.{field}
use Rattle.places.specs.declared.SectionAddress.{SectionAddress}
use Rattle.vm.specs.declared.VM.{VM}
use Rattle.vm.specs.Registers.{reg}
use Rattle.decoder.specs.declared.Op.{Op}
use Rattle.decoder.specs.Table.{Row, rows, first}
use Rattle.decoder.specs.Decode.{has_extended, decoded}
use Rattle.decoder.proofs.Told.{row_of_lem, extended_none}
use Rattle.step.specs.Arms.{rd_of, ra_of, rb_of, effect_by}
use Rattle.step.specs.Step.{effect_in}

-- the operation under a primary opcode that has no extended one
pub by_primary : (w p : ℕ) → field w 0 5 ≡ p → has_extended p ≡ false → (decoded w).op ≡ (first rows p 0).op
unfolding decoded
by_primary w p e t = ap (λ (r : Row). r.op) (row_of_lem w p 0 e (extended_none w p e t))

-- the effect of a word whose operation is known
pub effect_by_lem : (ws : List ℕ) (at : SectionAddress) (w : ℕ) (s : VM) (o : Op) → (decoded w).op ≡ o
    → effect_in ws at w s ≡ effect_by o (decoded w).writes ws at w (reg s (rd_of w)) (reg s (ra_of w)) (reg s (rb_of w))
effect_by_lem ws at w s o e = ap (λ (x : Op). effect_by x (decoded w).writes ws at w (reg s (rd_of w)) (reg s (ra_of w)) (reg s (rb_of w))) e
