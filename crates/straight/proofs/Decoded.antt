-- The decoder knows each of the twelve kinds: by primary opcode, and under 31 with or without OE.
-- Assumes nothing.
use mathlib.Core.Path.{◌≡◌, refl, sym, ◌∙◌, subst}
use mathlib.Core.Bool.{Bool, true, false}
use Prim.Native.Nat.{ℕ, ◌+◌, ◌<◌}
use native.Mathlib.Omega.{arith}
use borrow.Author.Tests.{ltb-true, ltb-false}
use lib.Dec.{ltb}
use Rattle.words.specs.Word.{field}
use Rattle.decoder.specs.declared.Op.{Op}
use Rattle.decoder.specs.declared.Op.TheVariants as op
use Rattle.decoder.specs.Table.{rows, first}
use Rattle.decoder.specs.Decode.{extended_in, row_of, decoded}
use Rattle.straight.specs.Manual.{Kind, add, addi, addic, addic_dot, addis, subf, subfc, subfic, ori, orr, rlwinm, rlwnm, Is}

-- the operation of each kind
abbrev pub op_of : Kind → Op
op_of add = op.Add
op_of addi = op.Addi
op_of addic = op.Addic
op_of addic_dot = op.AddicDot
op_of addis = op.Addis
op_of subf = op.Subf
op_of subfc = op.Subfc
op_of subfic = op.Subfic
op_of ori = op.Ori
op_of orr = op.Or
op_of rlwinm = op.Rlwinm
op_of rlwnm = op.Rlwnm

-- a word by its primary and extended opcode
op_at : ℕ → ℕ → Op
unfolding rows first
op_at p x = (first rows p x).op

by_primary : (w p : ℕ) → field w 0 5 ≡ p → (decoded w).op ≡ op_at p (Rattle.words.specs.Choice.pick (Rattle.decoder.specs.Decode.has_extended p) (field w 21 30) 0)
unfolding decoded row_of op_at
by_primary w p e = rw e

-- nine bits of an extended opcode leave two ways for ten
two_ways : (w x : ℕ) → x < 512 → field w 22 30 ≡ x → (t : Bool) → ltb (field w 21 30) 512 ≡ t → (P : ℕ → Type 0) → P x → P (x + 512) → P (field w 21 30)
two_ways w x h e true t P a b =
    let l : field w 21 30 ≡ x = omega (arith, ltb-true (field w 21 30) 512 t) in subst P (sym l) a
two_ways w x h e false t P a b =
    let l : field w 21 30 ≡ x + 512 = omega (arith, ltb-false (field w 21 30) 512 t) in subst P (sym l) b

with_oe : (w x : ℕ) (o : Op) → x < 512 → field w 0 5 ≡ 31 → field w 22 30 ≡ x → op_at 31 x ≡ o → op_at 31 (x + 512) ≡ o → (decoded w).op ≡ o
with_oe w x o h e f a b =
    by_primary w 31 e ∙ two_ways w x h f (ltb (field w 21 30) 512) refl (λ (y : ℕ). op_at 31 y ≡ o) a b

pub decodes : (k : Kind) (w : ℕ) → Is k w → (decoded w).op ≡ op_of k
unfolding Is op_at
decodes add w (e, f) = with_oe w 266 op.Add (omega arith) e f refl refl
decodes addi w e = by_primary w 14 e
decodes addic w e = by_primary w 12 e
decodes addic_dot w e = by_primary w 13 e
decodes addis w e = by_primary w 15 e
decodes subf w (e, f) = with_oe w 40 op.Subf (omega arith) e f refl refl
decodes subfc w (e, f) = with_oe w 8 op.Subfc (omega arith) e f refl refl
decodes subfic w e = by_primary w 8 e
decodes ori w e = by_primary w 24 e
decodes orr w (e, f) = by_primary w 31 e ∙ rw f
decodes rlwinm w e = by_primary w 21 e
decodes rlwnm w e = by_primary w 23 e
