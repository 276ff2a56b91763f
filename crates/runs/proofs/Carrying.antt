-- Records written into cells, by the effect that asks for them.
-- Assumes nothing.
use mathlib.Core.Path.{◌≡◌, refl, sym, ap, subst}
use mathlib.Core.Bool.{Bool, true, false}
use mathlib.Core.List.{List}
use Prim.Native.Nat.{ℕ}
use lib.Seq.{set-get_or}
use Rattle.words.specs.Choice.{pick}
use Rattle.words.specs.Word.{flag}
use Rattle.places.specs.declared.SectionAddress.{SectionAddress}
use Rattle.vm.specs.declared.GprValue.{GprValue}
use Rattle.vm.specs.declared.GprValue.TheVariants.{ComparisonResult}
use Rattle.vm.specs.declared.VM.{VM}
use Rattle.vm.specs.Registers.{blank, marked, reg, with_gprs, with_reg, with_compare}
use Rattle.step.specs.declared.Effect.{Effect}
use Rattle.step.specs.declared.Effect.TheVariants.{Nothing, Compare}
use Rattle.step.specs.declared.Leave.{Leave}
use Rattle.step.specs.declared.Leave.TheVariants.{Ended}
use Rattle.decoder.specs.declared.Writes.TheVariants as Writes
use Rattle.step.specs.Arms.{rd_of, ra_of, crfd_of, compare_of}
use Rattle.step.specs.Step.{cleared_of, done_of, effect_in}
use Rattle.step.proofs.Blank.{blank_never, blank_one, blank_two}
use Rattle.step.specs.Runs.{leave_by}
use Rattle.cells.specs.Cells.{state_of, Cells}
use Rattle.cells.proofs.CellLaws.{cells_state}
use Rattle.runs.specs.Went.{went_of, compared_of, Carries, Went}

-- cells of one state are cells of an equal one
pub cells_as : {vs : List ℕ} {s t : VM} → s ≡ t → Cells vs s → Cells vs t
cells_as {vs} e c = subst (λ (u : VM). Cells vs u) e c

-- cells hold the state that is read from them
pub cells_own : {vs : List ℕ} {s : VM} → Cells vs s → Cells vs (state_of vs)
cells_own c = cells_as (sym (cells_state c)) c

-- a register that is written with what it holds
pub same_reg : (s : VM) (i : ℕ) → with_reg s i (reg s i) ≡ s
same_reg s i = ap (with_gprs s) (set-get_or s.gpr i blank)

-- the effect that was carried out is the word's own
pub went_by : {ws vs : List ℕ} {at : SectionAddress} {w : ℕ} {s : VM} {r : Leave} (x : Effect) → effect_in ws at w s ≡ x → Carries ws at w x s r vs → Went ws at w s r vs
went_by {ws} {vs} {at} {w} {s} {r} x e c = subst (λ (y : Effect). Carries ws at w y s r vs) (sym e) c

-- the registers that a word writes, by kind
pub cleared_none : (w : ℕ) (s : VM) → cleared_of Writes.Nothing w s ≡ s
unfolding cleared_of
cleared_none w s = ap (with_gprs s) (blank_never blank 0 s.gpr)

pub cleared_d : (w : ℕ) (s : VM) → cleared_of Writes.Rd w s ≡ with_reg s (rd_of w) blank
unfolding cleared_of
cleared_d w s = ap (with_gprs s) (blank_one blank (rd_of w) s.gpr)

pub cleared_a : (w : ℕ) (s : VM) → cleared_of Writes.Ra w s ≡ with_reg s (ra_of w) blank
unfolding cleared_of
cleared_a w s = ap (with_gprs s) (blank_one blank (ra_of w) s.gpr)

pub cleared_both : (w : ℕ) (s : VM) → cleared_of Writes.RdRa w s ≡ with_reg (with_reg s (rd_of w) blank) (ra_of w) blank
unfolding cleared_of
cleared_both w s = ap (with_gprs s) (blank_two blank (rd_of w) (ra_of w) s.gpr)

-- a compare, with L set or not
pub compare_went : {ws vs : List ℕ} {at : SectionAddress} {w : ℕ} {s : VM} (right : GprValue) (signed : Bool)
    → Cells vs (compared_of w right signed s) → Carries ws at w (compare_of w (reg s (ra_of w)) right signed) s Ended vs
unfolding compare_of compared_of leave_by went_of done_of
compare_went {ws} {vs} {at} {w} {s} right signed c = by (flag w 10) c
  where
    by : (b : Bool)
        → Cells vs (pick b s (with_compare s (crfd_of w) (record { left = (reg s (ra_of w)).value; right = right; signed = signed }) (ra_of w) (marked (reg s (ra_of w)) (ComparisonResult (crfd_of w)))))
        → Carries ws at w (pick b Nothing (Compare (record { left = (reg s (ra_of w)).value; right = right; signed = signed }) (marked (reg s (ra_of w)) (ComparisonResult (crfd_of w))))) s Ended vs
    by true c = record { leave = refl; cells = c }
    by false c = record { leave = refl; cells = c }
