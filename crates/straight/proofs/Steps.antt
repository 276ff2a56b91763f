-- A word of the twelve kinds with no relocation puts one record into its destination and goes on.
-- Assumes nothing.
use Rattle.std.specs.Prelude.{None, Ok, Option}
use mathlib.Core.Path.{◌≡◌, refl, ap, ◌∙◌}
use mathlib.Core.Bool.{Bool, true, false}
use mathlib.Core.List.{List}
use Prim.Native.Nat.{ℕ}
use lib.Dec.{eqb, ltb}
use Rattle.words.specs.Choice.{pick}
use Rattle.words.specs.Word.{field, simm_of}
use Rattle.words.specs.Bits.{mask_of}
use Rattle.places.specs.declared.SectionAddress.{SectionAddress}
use Rattle.search.specs.First.{on_found}
use Rattle.decoder.specs.declared.Op.{Op}
use Rattle.decoder.specs.Decode.{decoded}
use Rattle.image.specs.Layout.{sections, section_at, bound_at, unbound_at}
use Rattle.lookups.specs.declared.Wanted.TheVariants.{Any}
use Rattle.lookups.specs.Relocations.{relocation_for, bound_target, unbound_target, bound_index, unbound_index, known, target_at}
use Rattle.vm.specs.declared.VM.{VM}
use Rattle.vm.specs.declared.Gpr.{Gpr}
use Rattle.vm.specs.Registers.{direct, reg, with_reg}
use Rattle.vm.specs.Rules.{add_of, subf_of, subfic_of, rotate_of, rlwnm_of}
use Rattle.step.specs.declared.Effect.{Effect}
use Rattle.step.specs.declared.Effect.TheVariants.{SetD, SetA}
use Rattle.step.specs.Arms.{rd_of, ra_of, rb_of, addis_gpr, addi_gpr, ori_gpr, or_gpr, effect_by}
use Rattle.step.specs.Step.{goes_on, done_of, step_of}
use Rattle.straight.specs.Manual.{Kind, add, addi, addic, addic_dot, addis, subf, subfc, subfic, ori, orr, rlwinm, rlwnm, Is, destination}
use Rattle.straight.specs.Run.{Bare}
use Rattle.straight.proofs.Decoded.{op_of, decodes}
use Rattle.places.specs.declared.RelocationTarget.{RelocationTarget}

-- no entry in either table: no relocation
nothing_known : (ws : List ℕ) (p : SectionAddress) (t : Bool) (f g : Option ℕ) → f ≡ None → g ≡ None
    → known (pick t (on_found f (λ (j : ℕ). bound_target Any (bound_at ws j)) (on_found g (λ (j : ℕ). unbound_target ws Any (unbound_at ws j)) (Ok None))) (Ok None)) ≡ None
nothing_known ws p true f g e h = rw (e, h)
nothing_known ws p false f g e h = refl

pub bare_has_none : (ws : List ℕ) (p : SectionAddress) → Bare ws p → target_at ws p ≡ None
unfolding relocation_for
bare_has_none ws p b =
    nothing_known ws p (ltb p.section (sections ws)) (bound_index ws p) (unbound_index ws (section_at ws p.section).elf p.address) b.0 b.1

-- the record that a word of each kind puts into its destination
abbrev pub record_of : Kind → SectionAddress → ℕ → VM → Gpr
record_of add at w s = direct (add_of (reg s (ra_of w)).value (reg s (rb_of w)).value)
record_of addi at w s = addi_gpr None (eqb (ra_of w) 0) at w (reg s (ra_of w))
record_of addic at w s = addi_gpr None false at w (reg s (ra_of w))
record_of addic_dot at w s = addi_gpr None false at w (reg s (ra_of w))
record_of addis at w s = addis_gpr None at w (reg s (ra_of w)).value
record_of subf at w s = direct (subf_of (reg s (ra_of w)).value (reg s (rb_of w)).value)
record_of subfc at w s = direct (subf_of (reg s (ra_of w)).value (reg s (rb_of w)).value)
record_of subfic at w s = direct (subfic_of (reg s (ra_of w)).value (simm_of w))
record_of ori at w s = ori_gpr None at w (reg s (rd_of w))
record_of orr at w s = or_gpr w (reg s (rd_of w)) (reg s (rb_of w))
record_of rlwinm at w s = direct (rotate_of (reg s (rd_of w)).value (field w 16 20) (mask_of (field w 21 25) (field w 26 30)))
record_of rlwnm at w s = direct (rlwnm_of (reg s (rd_of w)).value (reg s (rb_of w)).value (mask_of (field w 21 25) (field w 26 30)))

-- the effect of each kind's operation, where no relocation is known
effect : Kind → SectionAddress → ℕ → VM → Effect
effect add at w s = SetD (record_of add at w s)
effect addi at w s = SetD (record_of addi at w s)
effect addic at w s = SetD (record_of addic at w s)
effect addic_dot at w s = SetD (record_of addic_dot at w s)
effect addis at w s = SetD (record_of addis at w s)
effect subf at w s = SetD (record_of subf at w s)
effect subfc at w s = SetD (record_of subfc at w s)
effect subfic at w s = SetD (record_of subfic at w s)
effect ori at w s = SetA (record_of ori at w s)
effect orr at w s = SetA (record_of orr at w s)
effect rlwinm at w s = SetA (record_of rlwinm at w s)
effect rlwnm at w s = SetA (record_of rlwnm at w s)

module _ (ws : List ℕ) (at : SectionAddress) (w : ℕ) (s : VM) (none : target_at ws at ≡ None) where
  abbrev by : Op → Effect
  by o = effect_by o (decoded w).writes ws at w (reg s (rd_of w)) (reg s (ra_of w)) (reg s (rb_of w))

  effect_is : (k : Kind) → by (op_of k) ≡ effect k at w s
  unfolding effect_by effect
  effect_is add = refl
  effect_is addi = ap (λ (t : Option RelocationTarget). SetD (addi_gpr t (eqb (ra_of w) 0) at w (reg s (ra_of w)))) none
  effect_is addic = ap (λ (t : Option RelocationTarget). SetD (addi_gpr t false at w (reg s (ra_of w)))) none
  effect_is addic_dot = ap (λ (t : Option RelocationTarget). SetD (addi_gpr t false at w (reg s (ra_of w)))) none
  effect_is addis = ap (λ (t : Option RelocationTarget). SetD (addis_gpr t at w (reg s (ra_of w)).value)) none
  effect_is subf = refl
  effect_is subfc = refl
  effect_is subfic = refl
  effect_is ori = ap (λ (t : Option RelocationTarget). SetA (ori_gpr t at w (reg s (rd_of w)))) none
  effect_is orr = refl
  effect_is rlwinm = refl
  effect_is rlwnm = refl

  done_is : (k : Kind) → done_of (effect k at w s) ws at w s ≡ goes_on (with_reg s (destination k w) (record_of k at w s))
  unfolding done_of effect
  done_is add = refl
  done_is addi = refl
  done_is addic = refl
  done_is addic_dot = refl
  done_is addis = refl
  done_is subf = refl
  done_is subfc = refl
  done_is subfic = refl
  done_is ori = refl
  done_is orr = refl
  done_is rlwinm = refl
  done_is rlwnm = refl

  pub steps_on : (k : Kind) → Is k w → step_of ws at w s ≡ goes_on (with_reg s (destination k w) (record_of k at w s))
  unfolding step_of
  steps_on k i = ap (λ (e : Effect). done_of e ws at w s) (ap by (decodes k w i) ∙ effect_is k) ∙ done_is k
