-- A whole state has thirty-two registers and eight compare records, and so has every state made of one.
-- Assumes nothing.
use mathlib.Core.Path.{◌≡◌, refl, ◌∙◌}
use mathlib.Core.List.{List}
use Prim.Native.Nat.{ℕ}
use native.Mathlib.Omega.{arith}
use lib.ListN.{length, length-set, length-map, length-append, length-take, length-drop}
use Rattle.vm.specs.declared.GprValue.{GprValue}
use Rattle.vm.specs.declared.Gpr.{Gpr}
use Rattle.vm.specs.declared.Cr.{Cr}
use Rattle.vm.specs.declared.VM.{VM}
use Rattle.vm.specs.Registers.{with_gprs, with_reg, with_compare, with_lr, with_ctr}
use Rattle.vm.specs.States.{fresh, keep_value, link_of, return_of, with_result}

pub record Whole (s : VM) : Type 0 where
  pub gprs : length s.gpr ≡ 32
  pub crs : length s.cr ≡ 8

pub whole_fresh : Whole fresh
whole_fresh = record { gprs = refl; crs = refl }

pub whole_gprs : {s : VM} (gs : List Gpr) → Whole s → length gs ≡ 32 → Whole (with_gprs s gs)
whole_gprs gs h l = record { gprs = l; crs = h.crs }

pub whole_reg : {s : VM} (i : ℕ) (g : Gpr) → Whole s → Whole (with_reg s i g)
whole_reg {s} i g h = record { gprs = length-set s.gpr i g ∙ h.gprs; crs = h.crs }

pub whole_compare : {s : VM} (k : ℕ) (c : Cr) (a : ℕ) (g : Gpr) → Whole s → Whole (with_compare s k c a g)
whole_compare {s} k c a g h = record { gprs = length-set s.gpr a g ∙ h.gprs; crs = length-set s.cr k c ∙ h.crs }

pub whole_lr : {s : VM} (v : GprValue) → Whole s → Whole (with_lr s v)
whole_lr v h = record { gprs = h.gprs; crs = h.crs }

pub whole_ctr : {s : VM} (v : GprValue) → Whole s → Whole (with_ctr s v)
whole_ctr v h = record { gprs = h.gprs; crs = h.crs }

pub whole_link : (s : VM) → Whole (link_of s)
whole_link s = whole_reg 13 _ (whole_reg 2 _ whole_fresh)

pub whole_return : {s : VM} → Whole s → Whole (return_of s)
whole_return {s} h =
    let t : VM = keep_value (keep_value (keep_value fresh s 1) s 2) s 13 in
    let w : Whole t = whole_reg 13 _ (whole_reg 2 _ (whole_reg 1 _ whole_fresh)) in
    record {
      gprs = simp (length-append, length-take, length-drop) (omega (arith, w.gprs, h.gprs));
      crs = refl;
    }

pub whole_result : {s : VM} (v : GprValue) (k : ℕ) → Whole s → Whole (with_result s v k)
whole_result {s} v k h = record { gprs = length-map s.gpr _ ∙ h.gprs; crs = h.crs }
