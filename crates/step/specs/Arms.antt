-- The arms of vm.rs in its order: from a word and the records of its operands to what the word does.
-- Assumes nothing. gs, ga, gb are the records of rS (the bits of rD), rA and rB.
use Rattle.std.specs.Prelude.{ℕ, Bool, true, false, List, eqb, Option, Some, None}
use Rattle.words.specs.Choice.{pick}
use Rattle.words.specs.Word.{field, flag, simm_of, spr_of}
use Rattle.words.specs.Bits.{mask_of}
use Rattle.places.specs.declared.SectionAddress.{SectionAddress}
use Rattle.decoder.specs.declared.Decoded.{Decoded}
use Rattle.decoder.specs.declared.Writes.{Writes}
use Rattle.decoder.specs.declared.Op.{Op}
use Rattle.decoder.specs.declared.Op.TheVariants as op
use Rattle.decoder.specs.Class.{is_load, is_update}
use Rattle.lookups.specs.Relocations.{target_at, section_address_for}
use Rattle.vm.specs.declared.GprValue.{GprValue}
use Rattle.vm.specs.declared.GprValue.TheVariants.{Constant, Address, ComparisonResult}
use Rattle.vm.specs.declared.Gpr.{Gpr}
use Rattle.vm.specs.Registers.{direct, high, low, marked, blank}
use Rattle.vm.specs.Rules.{add_of, addis_of, addi_of, subf_of, subfic_of, ori_of, or_of, rotate_of, rlwnm_of, lwzx_of, address_of, seen_of, base_of}
use Rattle.step.specs.declared.Way.TheVariants as way
use Rattle.step.specs.declared.Effect.{Effect}
use Rattle.step.specs.declared.Effect.TheVariants.{Nothing, SetD, SetA, Compare, ToLr, ToCtr, FromLr, FromCtr, Load, Store, Clear, Leaves}
use Rattle.places.specs.declared.RelocationTarget.{RelocationTarget}

-- the operands' numbers
abbrev pub rd_of : ℕ → ℕ
rd_of w = field w 6 10

abbrev pub ra_of : ℕ → ℕ
ra_of w = field w 11 15

abbrev pub rb_of : ℕ → ℕ
rb_of w = field w 16 20

abbrev pub crfd_of : ℕ → ℕ
crfd_of w = field w 6 8

abbrev pub uimm_of : ℕ → ℕ
uimm_of w = field w 16 31

-- addis rD, rA, SIMM: the relocation if there is one; lis rD, SIMM
unfoldable pub addis_gpr : Option RelocationTarget → SectionAddress → ℕ → GprValue → Gpr
addis_gpr (Some t) at w left = high (Address t) at
addis_gpr None at w left = pick (eqb (ra_of w) 0) (high (addis_of (Constant 0) (simm_of w)) at) (direct (addis_of left (simm_of w)))

-- addi rD, rA, SIMM: the relocation if there is one; li rD, SIMM where rA 0 means zero
unfoldable pub addi_gpr : Option RelocationTarget → Bool → SectionAddress → ℕ → Gpr → Gpr
addi_gpr (Some t) zero at w ga = low (Address t) at ga
addi_gpr None zero at w ga = pick zero (direct (addi_of (Constant 0) (simm_of w))) (low (addi_of ga.value (simm_of w)) at ga)

-- ori rA, rS, UIMM: the relocation if there is one
unfoldable pub ori_gpr : Option RelocationTarget → SectionAddress → ℕ → Gpr → Gpr
ori_gpr (Some t) at w gs = low (Address t) at gs
ori_gpr None at w gs = low (ori_of gs.value (uimm_of w)) at gs

-- or rA, rS, rB: a copy of the whole record where rS is rB
unfoldable pub or_gpr : ℕ → Gpr → Gpr → Gpr
or_gpr w gs gb = pick (eqb (rd_of w) (rb_of w)) gs (direct (or_of gs.value gb.value))

-- cmp, cmpi, cmpl, cmpli: the compare is recorded and rA marked, its places kept; with L set, nothing
unfoldable pub compare_of : ℕ → Gpr → GprValue → Bool → Effect
compare_of w ga right signed =
    pick (flag w 10) Nothing
    (Compare (record { left = ga.value; right = right; signed = signed }) (marked ga (ComparisonResult (crfd_of w))))

-- mtspr SPR, rS
unfoldable pub to_spr : ℕ → GprValue → Effect
to_spr w v = pick (eqb (spr_of w) 8) (ToLr v) (pick (eqb (spr_of w) 9) (ToCtr v) Nothing)

-- mfspr rD, SPR
unfoldable pub from_spr : ℕ → Effect
from_spr w = pick (eqb (spr_of w) 8) FromLr (pick (eqb (spr_of w) 9) FromCtr (SetD blank))

-- what a displacement load or store reaches
abbrev pub seen_at : List ℕ → SectionAddress → ℕ → GprValue → Option RelocationTarget
seen_at ws at w base = seen_of (section_address_for ws at) base (simm_of w)

-- the load rule: the displacement loads and stores
unfoldable pub access_of : Op → List ℕ → SectionAddress → ℕ → Gpr → Effect
access_of o ws at w ga =
    pick (is_load o)
    (Load (base_of ga (is_update o) (seen_at ws at w ga.value) at) (seen_at ws at w ga.value))
    (Store (base_of ga (is_update o) (seen_at ws at w ga.value) at) (seen_at ws at w ga.value))

unfoldable pub effect_by : Op → Writes → List ℕ → SectionAddress → ℕ → Gpr → Gpr → Gpr → Effect
effect_by op.Illegal ks ws at w gs ga gb = Leaves way.Illegal
-- add rD, rA, rB
effect_by op.Add ks ws at w gs ga gb = SetD (direct (add_of ga.value gb.value))
-- addis rD, rA, SIMM
effect_by op.Addis ks ws at w gs ga gb = SetD (addis_gpr (target_at ws at) at w ga.value)
-- addi rD, rA, SIMM
-- addic rD, rA, SIMM
-- addic. rD, rA, SIMM
effect_by op.Addi ks ws at w gs ga gb = SetD (addi_gpr (target_at ws at) (eqb (ra_of w) 0) at w ga)
effect_by op.Addic ks ws at w gs ga gb = SetD (addi_gpr (target_at ws at) false at w ga)
effect_by op.AddicDot ks ws at w gs ga gb = SetD (addi_gpr (target_at ws at) false at w ga)
-- subf rD, rA, rB
-- subfc rD, rA, rB
effect_by op.Subf ks ws at w gs ga gb = SetD (direct (subf_of ga.value gb.value))
effect_by op.Subfc ks ws at w gs ga gb = SetD (direct (subf_of ga.value gb.value))
-- subfic rD, rA, SIMM
effect_by op.Subfic ks ws at w gs ga gb = SetD (direct (subfic_of ga.value (simm_of w)))
-- ori rA, rS, UIMM
effect_by op.Ori ks ws at w gs ga gb = SetA (ori_gpr (target_at ws at) at w gs)
-- or rA, rS, rB
effect_by op.Or ks ws at w gs ga gb = SetA (or_gpr w gs gb)
-- cmp [crfD], [L], rA, rB
-- cmpi [crfD], [L], rA, SIMM
-- cmpl [crfD], [L], rA, rB
-- cmpli [crfD], [L], rA, UIMM
effect_by op.Cmp ks ws at w gs ga gb = compare_of w ga gb.value true
effect_by op.Cmpi ks ws at w gs ga gb = compare_of w ga (Constant (simm_of w)) true
effect_by op.Cmpl ks ws at w gs ga gb = compare_of w ga gb.value false
effect_by op.Cmpli ks ws at w gs ga gb = compare_of w ga (Constant (uimm_of w)) false
-- rlwinm rA, rS, SH, MB, ME
-- rlwnm rA, rS, rB, MB, ME
effect_by op.Rlwinm ks ws at w gs ga gb = SetA (direct (rotate_of gs.value (field w 16 20) (mask_of (field w 21 25) (field w 26 30))))
effect_by op.Rlwnm ks ws at w gs ga gb = SetA (direct (rlwnm_of gs.value gb.value (mask_of (field w 21 25) (field w 26 30))))
-- b[l][a] target_addr
-- b[c][l][a] BO, BI, target_addr
-- b[c]ctr[l] BO, BI
-- b[c]lr[l] BO, BI
effect_by op.B ks ws at w gs ga gb = Leaves way.B
effect_by op.Bc ks ws at w gs ga gb = Leaves way.Bc
effect_by op.Bcctr ks ws at w gs ga gb = Leaves way.Bcctr
effect_by op.Bclr ks ws at w gs ga gb = Leaves way.Bclr
-- lwzx rD, rA, rB
effect_by op.Lwzx ks ws at w gs ga gb = SetD (direct (lwzx_of (address_of (section_address_for ws at) ga.value) gb.value))
-- mtspr SPR, rS
effect_by op.Mtspr ks ws at w gs ga gb = to_spr w gs.value
-- mfspr rD, SPR
effect_by op.Mfspr ks ws at w gs ga gb = from_spr w
-- rfi
effect_by op.Rfi ks ws at w gs ga gb = Leaves way.Rfi
-- is_load_store_op
effect_by op.Lwz ks ws at w gs ga gb = access_of op.Lwz ws at w ga
effect_by op.Lwzu ks ws at w gs ga gb = access_of op.Lwzu ws at w ga
effect_by op.Lbz ks ws at w gs ga gb = access_of op.Lbz ws at w ga
effect_by op.Lbzu ks ws at w gs ga gb = access_of op.Lbzu ws at w ga
effect_by op.Stw ks ws at w gs ga gb = access_of op.Stw ws at w ga
effect_by op.Stwu ks ws at w gs ga gb = access_of op.Stwu ws at w ga
effect_by op.Stb ks ws at w gs ga gb = access_of op.Stb ws at w ga
effect_by op.Stbu ks ws at w gs ga gb = access_of op.Stbu ws at w ga
effect_by op.Lhz ks ws at w gs ga gb = access_of op.Lhz ws at w ga
effect_by op.Lhzu ks ws at w gs ga gb = access_of op.Lhzu ws at w ga
effect_by op.Lha ks ws at w gs ga gb = access_of op.Lha ws at w ga
effect_by op.Lhau ks ws at w gs ga gb = access_of op.Lhau ws at w ga
effect_by op.Sth ks ws at w gs ga gb = access_of op.Sth ws at w ga
effect_by op.Sthu ks ws at w gs ga gb = access_of op.Sthu ws at w ga
effect_by op.Lmw ks ws at w gs ga gb = access_of op.Lmw ws at w ga
effect_by op.Stmw ks ws at w gs ga gb = access_of op.Stmw ws at w ga
effect_by op.Lfs ks ws at w gs ga gb = access_of op.Lfs ws at w ga
effect_by op.Lfsu ks ws at w gs ga gb = access_of op.Lfsu ws at w ga
effect_by op.Lfd ks ws at w gs ga gb = access_of op.Lfd ws at w ga
effect_by op.Lfdu ks ws at w gs ga gb = access_of op.Lfdu ws at w ga
effect_by op.Stfs ks ws at w gs ga gb = access_of op.Stfs ws at w ga
effect_by op.Stfsu ks ws at w gs ga gb = access_of op.Stfsu ws at w ga
effect_by op.Stfd ks ws at w gs ga gb = access_of op.Stfd ws at w ga
effect_by op.Stfdu ks ws at w gs ga gb = access_of op.Stfdu ws at w ga
-- any other word: the registers that it writes become Unknown
effect_by op.Other ks ws at w gs ga gb = Clear ks

abbrev pub effect_of : Decoded → List ℕ → SectionAddress → ℕ → Gpr → Gpr → Gpr → Effect
effect_of d ws at w gs ga gb = effect_by d.op d.writes ws at w gs ga gb
