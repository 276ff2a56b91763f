-- The commonest words, told by their primary opcode.
use Rattle.step.proofs.Masks.{masked}
use mathlib.Core.Path.{refl, sym, ap, ◌∙◌}
use mathlib.Core.Bool.{true, false}
use Rattle.cells.specs.Cells.{state_of}
use Rattle.runs.proofs.Carrying.{cells_as, same_reg, went_by, compare_went}
use Rattle.step.specs.Runs.{leave_by}
use Rattle.step.specs.Arms.{rd_of, ra_of, access_of, effect_by}
use Rattle.step.specs.Step.{done_of}
use Rattle.runs.specs.Went.{went_of}
use Rattle.vm.specs.declared.VM.{VM}
use Rattle.vm.specs.Registers.{blank, with_reg}
use Rattle.decoder.specs.Table.{rows, first}
use Rattle.decoder.specs.declared.Op.TheVariants.{Cmpli, Cmpi, Addi, Addis, Bc, B, Rlwinm, Ori, Lwz, Lbz, Stw, Stb, Lhz, Sth}
use Rattle.runs.proofs.Told.{by_primary, effect_by_lem}
use Rattle.runs.proofs.word.one.Goals as goal

pub returns-in-10 : goal.returns-in-10
unfolding rows first access_of effect_by leave_by went_of done_of
returns-in-10 c =
    let a = c.args in
    went_by _ (effect_by_lem a.im.now.words.now a.at a.w (state_of a.cells.now) Cmpli (by_primary a.w 10 (sym c.opcd.ensures ∙ c.in-10.is) refl)) (compare_went _ false (cells_as (rw c.uimm.ensures) c.compared.ensures))

pub returns-in-11 : goal.returns-in-11
unfolding rows first access_of effect_by leave_by went_of done_of
returns-in-11 c =
    let a = c.args in
    went_by _ (effect_by_lem a.im.now.words.now a.at a.w (state_of a.cells.now) Cmpi (by_primary a.w 11 (sym c.opcd.ensures ∙ c.in-11.is) refl)) (compare_went _ true (cells_as (rw c.simm.ensures) c.compared-in-11.ensures))

pub returns-in-14 : goal.returns-in-14
unfolding rows first access_of effect_by leave_by went_of done_of
returns-in-14 c =
    let a = c.args in
    went_by _ (effect_by_lem a.im.now.words.now a.at a.w (state_of a.cells.now) Addi (by_primary a.w 14 (sym c.opcd.ensures ∙ c.in-14.is) refl)) (record { leave = refl; cells = cells_as (rw (c.addi-g.ensures, c.register_in.ensures, c.target_at-known.ensures, c.rd.ensures, c.ra-a.ensures)) c.set_register.ensures })

pub returns-in-15 : goal.returns-in-15
unfolding rows first access_of effect_by leave_by went_of done_of
returns-in-15 c =
    let a = c.args in
    went_by _ (effect_by_lem a.im.now.words.now a.at a.w (state_of a.cells.now) Addis (by_primary a.w 15 (sym c.opcd.ensures ∙ c.in-15.is) refl)) (record { leave = refl; cells = cells_as (rw (c.addis.ensures, c.register_in-g.ensures, c.target_at-known-in-15.ensures, c.rd-in-15.ensures, c.ra.ensures)) c.set_register-in-15.ensures })

pub returns-in-16 : goal.returns-in-16
unfolding rows first access_of effect_by leave_by went_of done_of
returns-in-16 c =
    let a = c.args in
    went_by _ (effect_by_lem a.im.now.words.now a.at a.w (state_of a.cells.now) Bc (by_primary a.w 16 (sym c.opcd.ensures ∙ c.in-16.is) refl)) (record { leave = c.leaves.ensures; cells = c.requires })

pub returns-in-18 : goal.returns-in-18
unfolding rows first access_of effect_by leave_by went_of done_of
returns-in-18 c =
    let a = c.args in
    went_by _ (effect_by_lem a.im.now.words.now a.at a.w (state_of a.cells.now) B (by_primary a.w 18 (sym c.opcd.ensures ∙ c.in-18.is) refl)) (record { leave = c.leaves-in-18.ensures; cells = c.requires })

pub returns-in-21 : goal.returns-in-21
unfolding rows first access_of effect_by leave_by went_of done_of
returns-in-21 c =
    let a = c.args in
    went_by _ (effect_by_lem a.im.now.words.now a.at a.w (state_of a.cells.now) Rlwinm (by_primary a.w 21 (sym c.opcd.ensures ∙ c.in-21.is) refl)) (record { leave = refl; cells = cells_as (rw (c.set_direct.ensures, c.rotate.ensures, c.mask_value-m.ensures, c.register_in-g-in-21.ensures, c.sh.ensures, c.mb.ensures, c.me.ensures, c.rd-in-21.ensures, c.ra-in-21.ensures, masked a.w)) c.set_register-in-21.ensures })

pub returns-in-24 : goal.returns-in-24
unfolding rows first access_of effect_by leave_by went_of done_of
returns-in-24 c =
    let a = c.args in
    went_by _ (effect_by_lem a.im.now.words.now a.at a.w (state_of a.cells.now) Ori (by_primary a.w 24 (sym c.opcd.ensures ∙ c.in-24.is) refl)) (record { leave = refl; cells = cells_as (rw (c.ori-g.ensures, c.register_in-in-24.ensures, c.target_at-known-in-24.ensures, c.rd-in-24.ensures, c.ra-in-24.ensures)) c.set_register-in-24.ensures })

pub returns-in-32 : goal.returns-in-32
unfolding rows first access_of effect_by leave_by went_of done_of
returns-in-32 c =
    let a = c.args in
    went_by _ (effect_by_lem a.im.now.words.now a.at a.w (state_of a.cells.now) Lwz (by_primary a.w 32 (sym c.opcd.ensures ∙ c.in-32.is) refl)) (record { leave = refl; cells = cells_as (rw c.rd-in-32.ensures (ap (λ (t : VM). with_reg t (rd_of a.w) blank) (sym (same_reg (state_of a.cells.now) (ra_of a.w))))) c.forget.ensures })

pub returns-in-34 : goal.returns-in-34
unfolding rows first access_of effect_by leave_by went_of done_of
returns-in-34 c =
    let a = c.args in
    went_by _ (effect_by_lem a.im.now.words.now a.at a.w (state_of a.cells.now) Lbz (by_primary a.w 34 (sym c.opcd.ensures ∙ c.in-34.is) refl)) (record { leave = refl; cells = cells_as (rw c.rd-in-34.ensures (ap (λ (t : VM). with_reg t (rd_of a.w) blank) (sym (same_reg (state_of a.cells.now) (ra_of a.w))))) c.forget-in-34.ensures })

pub returns-in-36 : goal.returns-in-36
unfolding rows first access_of effect_by leave_by went_of done_of
returns-in-36 c =
    let a = c.args in
    went_by _ (effect_by_lem a.im.now.words.now a.at a.w (state_of a.cells.now) Stw (by_primary a.w 36 (sym c.opcd.ensures ∙ c.in-36.is) refl)) (record { leave = refl; cells = cells_as (sym (same_reg (state_of a.cells.now) (ra_of a.w))) c.requires })

pub returns-in-38 : goal.returns-in-38
unfolding rows first access_of effect_by leave_by went_of done_of
returns-in-38 c =
    let a = c.args in
    went_by _ (effect_by_lem a.im.now.words.now a.at a.w (state_of a.cells.now) Stb (by_primary a.w 38 (sym c.opcd.ensures ∙ c.in-38.is) refl)) (record { leave = refl; cells = cells_as (sym (same_reg (state_of a.cells.now) (ra_of a.w))) c.requires })

pub returns-in-40 : goal.returns-in-40
unfolding rows first access_of effect_by leave_by went_of done_of
returns-in-40 c =
    let a = c.args in
    went_by _ (effect_by_lem a.im.now.words.now a.at a.w (state_of a.cells.now) Lhz (by_primary a.w 40 (sym c.opcd.ensures ∙ c.in-40.is) refl)) (record { leave = refl; cells = cells_as (rw c.rd-in-40.ensures (ap (λ (t : VM). with_reg t (rd_of a.w) blank) (sym (same_reg (state_of a.cells.now) (ra_of a.w))))) c.forget-in-40.ensures })

pub returns-in-44 : goal.returns-in-44
unfolding rows first access_of effect_by leave_by went_of done_of
returns-in-44 c =
    let a = c.args in
    went_by _ (effect_by_lem a.im.now.words.now a.at a.w (state_of a.cells.now) Sth (by_primary a.w 44 (sym c.opcd.ensures ∙ c.in-44.is) refl)) (record { leave = refl; cells = cells_as (sym (same_reg (state_of a.cells.now) (ra_of a.w))) c.requires })
