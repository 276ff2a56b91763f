-- The commonest operations under 31 by themselves.
use mathlib.Core.Path.{refl, sym, ap, ◌∙◌}
use mathlib.Core.Bool.{true, false}
use Rattle.cells.specs.Cells.{state_of}
use Rattle.runs.proofs.Carrying.{cells_as, went_by, compare_went}
use Rattle.step.specs.Runs.{leave_by}
use Rattle.step.specs.Arms.{effect_by}
use Rattle.step.specs.Step.{done_of}
use Rattle.runs.specs.Went.{went_of}
use Rattle.decoder.specs.declared.Decoded.{Decoded}
use Rattle.decoder.specs.declared.Op.TheVariants.{Or, Add, Cmp, Cmpl, Lwzx, Subf, Other}
use Rattle.runs.proofs.Told.{effect_by_lem}
use Rattle.runs.proofs.word.extended.Goals as goal

pub returns-in-Or : goal.returns-in-Or
unfolding effect_by leave_by went_of done_of
returns-in-Or c =
    let a = c.args in
    went_by _ (effect_by_lem a.im.now.words.now a.at a.w (state_of a.cells.now) Or (sym (ap (λ (x : Decoded). x.op) c.decode-dec.ensures) ∙ c.in-Or.is)) (record { leave = refl; cells = cells_as (rw (c.or-g.ensures, c.register_in.ensures, c.register_in-in-Or.ensures, c.rd.ensures, c.rb.ensures, c.ra.ensures)) c.set_register.ensures })

pub returns-in-Add : goal.returns-in-Add
unfolding effect_by leave_by went_of done_of
returns-in-Add c =
    let a = c.args in
    went_by _ (effect_by_lem a.im.now.words.now a.at a.w (state_of a.cells.now) Add (sym (ap (λ (x : Decoded). x.op) c.decode-dec.ensures) ∙ c.in-Add.is)) (record { leave = refl; cells = cells_as (rw (c.set_direct.ensures, c.add.ensures, c.register_in-g.ensures, c.register_in-h.ensures, c.rd-in-Add.ensures, c.ra-in-Add.ensures, c.rb-in-Add.ensures)) c.set_register-in-Add.ensures })

pub returns-in-Cmp : goal.returns-in-Cmp
unfolding effect_by leave_by went_of done_of
returns-in-Cmp c =
    let a = c.args in
    went_by _ (effect_by_lem a.im.now.words.now a.at a.w (state_of a.cells.now) Cmp (sym (ap (λ (x : Decoded). x.op) c.decode-dec.ensures) ∙ c.in-Cmp.is)) (compare_went _ true (cells_as (rw (c.register_in-g-in-Cmp.ensures, c.rb-in-Cmp.ensures)) c.compared.ensures))

pub returns-in-Cmpl : goal.returns-in-Cmpl
unfolding effect_by leave_by went_of done_of
returns-in-Cmpl c =
    let a = c.args in
    went_by _ (effect_by_lem a.im.now.words.now a.at a.w (state_of a.cells.now) Cmpl (sym (ap (λ (x : Decoded). x.op) c.decode-dec.ensures) ∙ c.in-Cmpl.is)) (compare_went _ false (cells_as (rw (c.register_in-g-in-Cmpl.ensures, c.rb-in-Cmpl.ensures)) c.compared-in-Cmpl.ensures))

pub returns-in-Lwzx : goal.returns-in-Lwzx
unfolding effect_by leave_by went_of done_of
returns-in-Lwzx c =
    let a = c.args in
    went_by _ (effect_by_lem a.im.now.words.now a.at a.w (state_of a.cells.now) Lwzx (sym (ap (λ (x : Decoded). x.op) c.decode-dec.ensures) ∙ c.in-Lwzx.is)) (record { leave = refl; cells = cells_as (rw (c.set_direct-in-Lwzx.ensures, c.lwzx.ensures, c.address-known.ensures, c.register_in-g-in-Lwzx.ensures, c.register_in-h-in-Lwzx.ensures, c.rd-in-Lwzx.ensures, c.ra-in-Lwzx.ensures, c.rb-in-Lwzx.ensures)) c.set_register-in-Lwzx.ensures })

pub returns-in-Subf : goal.returns-in-Subf
unfolding effect_by leave_by went_of done_of
returns-in-Subf c =
    let a = c.args in
    went_by _ (effect_by_lem a.im.now.words.now a.at a.w (state_of a.cells.now) Subf (sym (ap (λ (x : Decoded). x.op) c.decode-dec.ensures) ∙ c.in-Subf.is)) (record { leave = refl; cells = cells_as (rw (c.set_direct-in-Subf.ensures, c.subf.ensures, c.register_in-g-in-Subf.ensures, c.register_in-h-in-Subf.ensures, c.rd-in-Subf.ensures, c.ra-in-Subf.ensures, c.rb-in-Subf.ensures)) c.set_register-in-Subf.ensures })

pub returns-in-Other : goal.returns-in-Other
unfolding effect_by leave_by went_of done_of
returns-in-Other c =
    let a = c.args in
    went_by _ (effect_by_lem a.im.now.words.now a.at a.w (state_of a.cells.now) Other (sym (ap (λ (x : Decoded). x.op) c.decode-dec.ensures) ∙ c.in-Other.is)) (record { leave = refl; cells = cells_as (rw c.decode-dec.ensures) c.clear.ensures })
