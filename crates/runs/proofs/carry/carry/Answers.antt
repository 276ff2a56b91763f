-- One arm for each effect.
use mathlib.Core.Path.{refl}
use Rattle.cells.proofs.CellLaws.{cells_state}
use Rattle.runs.proofs.Carrying.{cells_as, cells_own}
use Rattle.step.specs.Runs.{leave_by}
use Rattle.step.specs.Step.{done_of}
use Rattle.runs.specs.Went.{went_of}
use native.Mathlib.Omega.{arith}
use Rattle.runs.proofs.carry.carry.Goals as goal

pub set_compare-requires : goal.set_compare-requires
set_compare-requires c = (cells_own c.set_register-in-Compare.ensures, omega (arith, c.crfd.ensures))

pub forget-requires : goal.forget-requires
forget-requires c = (cells_own c.set_register-in-Load.ensures, omega (arith, c.rd-d.ensures))

pub returns-in-Nothing : goal.returns-in-Nothing
unfolding leave_by went_of done_of
returns-in-Nothing c = rw c.in-Nothing.is (record { leave = refl; cells = c.requires })

pub returns-in-SetD : goal.returns-in-SetD
unfolding leave_by went_of done_of
returns-in-SetD c = rw c.in-SetD.is (record { leave = refl; cells = cells_as (rw c.rd-d.ensures) c.set_register.ensures })

pub returns-in-SetA : goal.returns-in-SetA
unfolding leave_by went_of done_of
returns-in-SetA c = rw c.in-SetA.is (record { leave = refl; cells = cells_as (rw c.ra-a.ensures) c.set_register-in-SetA.ensures })

pub returns-in-Compare : goal.returns-in-Compare
unfolding leave_by went_of done_of
returns-in-Compare c = rw c.in-Compare.is (record { leave = refl; cells = cells_as (rw (cells_state c.set_register-in-Compare.ensures, c.crfd.ensures, c.ra-a.ensures)) c.set_compare.ensures })

pub returns-in-ToLr : goal.returns-in-ToLr
unfolding leave_by went_of done_of
returns-in-ToLr c = rw c.in-ToLr.is (record { leave = refl; cells = c.set_lr.ensures })

pub returns-in-ToCtr : goal.returns-in-ToCtr
unfolding leave_by went_of done_of
returns-in-ToCtr c = rw c.in-ToCtr.is (record { leave = refl; cells = c.set_ctr.ensures })

pub returns-in-FromLr : goal.returns-in-FromLr
unfolding leave_by went_of done_of
returns-in-FromLr c = rw c.in-FromLr.is (record { leave = refl; cells = cells_as (rw (c.set_direct.ensures, c.lr_in.ensures, c.rd-d.ensures)) c.set_register-in-FromLr.ensures })

pub returns-in-FromCtr : goal.returns-in-FromCtr
unfolding leave_by went_of done_of
returns-in-FromCtr c = rw c.in-FromCtr.is (record { leave = refl; cells = cells_as (rw (c.set_direct-in-FromCtr.ensures, c.ctr_in.ensures, c.rd-d.ensures)) c.set_register-in-FromCtr.ensures })

pub returns-in-Load : goal.returns-in-Load
unfolding leave_by went_of done_of
returns-in-Load c = rw c.in-Load.is (record { leave = refl; cells = cells_as (rw (cells_state c.set_register-in-Load.ensures, c.ra-a.ensures, c.rd-d.ensures)) c.forget.ensures })

pub returns-in-Store : goal.returns-in-Store
unfolding leave_by went_of done_of
returns-in-Store c = rw c.in-Store.is (record { leave = refl; cells = cells_as (rw c.ra-a.ensures) c.set_register-in-Store.ensures })

pub returns-in-Clear : goal.returns-in-Clear
unfolding leave_by went_of done_of
returns-in-Clear c = rw c.in-Clear.is (record { leave = refl; cells = c.clear.ensures })

pub returns-in-Leaves : goal.returns-in-Leaves
unfolding leave_by went_of done_of
returns-in-Leaves c = rw c.in-Leaves.is (record { leave = c.leaves.ensures; cells = c.requires })
