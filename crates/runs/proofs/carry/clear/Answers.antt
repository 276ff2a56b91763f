-- The registers that the kind names are blanked one by one.
use Rattle.runs.proofs.Carrying.{cells_as, cells_own, cleared_none, cleared_d, cleared_a, cleared_both}
use Rattle.cells.proofs.CellLaws.{cells_state}
use Rattle.runs.proofs.Carrying.{cells_as, cells_own}
use mathlib.Core.Path.{sym}
use Rattle.cells.specs.Cells.{state_of}
use native.Mathlib.Omega.{arith}
use Rattle.runs.proofs.carry.clear.Goals as goal

pub forget-requires-in-RdRa-2 : goal.forget-requires-in-RdRa-2
forget-requires-in-RdRa-2 c = (cells_own c.forget-in-RdRa.ensures, omega (arith, c.ra-in-RdRa.ensures))

pub returns-in-Nothing : goal.returns-in-Nothing
returns-in-Nothing c =
    let a = c.args in
    cells_as (rw c.in-Nothing.is (sym (cleared_none a.w (state_of a.cells.now)))) c.requires

pub returns-in-Rd : goal.returns-in-Rd
returns-in-Rd c =
    let a = c.args in
    cells_as (rw (c.rd.ensures, c.in-Rd.is) (sym (cleared_d a.w (state_of a.cells.now)))) c.forget.ensures

pub returns-in-Ra : goal.returns-in-Ra
returns-in-Ra c =
    let a = c.args in
    cells_as (rw (c.ra.ensures, c.in-Ra.is) (sym (cleared_a a.w (state_of a.cells.now)))) c.forget-in-Ra.ensures

pub returns-in-RdRa : goal.returns-in-RdRa
returns-in-RdRa c =
    let a = c.args in
    cells_as (rw (cells_state c.forget-in-RdRa.ensures, c.rd-in-RdRa.ensures, c.ra-in-RdRa.ensures, c.in-RdRa.is) (sym (cleared_both a.w (state_of a.cells.now)))) c.forget-in-RdRa-2.ensures
