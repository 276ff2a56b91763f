-- The register is marked, then the compare recorded: in either order they are the same state.
use Rattle.cells.proofs.CellLaws.{cells_state}
use Rattle.runs.proofs.Carrying.{cells_as, cells_own}
use native.Mathlib.Omega.{arith}
use Rattle.runs.specs.Went.{compared_of}
use Rattle.runs.proofs.carry.compared.Goals as goal

pub returns-then-l : goal.returns-then-l
unfolding compared_of
returns-then-l c = cells_as (rw (← c.l.ensures, c.if-l.true)) c.requires

pub set_compare-requires : goal.set_compare-requires
set_compare-requires c = (cells_own c.set_register.ensures, omega (arith, c.crfd-crf.ensures))

pub returns : goal.returns
unfolding compared_of
returns c = cells_as (rw (cells_state c.set_register.ensures, ← c.l.ensures, c.if-l.false, c.with_value.ensures, c.register_in-g.ensures, c.crfd-crf.ensures, c.ra-a.ensures)) c.set_compare.ensures
