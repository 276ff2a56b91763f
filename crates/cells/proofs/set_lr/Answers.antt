-- One value is written.
use Rattle.cells.proofs.CellLaws.{cells_long, set_lr}
use native.Mathlib.Omega.{arith}
use Rattle.cells.proofs.set_lr.Goals as goal

pub put_value-requires : goal.put_value-requires
put_value-requires c = omega (arith, cells_long c.requires)

pub returns : goal.returns
returns c = set_lr c.args.v c.requires c.put_value.ensures.0 c.put_value.ensures.1
