-- One record is written.
use Rattle.cells.proofs.CellLaws.{cells_long, set_register}
use native.Mathlib.Omega.{arith}
use Rattle.cells.proofs.set_register.Goals as goal

pub put_register-requires : goal.put_register-requires
put_register-requires c = omega (arith, cells_long c.requires.0, c.requires.1)

pub returns : goal.returns
returns c = set_register c.args.i c.args.g c.requires.0 c.requires.1 c.put_register.ensures.0 c.put_register.ensures.1
