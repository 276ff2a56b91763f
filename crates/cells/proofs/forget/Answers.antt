-- Zeros are the words of a register of which nothing is known.
use Rattle.cells.proofs.CellLaws.{cells_long, set_register}
use Rattle.vm.specs.Registers.{blank}
use native.Mathlib.Omega.{arith}
use Rattle.cells.proofs.forget.Goals as goal

pub put_zeros-requires : goal.put_zeros-requires
put_zeros-requires c = omega (arith, cells_long c.requires.0, c.requires.1)

pub returns : goal.returns
returns c = set_register c.args.i blank c.requires.0 c.requires.1 c.put_zeros.ensures (omega arith)
