-- One record is written.
use Rattle.cells.proofs.CellLaws.{cells_long, set_compare}
use native.Mathlib.Omega.{arith}
use Rattle.cells.proofs.set_compare.Goals as goal

pub put_compare-requires : goal.put_compare-requires
put_compare-requires c = omega (arith, cells_long c.requires.0, c.requires.1)

pub returns : goal.returns
returns c = set_compare c.args.k c.args.c c.requires.0 c.requires.1 c.put_compare.ensures.0 c.put_compare.ensures.1
