-- Eight words make a register.
use Rattle.cells.proofs.CellLaws.{register_read}
use mathlib.Core.Path.{◌∙◌}
use Rattle.cells.proofs.register_in.Goals as goal

pub returns : goal.returns
returns c = c.register_at.ensures ∙ register_read c.args.cells.now c.args.i c.requires.1
