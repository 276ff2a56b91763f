-- Eight words make a compare record.
use Rattle.cells.proofs.CellLaws.{compare_read}
use mathlib.Core.Path.{◌∙◌}
use Rattle.cells.proofs.compare_in.Goals as goal

pub returns : goal.returns
returns c = c.compare_at.ensures ∙ compare_read c.args.cells.now c.args.k c.requires.1
