-- The library's rotation is the manual's.
use Rattle.std.proofs.Common.{◌∙◌}
use Rattle.words.proofs.Rotate.{rotate_law}
use Rattle.words.proofs.mask.rotate_left.Goals as goal

pub returns : goal.returns
returns c = c.rotate_left.ensures ∙ rotate_law c.args.x c.args.n c.ranges.x.fits
