-- The complement of a, plus b, plus 1 is b less a.
use Rattle.std.proofs.Common.{sym}
use Rattle.words.proofs.Complement.{subtract_law}
use Rattle.words.proofs.sum.subtract_from.Goals as goal

pub returns : goal.returns
returns c = sym (subtract_law c.args.a c.args.b c.ranges.a.fits c.ranges.b.fits)
