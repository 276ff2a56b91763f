-- What is left to a word of ones has every bit turned over.
use Rattle.words.proofs.Complement.{complement_law}
use Rattle.words.proofs.sum.complement.Goals as goal

pub returns : goal.returns
returns c = complement_law c.args.a c.ranges.a.fits
