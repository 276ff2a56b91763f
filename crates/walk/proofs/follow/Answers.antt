-- The ways of the word that left are taken.
use Rattle.walk.specs.Blocks.{goes}
use Rattle.walk.proofs.follow.Goals as goal

pub returns-in-Some : goal.returns-in-Some
returns-in-Some c = goes c.in-Some.leave c.in-Some.is c.take.ensures
