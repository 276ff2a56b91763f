-- `image::entries::unbounds_sound` meets its contract: the closure tests one record.
use Rattle.std.proofs.Common.{rules}
use Rattle.search.proofs.Chains.{every_from_all}
use Rattle.image.proofs.entries.unbounds_sound.Goals as goal
use Rattle.image.specs.Rules.{unbounds_sound}

pub returns : goal.returns
unfolding unbounds_sound
returns c = every_from_all _ _ _ _ _ c.all.ensures.ran (cc) (λ i b q k. search rules)
