-- `image::sections::sections_sound` meets its contract: the closure tests one section.
use Rattle.std.proofs.Common.{rules}
use Rattle.search.proofs.Chains.{every_from_all}
use Rattle.image.proofs.sections.sections_sound.Goals as goal
use Rattle.image.specs.Rules.{sections_sound}

pub returns : goal.returns
unfolding sections_sound
returns c = every_from_all _ _ _ _ _ c.all.ensures.ran (cc) (λ i b q k. search rules)
