-- `image::sections::data_inside` meets its contract: the closure tests one section.
use Rattle.std.proofs.Common.{rules}
use Rattle.search.proofs.Chains.{every_from_all}
use Rattle.image.proofs.sections.data_inside.Goals as goal
use Rattle.image.specs.Rules.{data_inside}

pub returns : goal.returns
unfolding data_inside
returns c = every_from_all _ _ _ _ _ c.all.ensures.ran (cc) (λ i b q k. search rules)
