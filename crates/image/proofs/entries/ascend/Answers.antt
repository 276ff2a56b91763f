-- `image::entries::ascend` meets its contract: the closure compares one place with the next.
use Rattle.std.proofs.Common.{rules}
use Rattle.search.proofs.Chains.{every_from_all}
use Rattle.image.specs.Rules.{ascending}
use Rattle.image.proofs.entries.ascend.Goals as goal

pub returns : goal.returns
unfolding ascending
returns g c at h = every_from_all _ _ _ _ _ c.all.ensures.ran (cc) (λ j b q k. search (rules, h))
