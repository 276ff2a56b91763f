-- `image::elf::elf_distinct` meets its contract: the closure tests one section.
use Rattle.std.proofs.Common.{rules}
use Rattle.search.proofs.Chains.{every_from_all}
use Rattle.image.proofs.elf.elf_distinct.Goals as goal
use Rattle.image.specs.Rules.{elf_distinct}

pub returns : goal.returns
unfolding elf_distinct
returns c = every_from_all _ _ _ _ _ c.all.ensures.ran (cc) (λ i b q k. search rules)
