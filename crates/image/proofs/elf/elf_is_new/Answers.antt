-- `image::elf::elf_is_new` meets its contract: the closure tests one section before this one.
use Rattle.std.proofs.Common.{rules}
use Rattle.search.proofs.Chains.{every_from_all}
use Rattle.image.proofs.elf.elf_is_new.Goals as goal

pub returns : goal.returns
returns c = every_from_all _ _ _ _ _ c.all.ensures.ran (cc) (λ i b q k. search rules)
