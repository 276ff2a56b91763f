-- `image::sections::sections_apart` meets its contract: another kind has nothing to show; in an Executable the closure tests one section against those before it.
use Rattle.std.proofs.Common.{rules}
use borrow.Author.Tests.{eq-eqb, ne_eqb}
use Rattle.search.proofs.Chains.{every_from_all}
use Rattle.image.specs.Rules.{sections_apart}
use Rattle.image.proofs.sections.sections_apart.Goals as goal

pub returns-then-im-ne-EXECUTABLE : goal.returns-then-im-ne-EXECUTABLE
unfolding sections_apart
returns-then-im-ne-EXECUTABLE c = rw (ne_eqb _ _ c.if-im-ne-EXECUTABLE.true)

pub returns-else-im-ne-EXECUTABLE : goal.returns-else-im-ne-EXECUTABLE
unfolding sections_apart
returns-else-im-ne-EXECUTABLE c =
    rw (eq-eqb _ _ c.if-im-ne-EXECUTABLE.false) (every_from_all _ _ _ _ _ c.all.ensures.ran (cc) (λ i b q k. search rules))
