-- `image::entries::unbound_sound` meets its contract: the section that was found exists.
use mathlib.Core.Path.{sym, ◌∙◌}
use native.Mathlib.Omega.{arith}
use Rattle.search.proofs.FirstMatch.{first_below}
use Rattle.image.specs.Rules.{has_elf}
use Rattle.image.proofs.entries.unbound_sound.Goals as goal

pub section-requires : goal.section-requires
section-requires c =
    let a = c.args in
    omega (arith, first_below (has_elf a.im.now a.r.section) _ _ (sym c.elf_index.ensures ∙ c.in-Some.is))
