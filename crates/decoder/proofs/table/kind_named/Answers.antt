-- `decoder::table::kind_named` meets its contract. The constant is the list of names.
use Rattle.std.proofs.Common.{ap, ◌∙◌, le_refl}
use Rattle.std.specs.Option.{unwrap_or}
use Rattle.std.specs.declared.option.Option.{Option}
use Rattle.decoder.specs.Ops.{kinds}
use Rattle.decoder.specs.declared.Writes.{Writes}
use Rattle.decoder.specs.declared.Writes.TheVariants.{Nothing}
use Rattle.decoder.proofs.table.kind_named.Goals as goal

pub returns : goal.returns
unfolding kinds
returns c =
    c.unwrap_or.ensures
    ∙ ap (λ (o : Option Writes). unwrap_or o Nothing) c.copied.ensures
    ∙ c.get.ensures.lookup.4 (le_refl c.args.n) Nothing
