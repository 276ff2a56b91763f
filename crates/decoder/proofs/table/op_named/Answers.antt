-- `decoder::table::op_named` meets its contract. The constant is the list of names.
use Rattle.std.proofs.Common.{ap, ◌∙◌, le_refl}
use Rattle.std.specs.Option.{unwrap_or}
use Rattle.std.specs.declared.option.Option.{Option}
use Rattle.decoder.specs.Ops.{names}
use Rattle.decoder.specs.declared.Op.{Op}
use Rattle.decoder.specs.declared.Op.TheVariants.{Illegal}
use Rattle.decoder.proofs.table.op_named.Goals as goal

pub returns : goal.returns
unfolding names
returns c =
    c.unwrap_or.ensures
    ∙ ap (λ (o : Option Op). unwrap_or o Illegal) c.copied.ensures
    ∙ c.get.ensures.lookup.4 (le_refl c.args.n) Illegal
