-- The entry of the word's row holds its operation and its kind.
use mathlib.Core.Path.{ap, ap₂, ◌∙◌}
use Prim.Native.Nat.{ℕ, ◌/◌, ◌%◌}
use lib.ListN.{get_or}
use Rattle.decoder.specs.Ops.{names, kinds}
use Rattle.decoder.specs.Decode.{row_of, decoded}
use Rattle.decoder.specs.declared.Decoded.{Decoded}
use Rattle.decoder.specs.declared.Op.{Op}
use Rattle.decoder.specs.declared.Op.TheVariants.{Illegal}
use Rattle.decoder.specs.declared.Writes.{Writes}
use Rattle.decoder.specs.declared.Writes.TheVariants.{Nothing}
use Rattle.decoder.proofs.Columns.{op_coded, kind_coded}
use Rattle.decoder.proofs.decode.Goals as goal

abbrev together : Op → Writes → Decoded
together o k = record { op = o; writes = k }

pub returns : goal.returns
unfolding decoded
returns c =
    let w = c.args.w in
    ap₂ together
    (c.op_named.ensures ∙ ap (λ (e : ℕ). get_or names (e % 64) Illegal) c.entry_of-e.ensures ∙ op_coded (row_of w))
    (c.kind_named.ensures ∙ ap (λ (e : ℕ). get_or kinds (e / 64) Nothing) c.entry_of-e.ensures ∙ kind_coded (row_of w))
