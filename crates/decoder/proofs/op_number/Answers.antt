-- The entry of the word's row holds its operation's number below 64.
use mathlib.Core.Path.{ap, ◌∙◌}
use Prim.Native.Nat.{ℕ, ◌%◌}
use lib.Arith.{digits_mod}
use Rattle.decoder.specs.Ops.{kind_number}
use Rattle.decoder.specs.Decode.{row_of, decoded}
use Rattle.decoder.proofs.Names.{number_lt}
use Rattle.decoder.proofs.op_number.Goals as goal

pub returns : goal.returns
unfolding decoded
returns c =
    let r = row_of c.args.w in
    c.from.ensures ∙ ap (λ (e : ℕ). e % 64) c.entry_of.ensures ∙ digits_mod (kind_number r.writes) (number_lt r.op)
