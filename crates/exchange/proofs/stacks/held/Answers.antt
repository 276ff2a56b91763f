use Rattle.std.proofs.Common.{sym, ◌∙◌}
use Rattle.stack.proofs.ValidLaws.{valid_stack_lem}
use Rattle.exchange.proofs.stacks.held.Goals as goal

pub all-requires : goal.all-requires
all-requires c = valid_stack_lem c.args.stack.now c.args.count (sym c.is_stack.ensures ∙ c.if-is_stack.true)
