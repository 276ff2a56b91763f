-- What is judged a stack is one.
use mathlib.Core.Path.{sym, ◌∙◌}
use Rattle.stack.proofs.ValidLaws.{valid_stack_lem}
use Rattle.executor.proofs.judge.is_lawful.Goals as goal

pub all_words-requires : goal.all_words-requires
all_words-requires c = valid_stack_lem c.args.stack.now c.args.count (sym c.is_stack.ensures ∙ c.if-is_stack.true)
