use Rattle.stack.specs.Stack.{Stack}
use Rattle.stack_bench.proofs.fill.Given as goal

abbrev pub invariant-loop-i : goal.invariant-loop-i
invariant-loop-i l = Stack l.words l.n
