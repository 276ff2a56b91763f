use Rattle.stack.specs.Stack.{Stack}
use Rattle.stack_bench.proofs.churn_states.Given as goal

abbrev pub invariant-loop : goal.invariant-loop
invariant-loop l = Stack l.words l.m
