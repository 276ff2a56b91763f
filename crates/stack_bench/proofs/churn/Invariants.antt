use Rattle.std.proofs.Common.{◌≡◌, length}
use Rattle.stack.specs.Stack.{Stack}
use Rattle.slot.specs.Layout.{state_size}
use Rattle.stack_bench.proofs.churn.Given as goal

abbrev pub invariant-loop : goal.invariant-loop
invariant-loop l = (length l.cells ≡ state_size) × Stack l.words l.m
