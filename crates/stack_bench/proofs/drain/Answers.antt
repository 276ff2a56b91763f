use Rattle.std.proofs.Common.{◌≡◌, ℕ, ◌+◌, ◌-◌, subst, arith}
use Rattle.stack.proofs.Stacks.{pop_stack}
use Rattle.stack.specs.Stack.{Stack}
use Rattle.stack_bench.proofs.drain.Goals as goal

pub loop-i-preserved : goal.loop-i-preserved
loop-i-preserved c =
    let one : c.args.n - c.loop-i.i ≡ c.args.n - (c.loop-i.i + 1) + 1 = omega arith in
    pop_stack c.args.words.now (c.args.n - (c.loop-i.i + 1)) (subst (λ (k : ℕ). Stack c.args.words.now k) one c.loop-i.invariant)
