use Rattle.std.proofs.Common.{ℕ, true, sym, subst}
use Rattle.stack.proofs.Stacks.{push_stack}
use Rattle.stack.specs.Stack.{Stack}
use Rattle.executor_bench.proofs.fill.Goals as goal

pub loop-i-preserved : goal.loop-i-preserved
loop-i-preserved c =
    let q = c.loop-i in
    let r = c.push_state in
    subst (λ (k : ℕ). Stack r.new.words k) (sym c.unwrap_or-n.ensures) (push_stack q.words q.n _ c.args.s q.invariant true r.result r.new.words r.ensures)
