use Rattle.std.proofs.Common.{ℕ, true, sym, subst}
use Rattle.cells.specs.Cells.{state_of}
use Rattle.stack.proofs.Stacks.{push_stack}
use Rattle.stack.specs.Stack.{Stack}
use Rattle.stack_bench.proofs.fill.Goals as goal

pub loop-i-preserved : goal.loop-i-preserved
loop-i-preserved c =
    let q = c.loop-i in
    let r = c.push in
    subst (λ (k : ℕ). Stack r.new.words k) (sym c.unwrap_or-n.ensures) (push_stack q.words q.n _ (state_of c.args.cells.now) q.invariant true r.result r.new.words r.ensures)
