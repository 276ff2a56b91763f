use Rattle.std.proofs.Common.{◌≡◌, ℕ, ◌+◌, ◌-◌, ◌≢◌, List, true, sym, subst, arith}
use Rattle.stack.proofs.Stacks.{push_stack, pop_stack}
use Rattle.stack.specs.Stack.{Stack}
use Rattle.stack_bench.proofs.churn_states.Goals as goal

-- popping leaves a stack
popped : (ws : List ℕ) (m : ℕ) → m ≢ 0 → Stack ws m → Stack ws (m - 1)
popped ws m some st = pop_stack ws (m - 1) (subst (λ (k : ℕ). Stack ws k) (let e : m ≡ m - 1 + 1 = omega (arith, some) in e) st)

pub push_state-requires : goal.push_state-requires
push_state-requires c = popped c.loop.words c.loop.m c.if-m-eq0.false c.loop.invariant

pub loop-preserved : goal.loop-preserved
loop-preserved c =
    let q = c.loop in
    let r = c.push_state in
    subst (λ (k : ℕ). Stack r.new.words k) (sym c.unwrap_or-m.ensures) (push_stack q.words (q.m - 1) c.top_place-p.result c.top_state-s.result (popped q.words q.m c.if-m-eq0.false q.invariant) true r.result r.new.words r.ensures)
