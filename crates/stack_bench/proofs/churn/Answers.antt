use Rattle.std.proofs.Common.{◌≡◌, ℕ, ◌+◌, ◌-◌, ◌≢◌, List, true, sym, subst, arith}
use Rattle.cells.proofs.CellLaws.{cells_state, cells_long}
use Rattle.cells.specs.Cells.{state_of, Cells}
use Rattle.stack.proofs.Stacks.{push_stack, pop_stack}
use Rattle.stack.specs.Stack.{Stack}
use Rattle.vm.specs.declared.VM.{VM}
use Rattle.stack_bench.proofs.churn.Goals as goal

-- popping leaves a stack
popped : (ws : List ℕ) (m : ℕ) → m ≢ 0 → Stack ws m → Stack ws (m - 1)
popped ws m some st = pop_stack ws (m - 1) (subst (λ (k : ℕ). Stack ws k) (let e : m ≡ m - 1 + 1 = omega (arith, some) in e) st)

pub push-requires : goal.push-requires
push-requires c =
    let t = c.top_cells in
    let own : Cells t.new.cells (state_of t.new.cells) = subst (λ (s : VM). Cells t.new.cells s) (sym (cells_state t.ensures)) t.ensures in
    (popped c.loop.words c.loop.m c.if-m-eq0.false c.loop.invariant.1, own)

pub loop-preserved : goal.loop-preserved
loop-preserved c =
    let q = c.loop in
    let t = c.top_cells in
    let r = c.push in
    (cells_long t.ensures, subst (λ (k : ℕ). Stack r.new.words k) (sym c.unwrap_or-m.ensures) (push_stack q.words (q.m - 1) c.top_place-p.result (state_of t.new.cells) (popped q.words q.m c.if-m-eq0.false q.invariant.1) true r.result r.new.words r.ensures))
