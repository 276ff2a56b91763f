-- The invariant: from here the run comes to its end, and the cells hold its state.
use Prim.Native.Nat.{◌+◌, ◌*◌}
use mathlib.Core.Path.{◌≡◌, sym, ap, ◌∙◌, subst}
use native.Mathlib.Omega.{arith}
use Rattle.step.specs.declared.Stopped.{Stopped}
use Rattle.cells.specs.Cells.{Cells}
use Rattle.cells.proofs.CellLaws.{cells_state}
use Rattle.runs.proofs.Carrying.{cells_own}
use Rattle.runs.proofs.Running.{step_on, step_off, run_ends}
use Rattle.runs.proofs.run.Goals as goal

pub loop-k-preserved : goal.loop-k-preserved
loop-k-preserved c =
    let l = c.loop-k in
    let next : (l.k + 1) * 4 ≡ l.k * 4 + 4 = omega arith in
    (rw next (step_on l.invariant.0 (omega arith) c.four.ensures c.one-l.ensures.leave (sym c.is_ended.ensures ∙ c.if-not-is_ended.false) c.offset-p.ensures (cells_state c.one-l.ensures.cells)), cells_own c.one-l.ensures.cells)

pub returns-then-not-is_ended : goal.returns-then-not-is_ended
returns-then-not-is_ended c =
    let e = step_off c.loop-k.invariant.0 (omega arith) c.four.ensures c.one-l.ensures.leave (sym c.is_ended.ensures ∙ c.if-not-is_ended.true) in
    record { leave = ap (λ (r : Stopped). r.leave) e; place = ap (λ (r : Stopped). r.at) e; cells = subst (λ (r : Stopped). Cells c.one-l.new.cells r.vm) e c.one-l.ensures.cells }

pub returns : goal.returns
returns c =
    let e = run_ends c.loop-k.invariant.0 (omega arith) in
    record { leave = ap (λ (r : Stopped). r.leave) e; place = ap (λ (r : Stopped). r.at) e; cells = subst (λ (r : Stopped). Cells c.loop-k.cells r.vm) e c.loop-k.invariant.1 }
