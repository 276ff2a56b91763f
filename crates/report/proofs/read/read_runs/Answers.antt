-- `report::read::read_runs` meets its contract.
use mathlib.Core.Path.{sym, ◌∙◌}
use native.Mathlib.Omega.{arith}
use Rattle.report.proofs.ReadLaws.{run_read, run_lost, runs_read}
use Rattle.report.proofs.read.read_runs.Goals as goal

pub loop-j-preserved : goal.loop-j-preserved
loop-j-preserved c =
    let a = c.args in
    let h = c.loop-j in
    let r = sym c.next_run.ensures ∙ c.in_ok-run.was in
    (omega arith, run_read a.s.now a.k a.words a.at a.map.now a.from.0 h.p h.least h.map h.c h.j h.invariant.1 _ _ _ _ (omega arith) r c.mark_run.ensures)

pub returns-in_err-run : goal.returns-in_err-run
returns-in_err-run c =
    let a = c.args in
    let h = c.loop-j in
    let r = run_lost a.s.now a.k a.words a.at a.map.now a.from.0 h.p h.least h.map h.c h.j h.invariant.1 (omega arith) (sym c.next_run.ensures ∙ c.in_err-run.was) in
    (c.from_residual.ensures ∙ r.0, r.1)

pub returns : goal.returns
returns c =
    let a = c.args in
    let h = c.loop-j in
    runs_read a.s.now a.k a.words a.at a.map.now a.from.0 h.p h.least h.map h.c h.j h.invariant.1 (omega arith)
