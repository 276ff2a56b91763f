-- `report::write::count_runs` meets its contract.
use native.Mathlib.Omega.{arith}
use Rattle.report.proofs.Laying.{count_goes_on, count_ends}
use Rattle.report.proofs.write.count_runs.Goals as goal

pub loop-j-preserved : goal.loop-j-preserved
loop-j-preserved c =
    let a = c.args in
    let h = c.loop-j in
    count_goes_on a.map.now a.from.0 a.words h.n h.last h.j c.contains-v.result c.closes-n.result h.invariant (omega arith) c.contains-v.ensures c.closes-n.ensures

pub returns : goal.returns
returns c =
    let a = c.args in
    let h = c.loop-j in
    count_ends a.map.now a.from.0 a.words h.n h.last h.j c.closes.result h.invariant (omega arith) c.closes.ensures
