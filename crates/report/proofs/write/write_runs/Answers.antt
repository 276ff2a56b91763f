-- `report::write::write_runs` meets its contract.
use native.Mathlib.Omega.{arith}
use Rattle.report.proofs.Laying.{scan_goes_on, scan_ends}
use Rattle.report.proofs.write.write_runs.Goals as goal

pub loop-j-preserved : goal.loop-j-preserved
loop-j-preserved c =
    let a = c.args in
    let h = c.loop-j in
    scan_goes_on a.buf.now h.buf _ a.map.now a.at a.from.0 a.words h.s _ h.j _ h.invariant (omega arith) c.contains-v.ensures c.turn-s.ensures

pub returns : goal.returns
returns c =
    let a = c.args in
    let h = c.loop-j in
    scan_ends a.buf.now h.buf _ a.map.now a.at a.from.0 a.words h.s h.j _ h.invariant (omega arith) c.finish.ensures
