-- `report::write::finish` meets its contract.
use native.Mathlib.Omega.{arith}
use Rattle.report.proofs.Laying.{finished_none, finished_one}
use Rattle.varint.proofs.GroupLaws.{groups_short}
use Rattle.report.proofs.write.finish.Goals as goal

pub returns-then-s-eq0 : goal.returns-then-s-eq0
returns-then-s-eq0 c = let a = c.args in finished_none a.buf.now a.s c.if-s-eq0.true

pub put-requires : goal.put-requires
put-requires c = let a = c.args in omega (arith, groups_short 4 a.s.gap)

pub returns : goal.returns
returns c =
    let a = c.args in
    finished_one a.buf.now a.s _ _ _ _ c.if-s-eq0.false c.put-p.ensures c.put.ensures
