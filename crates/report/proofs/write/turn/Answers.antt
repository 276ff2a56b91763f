-- `report::write::turn` meets its contract.
use native.Mathlib.Omega.{arith}
use Rattle.report.proofs.Laying.{turned_run, turned_gap, turned_end}
use Rattle.varint.proofs.GroupLaws.{groups_short}
use Rattle.report.proofs.write.turn.Goals as goal

pub returns-then-v : goal.returns-then-v
returns-then-v c = let a = c.args in rw c.if-v.true (turned_run a.buf.now a.s)

pub returns-then-s-eq0 : goal.returns-then-s-eq0
returns-then-s-eq0 c = let a = c.args in rw c.if-v.false (turned_gap a.buf.now a.s c.if-s-eq0.true)

pub put-q-requires : goal.put-q-requires
put-q-requires c = let a = c.args in omega (arith, groups_short 4 a.s.gap)

pub returns : goal.returns
returns c =
    let a = c.args in
    rw c.if-v.false (turned_end a.buf.now a.s _ _ _ _ c.if-s-eq0.false c.put-p.ensures c.put-q.ensures)
