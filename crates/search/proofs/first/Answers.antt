-- `search::first` meets its contract: a test that fails is a miss, and one that passes a hit.
use Rattle.std.proofs.Common.{sym, ◌∙◌, arith}
use Rattle.search.proofs.FirstLaws.{first_start, first_hit, first_miss, first_end}
use Rattle.search.proofs.first.Goals as goal

pub loop-i-init : goal.loop-i-init
loop-i-init g c p h = first_start p c.args.n

pub returns-then-test : goal.returns-then-test
returns-then-test g c p h =
    sym (c.loop-i.invariant p h ∙ first_hit p c.args.n c.loop-i.i c.loop-i-test.true (sym (h _ _ c.loop-i-test.true c.test.ensures) ∙ c.if-test.true))

pub loop-i-preserved : goal.loop-i-preserved
loop-i-preserved g c p h =
    c.loop-i.invariant p h ∙ first_miss p c.args.n c.loop-i.i c.loop-i-test.true (sym (h _ _ c.loop-i-test.true c.test.ensures) ∙ c.if-test.false)

pub returns : goal.returns
returns g c p h = sym (c.loop-i.invariant p h ∙ first_end p c.args.n c.loop-i.i (omega arith))
