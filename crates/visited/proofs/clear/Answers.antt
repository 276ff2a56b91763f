-- `visited::clear` meets its contract.
use mathlib.Core.Path.{sym, ◌∙◌}
use native.Mathlib.Omega.{arith}
use Rattle.visited.proofs.Clearing.{cleared_one_more, cleared_ends}
use Rattle.visited.proofs.clear.Goals as goal

pub loop-word-preserved : goal.loop-word-preserved
loop-word-preserved c =
    let l = c.loop-word in
    let a = c.args in
    (omega (arith, c.saturating_sub-left.ensures), cleared_one_more a.map.now l.word-items a.n l.word-index l.left c.high_bits.result (omega arith) l.invariant.0 c.high_bits.ensures l.invariant.1)

pub returns : goal.returns
returns c =
    let l = c.loop-word in
    sym (cleared_ends l.word-items c.args.n l.word-index (omega arith)) ∙ l.invariant.1
