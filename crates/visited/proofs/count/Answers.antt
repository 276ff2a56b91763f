-- `visited::count` meets its contract.
use mathlib.Core.Path.{◌≡◌, sym, ap, ◌∙◌}
use Prim.Native.Nat.{◌+◌, ◌*◌, min}
use native.Mathlib.Omega.{arith}
use Rattle.visited.specs.Bits.{ones_below}
use Rattle.visited.proofs.Counting.{ones_at_most, counted_one_more, counted_whole}
use Rattle.visited.proofs.count.Goals as goal

pub loop-word-init : goal.loop-word-init
unfolding ones_below
loop-word-init c =
    let a = c.args in
    let e : min a.n 0 ≡ 0 = omega arith in
    (omega arith, sym (ap (ones_below a.map.now) e))

pub overflow_add-ones : goal.overflow_add-ones
overflow_add-ones c =
    let l = c.loop-word in
    let a = c.args in
    let e = counted_one_more a.map.now a.n l.word-index l.left l.ones c.low_ones-ones.result l.invariant.0 l.invariant.1 c.low_ones-ones.ensures in
    omega (arith, e, ones_at_most a.map.now (min a.n ((l.word-index + 1) * 32)), c.ranges.n)

pub loop-word-preserved : goal.loop-word-preserved
loop-word-preserved c =
    let l = c.loop-word in
    let a = c.args in
    (omega (arith, c.saturating_sub-left.ensures), counted_one_more a.map.now a.n l.word-index l.left l.ones c.low_ones-ones.result l.invariant.0 l.invariant.1 c.low_ones-ones.ensures)

pub returns : goal.returns
returns c =
    let l = c.loop-word in
    let a = c.args in
    l.invariant.1 ∙ counted_whole a.map.now a.n l.word-index (omega arith)
