-- By how many states are left.
use mathlib.Core.Path.{ap, ◌∙◌}
use Prim.Native.Nat.{◌-◌}
use native.Mathlib.Omega.{arith}
use Rattle.executor.specs.Judge.{is_word}
use Rattle.executor.proofs.Judging.{held_word, fewer_held}
use Rattle.executor.proofs.Answering.{popped_some}
use Rattle.executor.proofs.stepping.pop.Goals as goal

pub top_place-p-requires : goal.top_place-p-requires
top_place-p-requires c = (fewer_held c.args.stack.now c.args.count c.highest-n.result c.requires.0 c.highest-n.ensures.within, omega (arith, c.if-n-eq0.false))

pub top_state-requires : goal.top_state-requires
top_state-requires c = (fewer_held c.args.stack.now c.args.count c.highest-n.result c.requires.0 c.highest-n.ensures.within, omega (arith, c.if-n-eq0.false))

pub step_at-requires : goal.step_at-requires
step_at-requires c =
    let m = c.highest-n.result in
    let word = held_word c.args.im.now.tables.words.now c.args.stack.now c.args.count (m - 1) c.requires.1 (omega (arith, c.if-n-eq0.false, c.highest-n.ensures.within)) in
    (ap (is_word c.args.im.now.tables.words.now) c.top_place-p.ensures ∙ word)

pub returns : goal.returns
returns c =
    let a = c.args in
    let step = c.step_at.ensures in
    let m = c.highest-n.result in
    popped_some a.im.now.tables.words.now a.im.now.«data».now a.stack.now a.count a.map.now a.run m _ _ c.highest-n.ensures c.if-n-eq0.false
    (rw (c.top_place-p.ensures, c.top_state.ensures) at step.0)
    (rw c.top_place-p.ensures at step.1)
