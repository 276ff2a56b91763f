-- The starts from a number on are judged as all of them are.
use mathlib.Core.Path.{sym, ◌∙◌}
use native.Mathlib.Omega.{arith}
use Rattle.walk.proofs.StartLaws.{judges_next, judges_none, start_refuses}
use Rattle.walk.proofs.starts.judge_starts.Goals as goal

pub returns-in_err-code_place : goal.returns-in_err-code_place
returns-in_err-code_place c =
    let a = c.args in
    let l = c.loop-start in
    let was = rw c.place_of.ensures at (sym c.code_place.ensures ∙ c.in_err-code_place.was) in
    start_refuses _ _ _ c.from_residual.ensures.1 ∙ sym (sym l.invariant ∙ judges_next a.im.now.words.now a.starts.now l.start-index c.loop-start-test.true _ was)

pub loop-start-preserved : goal.loop-start-preserved
loop-start-preserved c =
    let a = c.args in
    let l = c.loop-start in
    let passes = rw c.place_of.ensures at (sym c.code_place.ensures ∙ c.in_ok-code_place.was) in
    sym (judges_next a.im.now.words.now a.starts.now l.start-index c.loop-start-test.true _ passes) ∙ l.invariant

pub returns : goal.returns
returns c =
    let a = c.args in
    sym (judges_none a.im.now.words.now a.starts.now c.loop-start.start-index (omega arith)) ∙ c.loop-start.invariant
