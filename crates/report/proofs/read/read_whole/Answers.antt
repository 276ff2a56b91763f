-- `report::read::read_whole` meets its contract.
use mathlib.Core.Path.{sym, ap, ◌∙◌}
use native.Mathlib.Omega.{arith}
use Rattle.report.specs.Reading.{head_at}
use Rattle.report.proofs.ReadLaws.{whole_no_head, whole_lost, whole_early, whole_read}
use Rattle.report.proofs.read.read_whole.Goals as goal

pub returns-in_err-e : goal.returns-in_err-e
returns-in_err-e c =
    let a = c.args in
    let r = whole_no_head a.im.now a.s.now a.map.now (ap (head_at a.s.now) (sym c.section_count-n.ensures) ∙ sym c.read_head.ensures ∙ c.in_err-e.was) in
    (c.from_residual.ensures ∙ r.0, r.1)

pub returns-in_err-f : goal.returns-in_err-f
returns-in_err-f c =
    let a = c.args in
    let d = ap (head_at a.s.now) (sym c.section_count-n.ensures) ∙ sym c.read_head.ensures ∙ c.in_ok-e.was in
    let r = c.read_sections.ensures in
    let w = whole_lost a.im.now a.s.now a.map.now _ d _ (sym c.in_err-f.was ∙ r.0) r.1 in
    (c.from_residual-in_err-f.ensures ∙ w.0, w.1)

pub returns-then-f-s : goal.returns-then-f-s
returns-then-f-s c =
    let a = c.args in
    let d = ap (head_at a.s.now) (sym c.section_count-n.ensures) ∙ sym c.read_head.ensures ∙ c.in_ok-e.was in
    let r = c.read_sections.ensures in
    whole_early a.im.now a.s.now a.map.now _ d _ _ (sym c.in_ok-f.was ∙ r.0) c.if-f-s.true r.1

pub returns : goal.returns
returns c =
    let a = c.args in
    let d = ap (head_at a.s.now) (sym c.section_count-n.ensures) ∙ sym c.read_head.ensures ∙ c.in_ok-e.was in
    let r = c.read_sections.ensures in
    whole_read a.im.now a.s.now a.map.now _ d _ _ (sym c.in_ok-f.was ∙ r.0) (omega arith) r.1
