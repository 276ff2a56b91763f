-- `report::read::read_sections` meets its contract.
use mathlib.Core.Path.{refl, sym, ◌∙◌}
use native.Mathlib.Omega.{arith}
use Rattle.report.proofs.ReadLaws.{sections_begin, section_inside, section_read, section_lost, sections_read}
use Rattle.report.proofs.read.read_sections.Goals as goal

pub loop-i-init : goal.loop-i-init
loop-i-init c = let a = c.args in (refl, sections_begin a.im.now a.s.now a.at a.map.now)

pub read_section-requires : goal.read_section-requires
read_section-requires c =
    let a = c.args in
    let h = c.loop-i in
    omega (arith, section_inside a.im.now a.s.now a.at a.map.now h.map h.p h.b h.i h.invariant.1 (omega (arith, c.section_count-n.ensures)), c.words_at-c.ensures, c.requires.1)

pub overflow_add-b : goal.overflow_add-b
overflow_add-b c =
    let a = c.args in
    let h = c.loop-i in
    omega (arith, section_inside a.im.now a.s.now a.at a.map.now h.map h.p h.b h.i h.invariant.1 (omega (arith, c.section_count-n.ensures)), c.words_at-c.ensures, c.requires.1)

pub loop-i-preserved : goal.loop-i-preserved
loop-i-preserved c =
    let a = c.args in
    let h = c.loop-i in
    let r = c.read_section.ensures in
    (omega arith, section_read a.im.now a.s.now a.at a.map.now h.map h.p h.b h.i h.invariant.1 _ _ _ (omega (arith, c.section_count-n.ensures)) c.words_at-c.ensures (sym c.in_ok-p.was ∙ r.0) r.1)

pub returns-in_err-p : goal.returns-in_err-p
returns-in_err-p c =
    let a = c.args in
    let h = c.loop-i in
    let r = c.read_section.ensures in
    let l = section_lost a.im.now a.s.now a.at a.map.now h.map h.p h.b h.i h.invariant.1 _ _ (omega (arith, c.section_count-n.ensures)) c.words_at-c.ensures (sym c.in_err-p.was ∙ r.0) r.1 in
    (c.from_residual.ensures ∙ l.0, l.1)

pub returns : goal.returns
returns c =
    let a = c.args in
    let h = c.loop-i in
    sections_read a.im.now a.s.now a.at a.map.now h.map h.p h.b h.i h.invariant.1 (omega (arith, c.section_count-n.ensures))
