-- `report::write::write_sections` meets its contract.
use native.Mathlib.Omega.{arith}
use Rattle.report.proofs.Laying.{sections_begin, section_room, section_laid, sections_end}
use Rattle.report.proofs.write.write_sections.Goals as goal

pub loop-i-init : goal.loop-i-init
loop-i-init c = let a = c.args in sections_begin a.buf.now a.im.now a.map.now a.at

pub write_section-p-requires : goal.write_section-p-requires
write_section-p-requires c =
    let a = c.args in
    let h = c.loop-i in
    let r = section_room a.buf.now h.buf a.im.now a.map.now a.at h.p h.b h.i h.invariant (omega (arith, c.section_count-n.ensures)) _ c.words_at-c.ensures in
    (omega (arith, r.0, c.requires.1), omega (arith, r.1, c.requires.2))

pub overflow_add-b : goal.overflow_add-b
overflow_add-b c =
    let a = c.args in
    let h = c.loop-i in
    let r = section_room a.buf.now h.buf a.im.now a.map.now a.at h.p h.b h.i h.invariant (omega (arith, c.section_count-n.ensures)) _ c.words_at-c.ensures in
    omega (arith, r.0, c.requires.1)

pub loop-i-preserved : goal.loop-i-preserved
loop-i-preserved c =
    let a = c.args in
    let h = c.loop-i in
    section_laid a.buf.now h.buf a.im.now a.map.now a.at h.p h.b h.i h.invariant (omega (arith, c.section_count-n.ensures)) _ _ _ c.words_at-c.ensures c.write_section-p.ensures

pub returns : goal.returns
returns c =
    let a = c.args in
    let h = c.loop-i in
    sections_end a.buf.now h.buf a.im.now a.map.now a.at h.p h.b h.i h.invariant (omega (arith, c.section_count-n.ensures))
