-- `report::write::write_whole` meets its contract.
use mathlib.Core.List.{List, ◌++◌}
use mathlib.Core.Path.{refl, sym, ◌∙◌}
use native.Mathlib.Omega.{arith}
use lib.ListN.{length}
use Rattle.report.specs.Bytes.{sections_bytes}
use Rattle.report.specs.Runs.{Run, runs_in, all_runs}
use Rattle.varint.specs.Groups.{varint}
use Rattle.image.specs.Layout.{sections}
use Rattle.report.proofs.Laying.{laid_append, laid_number, report_short}
use Rattle.report.proofs.RunLaws.{tab_length}
use Rattle.varint.proofs.GroupLaws.{groups_short}
use Rattle.report.proofs.write.write_whole.Goals as goal

pub put-q-requires : goal.put-q-requires
put-q-requires c = omega (arith, c.put-p.ensures.0, groups_short 4 1)

pub write_sections-requires : goal.write_sections-requires
write_sections-requires c =
    let a = c.args in
    (c.requires.0, c.requires.1, omega (arith, c.put-p.ensures.0, c.put-q.ensures.0, groups_short 4 1, groups_short 4 c.section_count-n.result, report_short a.im.now a.map.now, c.requires.0.few_sections, c.requires.1))

pub returns : goal.returns
returns c =
    let a = c.args in
    let rss : List (List Run) = all_runs a.im.now a.map.now in
    let n = c.section_count-n.ensures ∙ sym (tab_length (runs_in a.im.now a.map.now) 0 (sections a.im.now)) in
    let head = laid_append a.buf.now _ _ 0 _ _ (varint 1) (varint (length rss)) (laid_number a.buf.now _ 0 _ 1 1 refl c.put-p.ensures) (laid_number _ _ _ _ _ (length rss) n c.put-q.ensures) in
    laid_append a.buf.now _ _ 0 _ _ (varint 1 ++ varint (length rss)) (sections_bytes rss) head c.write_sections.ensures
