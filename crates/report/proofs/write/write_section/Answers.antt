-- `report::write::write_section` meets its contract.
use mathlib.Core.List.{List}
use lib.ListN.{length}
use Rattle.report.specs.Bytes.{run_bytes}
use Rattle.report.specs.Runs.{Run, runs_of, tab}
use Rattle.visited.specs.Bits.{visited_at}
use Rattle.varint.specs.Groups.{varint}
use Rattle.report.proofs.Laying.{laid_append, laid_number}
use Rattle.report.proofs.write.write_section.Goals as goal

pub returns : goal.returns
returns c =
    let a = c.args in
    let rs : List Run = runs_of (tab (visited_at a.map.now) a.from.0 a.words) in
    laid_append a.buf.now _ _ a.at _ _ (varint (length rs)) (run_bytes rs) (laid_number a.buf.now _ a.at _ _ (length rs) c.count_runs-n.ensures c.put-p.ensures) c.write_runs.ensures
