-- `report::read::read_section` meets its contract.
use mathlib.Core.Path.{sym, ◌∙◌}
use Rattle.report.proofs.ReadLaws.{section_uncounted, section_as, marks_none}
use Rattle.report.proofs.read.read_section.Goals as goal

pub returns-in_err-k : goal.returns-in_err-k
returns-in_err-k c =
    let a = c.args in
    let e = section_uncounted a.s.now a.words a.at (sym c.number.ensures ∙ c.in_err-k.was) in
    section_as a.s.now a.words a.at a.map.now a.from.0 _ _ _ e (c.from_residual.ensures, sym (marks_none a.map.now a.from.0))
