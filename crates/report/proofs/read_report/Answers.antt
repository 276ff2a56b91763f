-- `report::read_report` meets its contract.
use mathlib.Core.Path.{sym, ◌∙◌}
use lib.ListN.{length}
use Rattle.report.proofs.Answering.{judged_sound, tables_there}
use Rattle.report.proofs.read_report.Goals as goal

pub code_words-w-requires : goal.code_words-w-requires
code_words-w-requires c =
    let a = c.args in
    (tables_there a.im.now (length a.«data».now) (judged_sound a.im.now (length a.«data».now) (sym c.check_image.ensures ∙ c.in_ok-check_image.was))).0

pub read_whole-requires : goal.read_whole-requires
read_whole-requires c =
    let a = c.args in
    tables_there a.im.now (length a.«data».now) (judged_sound a.im.now (length a.«data».now) (sym c.check_image.ensures ∙ c.in_ok-check_image.was))

pub read_whole-requires-2 : goal.read_whole-requires-2
read_whole-requires-2 c =
    let a = c.args in
    tables_there a.im.now (length a.«data».now) (judged_sound a.im.now (length a.«data».now) (sym c.check_image.ensures ∙ c.in_ok-check_image.was))
