-- `report::write_report` meets its contract.
use mathlib.Core.Path.{sym, ap, ◌∙◌}
use lib.ListN.{length}
use Rattle.visited.specs.Bits.{has_room}
use Rattle.report.proofs.Answering.{judged_sound, tables_there, write_fits}
use Rattle.report.proofs.write_report.Goals as goal

pub code_words-requires : goal.code_words-requires
code_words-requires c =
    let a = c.args in
    (tables_there a.im.now (length a.«data».now) (judged_sound a.im.now (length a.«data».now) (sym c.check_image.ensures ∙ c.in_ok-check_image.was))).0

pub write_whole-k-requires : goal.write_whole-k-requires
write_whole-k-requires c =
    let a = c.args in
    tables_there a.im.now (length a.«data».now) (judged_sound a.im.now (length a.«data».now) (sym c.check_image.ensures ∙ c.in_ok-check_image.was))

pub returns : goal.returns
returns c =
    let a = c.args in
    let sound = judged_sound a.im.now (length a.«data».now) (sym c.check_image.ensures ∙ c.in_ok-check_image.was) in
    let w = c.code_words.ensures in
    write_fits a.im.now (length a.«data».now) a.map.now a.out.now sound (ap (has_room a.map.now) (sym w) ∙ sym c.has_room.ensures ∙ c.if-not-has_room.false) _ _ c.write_whole-k.ensures c.if-out-k.false
