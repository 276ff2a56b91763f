-- The word read is the four bytes at its place.
use mathlib.Core.Path.{ap, ◌∙◌}
use Rattle.visited.specs.Bits.{with_bit}
use Rattle.executor.proofs.Judging.{word_read}
use Rattle.executor.proofs.stepping.step_at.Goals as goal

pub returns : goal.returns
returns c =
    let w = word_read c.args.im.now.tables.words.now c.args.im.now.«data».now c.args.at c.code_word.result c.args.im.now.tables.sound c.args.im.now.inside c.requires c.code_word.ensures in
    (rw (c.state_after.ensures, c.step_word-stepped.ensures, w), c.insert.ensures ∙ ap (with_bit c.args.map.now) c.word_number.ensures)
