-- A sound section's end fits a word.
use native.Mathlib.Omega.{arith}
use Rattle.image.proofs.SoundTables.{sound_tables}
use Rattle.image.proofs.SectionLaws.{section_at_lem}
use Rattle.executor.proofs.judge.is_end.Goals as goal

pub overflow_add-result : goal.overflow_add-result
overflow_add-result c =
    let im = c.args.im.now in
    let s = section_at_lem im.words.now (sound_tables im.words.now im.sound) c.args.at.section (omega (arith, c.section_count.ensures)) in
    let e = c.section-s.ensures in
    record { fits = rw e s.ends }
