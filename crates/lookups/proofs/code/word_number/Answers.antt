-- A word number is below W, so it fits.
use Rattle.lookups.proofs.WordNumbers.{word_number_below}
use Rattle.lookups.proofs.SoundSections.{in_code_lem}
use Rattle.image.proofs.SoundTables.{sound_tables}
use native.Mathlib.Omega.{arith}
use Rattle.lookups.proofs.code.word_number.Goals as goal

pub overflow_cast-result : goal.overflow_cast-result
overflow_cast-result c =
    let a = c.args in
    let i = a.im.now in
    let s = sound_tables i.words.now i.sound in
    let k = in_code_lem i.words.now a.at i.sound c.requires in
    let b = word_number_below i.words.now a.at i.sound c.requires in
    record { fits = omega (arith, c.words_before-before.ensures) }

pub overflow_add-result : goal.overflow_add-result
overflow_add-result c =
    let a = c.args in
    let i = a.im.now in
    let s = sound_tables i.words.now i.sound in
    let k = in_code_lem i.words.now a.at i.sound c.requires in
    let b = word_number_below i.words.now a.at i.sound c.requires in
    record { fits = omega (arith, c.words_before-before.ensures) }
