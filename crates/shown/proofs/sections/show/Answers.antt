-- The words before a section and its own are at most as many as an image has.
use Rattle.std.proofs.Common.{ℕ, List, true, ◌≡◌, ◌+◌, ◌<◌, ◌≤◌, sym, ap, ◌∙◌, arith}
use Rattle.image.proofs.CodeWords.{words_none, words_more}
use Rattle.image.specs.Layout.{sections, section_at}
use Rattle.image.specs.Rules.{words_of, words_before, tables_sound}
use Rattle.shown.proofs.Tables.{words_inside}
use Rattle.shown.proofs.sections.show.Goals as goal

few : (im : List ℕ) → tables_sound im ≡ true → (i base n : ℕ) → i < sections im → base ≡ words_before im i → n ≡ words_of (section_at im i) → base + n ≤ 262144
few im sound i base n below before own = omega (arith, before, own, words_inside im sound i below)

pub loop-i-init : goal.loop-i-init
loop-i-init g c = (omega arith, sym (words_none c.args.im.now.words.now))

pub overflow_cast-words : goal.overflow_cast-words
overflow_cast-words g c =
    let l = c.loop-i in
    let words = c.words_of-count.ensures.0 ∙ ap words_of c.section-s.ensures in
    omega (arith, few c.args.im.now.words.now c.args.im.now.sound l.i l.base _ (omega (arith, c.section_count-n.ensures)) l.invariant.1 words)

pub overflow_add-base : goal.overflow_add-base
overflow_add-base g c =
    let l = c.loop-i in
    let words = c.words_of-count.ensures.0 ∙ ap words_of c.section-s.ensures in
    omega (arith, few c.args.im.now.words.now c.args.im.now.sound l.i l.base _ (omega (arith, c.section_count-n.ensures)) l.invariant.1 words)

pub loop-i-preserved : goal.loop-i-preserved
loop-i-preserved g c =
    let l = c.loop-i in
    let words : c.words_of-count.result ≡ words_of (section_at c.args.im.now.words.now l.i) = c.words_of-count.ensures.0 ∙ ap words_of c.section-s.ensures in
    (omega (arith, c.section_count-n.ensures), omega (arith, words, l.invariant.1, words_more c.args.im.now.words.now l.i))

pub invariant_of-words : goal.invariant_of-words
invariant_of-words g c =
    let l = c.loop-i in
    let words = c.words_of-count.ensures.0 ∙ ap words_of c.section-s.ensures in
    let most = few c.args.im.now.words.now c.args.im.now.sound l.i l.base _ (omega (arith, c.section_count-n.ensures)) l.invariant.1 words in
    record { numbered = omega (arith, most); addressed = omega (arith, most) }
