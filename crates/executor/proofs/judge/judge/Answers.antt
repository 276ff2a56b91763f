-- A lawful call's stack is one, and its states wait at words.
use mathlib.Core.Path.{sym, ◌∙◌}
use Rattle.executor.proofs.Judging.{lawful_holds}
use Rattle.executor.proofs.judge.judge.Goals as goal

pub returns-then-is_lawful-clause-lawful : goal.returns-then-is_lawful-clause-lawful
returns-then-is_lawful-clause-lawful c =
    let a = c.args in
    let h = lawful_holds c.in_ok-im.im.tables.words.now a.stack.now a.count a.phase a.at (sym c.is_lawful.ensures ∙ c.if-is_lawful.true) in
    (h.held, h.at_words)
