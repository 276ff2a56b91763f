-- Inside the section it does not leave; elsewhere its target is taken, by proofs/LeaveLaws.
use mathlib.Core.Path.{sym, ◌∙◌}
use Rattle.step.specs.declared.Leave.TheVariants.{Jump}
use Rattle.turns.specs.Moves.{ways_of}
use Rattle.pushes.proofs.LeaveLaws.{leaving_away, leaving_inside, taken_by, taken_nowhere, taken_inside}
use Rattle.cells.specs.Cells.{state_of}
use Rattle.pushes.proofs.take_jump.Goals as goal

pub returns-then-stays_in : goal.returns-then-stays_in
returns-then-stays_in c = let a = c.args in
    taken_inside a.im.now.tables.words.now a.im.now.«data».now a.from a.upto a.stack.now a.count a.entries.now a.at (Jump a.t) (state_of a.cells.now) c.requires.stack.0 c.requires.stack.1 c.nothing.result
    (leaving_inside a.at (state_of a.cells.now) a.t (sym c.stays_in.ensures ∙ c.if-stays_in.true)) c.nothing.ensures

pub returns-then-is_way : goal.returns-then-is_way
returns-then-is_way c = let a = c.args in
    let away = c.take_target in
    taken_by a.im.now.tables.words.now a.im.now.«data».now a.from a.upto a.stack.now a.count a.entries.now a.at (Jump a.t) (state_of a.cells.now) (ways_of a.t (state_of a.cells.now))
    (leaving_away a.at (state_of a.cells.now) a.t (sym c.stays_in.ensures ∙ c.if-stays_in.false))
    (away.auto.entries ∙ c.requires.stack.1) (away.ensures a.at)

pub returns : goal.returns
returns c = let a = c.args in
    taken_nowhere a.im.now.tables.words.now a.im.now.«data».now a.from a.upto a.stack.now a.count a.entries.now a.at (Jump a.t) (state_of a.cells.now) c.requires.stack.0 c.requires.stack.1 c.nothing-2.result a.t
    (leaving_away a.at (state_of a.cells.now) a.t (sym c.stays_in.ensures ∙ c.if-stays_in.false))
    (sym c.is_way.ensures ∙ c.if-is_way.false) c.nothing-2.ensures
