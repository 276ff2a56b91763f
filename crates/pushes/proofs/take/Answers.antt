-- A word that asks for nothing, or for two ways.
use Rattle.pushes.proofs.LeaveLaws.{leaving_none, taken_nothing}
use Rattle.cells.specs.Cells.{state_of}
use Rattle.turns.proofs.Leavings.{leaving_call, leaving_fork, leaving_both}
use Rattle.pushes.proofs.take.Goals as goal
use Rattle.pushes.proofs.take.Goals.{in-Call, in-Fork, in-Both}

pub returns-in-Ended : goal.returns-in-Ended
returns-in-Ended c =
    let a = c.args in
    taken_nothing a.im.now.tables.words.now a.im.now.«data».now a.from a.upto a.stack.now a.count a.entries.now a.at a.l (state_of a.cells.now) c.requires.stack.0 c.requires.stack.1 c.nothing.result (leaving_none a.at (state_of a.cells.now) a.l c.in-Ended.is) c.nothing.ensures

pub returns : goal.returns
returns c =
    let a = c.args in
    let s = state_of a.cells.now in
    elim c.match-l.branch [
      | in-Call w ↦ rw w.in-Call.is ((rw w.target-is at c.take_two.ensures) _ (leaving_call a.at s _))
      | in-Fork w ↦ rw w.in-Fork.is ((rw w.target-is at c.take_two.ensures) _ (leaving_fork a.at s _ _ _ _))
      | in-Both w ↦ rw w.in-Both.is ((rw w.target-is at c.take_two.ensures) _ (leaving_both a.at s _))
    ]
