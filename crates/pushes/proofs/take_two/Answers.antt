-- The next word first; then the target, where it leads somewhere, by proofs/LeaveLaws.
use mathlib.Core.Path.{sym, ◌∙◌}
use Rattle.pushes.proofs.LeaveLaws.{taken_refused, taken_first, taken_both}
use Rattle.cells.specs.Cells.{state_of}
use Rattle.clones.specs.Clones.{made_of}
use Rattle.pushes.proofs.take_two.Goals as goal

pub returns-then-first : goal.returns-then-first
returns-then-first c = let a = c.args in
    λ l e. taken_refused a.im.now.tables.words.now a.im.now.«data».now a.from a.upto a.stack.now a.count a.entries.now a.at l (state_of a.cells.now) c.push_at-first.ensures a.t (made_of a.goes (state_of a.cells.now)) (rw c.offset.ensures e) c.requires.stack.1 c.if-first.true

pub take_target-requires : goal.take_target-requires
take_target-requires c = let a = c.args in record { cells = c.requires.cells; stack = ((c.push_at-first.ensures.piles a.im.now.«data».now a.from a.upto a.entries.now).held, c.requires.stack.1) }

pub returns-then-is_way : goal.returns-then-is_way
returns-then-is_way c = let a = c.args in
    let second = c.take_target in
    λ l e. taken_both a.im.now.tables.words.now a.im.now.«data».now a.from a.upto a.stack.now a.count a.entries.now a.at l (state_of a.cells.now) c.push_at-first.ensures a.t (made_of a.goes (state_of a.cells.now)) (rw c.offset.ensures e) c.requires.stack.1 c.if-first.false (second.auto.entries ∙ c.requires.stack.1) second.ensures

pub returns : goal.returns
returns c = let a = c.args in
    λ l e. taken_first a.im.now.tables.words.now a.im.now.«data».now a.from a.upto a.stack.now a.count a.entries.now a.at l (state_of a.cells.now) c.push_at-first.ensures a.t (made_of a.goes (state_of a.cells.now)) (rw c.offset.ensures e) c.requires.stack.1 c.if-first.false (sym c.is_way.ensures ∙ c.if-is_way.false)
