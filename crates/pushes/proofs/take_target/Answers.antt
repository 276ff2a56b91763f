-- No way, a place, or a table.
use mathlib.Core.Path.{refl}
use lib.ListN.{length}
use Rattle.stack.specs.Stack.{room}
use Rattle.turns.specs.Grounds.{table}
use Rattle.turns.specs.Moves.{asked_of, ground_of}
use Rattle.turns.proofs.PileLaws.{piles_no_way}
use Rattle.pushes.proofs.WayLaws.{one_way, place_alone}
use Rattle.cells.specs.Cells.{state_of}
use Rattle.clones.specs.Clones.{made_of}
use Rattle.pushes.proofs.take_target.Goals as goal

pub returns-in-Unknown : goal.returns-in-Unknown
returns-in-Unknown c = let a = c.args in
    rw (c.in-Unknown.is, c.nothing.ensures) (λ p. piles_no_way (ground_of a.im.now.tables.words.now a.im.now.«data».now a.from a.upto (room (length a.stack.now))) p c.requires.stack.0)

pub returns-in-Return : goal.returns-in-Return
returns-in-Return c = let a = c.args in
    rw (c.in-Return.is, c.nothing-in-Return.ensures) (λ p. piles_no_way (ground_of a.im.now.tables.words.now a.im.now.«data».now a.from a.upto (room (length a.stack.now))) p c.requires.stack.0)

pub returns-in-External : goal.returns-in-External
returns-in-External c = let a = c.args in
    rw (c.in-Address.is, c.in-External.is, c.nothing-in-External.ensures) (λ p. piles_no_way (ground_of a.im.now.tables.words.now a.im.now.«data».now a.from a.upto (room (length a.stack.now))) p c.requires.stack.0)

pub returns-in-Address-a : goal.returns-in-Address-a
returns-in-Address-a c = let a = c.args in
    rw (c.in-Address.is, c.in-Address-a.is) (λ p. place_alone a.im.now.tables.words.now a.im.now.«data».now a.from a.upto (room (length a.stack.now)) p refl c.push_at.ensures)

pub returns-in-JumpTable : goal.returns-in-JumpTable
returns-in-JumpTable c = let a = c.args in
    rw c.in-JumpTable.is (λ p. one_way a.im.now.tables.words.now a.im.now.«data».now a.from a.upto (room (length a.stack.now)) p (table (asked_of c.in-JumpTable.address c.in-JumpTable.size) (made_of a.made (state_of a.cells.now))) (c.take_table.ensures p))
