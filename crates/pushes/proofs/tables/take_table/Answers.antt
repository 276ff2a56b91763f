-- External, or read and its entries pushed, or refused, by proofs/TableLaws.
use native.Mathlib.Omega.{arith}
use lib.ListN.{length}
use Rattle.pushes.proofs.TableLaws.{entries_fit, taken_external, taken_read, taken_unread}
use Rattle.cells.specs.Cells.{state_of}
use Rattle.clones.specs.Clones.{made_of}
use Rattle.pushes.proofs.tables.take_table.Goals as goal

pub push_keys-r-requires : goal.push_keys-r-requires
push_keys-r-requires c =
    let a = c.args in
    let t = c.table_in in
    (c.requires.stack.0, omega (arith, entries_fit a.im.now.tables.words.now a.im.now.«data».now c.in-Address.p c.size_in.result a.from a.upto (length a.entries.now) t.ensures.value c.in-Ok.is, t.auto.entries), c.requires.cells)

pub returns-in-External : goal.returns-in-External
returns-in-External c =
    let a = c.args in
    rw (c.in-External.is, c.not_read.ensures) (taken_external a.im.now.tables.words.now a.im.now.«data».now a.from a.upto a.stack.now a.count a.entries.now c.requires.stack.0 a.size (made_of a.made (state_of a.cells.now)))

pub returns-in-Ok : goal.returns-in-Ok
returns-in-Ok c =
    let a = c.args in
    let t = c.table_in in
    rw c.in-Address.is
    (taken_read a.im.now.tables.words.now a.im.now.«data».now a.from a.upto a.stack.now a.count a.entries.now c.requires.stack.0 a.size (made_of a.made (state_of a.cells.now)) c.in-Address.p c.requires.stack.1 c.size_in.ensures t.ensures.value t.ensures.buffer c.in-Ok.is c.push_keys-r.ensures)

pub returns-in-Err : goal.returns-in-Err
returns-in-Err c =
    let a = c.args in
    let t = c.table_in in
    rw (c.in-Address.is, c.not_read-in-Err.ensures)
    (taken_unread a.im.now.tables.words.now a.im.now.«data».now a.from a.upto a.stack.now a.count a.entries.now c.requires.stack.0 a.size (made_of a.made (state_of a.cells.now)) c.in-Address.p c.requires.stack.1 c.size_in.ensures t.ensures.value t.ensures.buffer c.in-Err.is)
