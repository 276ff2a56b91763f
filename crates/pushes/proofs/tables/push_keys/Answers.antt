-- The keys pushed so far, one more each turn, by proofs/PlaceLaws.
use Prim.Native.Nat.{◌<◌}
use mathlib.Core.Path.{◌≡◌}
use Rattle.pushes.proofs.PlaceLaws.{keys_start, keys_more, keys_stop, keys_done}
use native.Mathlib.Omega.{arith}
use lib.Seq.{get_or-take, length-take-le}
use Rattle.cells.specs.Cells.{state_of}
use Rattle.clones.specs.Clones.{made_of}
use Rattle.pushes.proofs.tables.push_keys.Goals as goal

pub loop-key-init : goal.loop-key-init
loop-key-init c = let a = c.args in keys_start a.im.now.words.now a.stack.now a.count a.entries.now (made_of a.made (state_of a.cells.now)) c.requires.0

pub returns-then-r : goal.returns-then-r
returns-then-r c =
    let a = c.args in
    let l = c.loop-key in
    let low : l.key-index < a.n = omega (arith, length-take-le a.n a.entries.now c.requires.1) in
    let p = rw (c.place_of.ensures, get_or-take a.n a.entries.now l.key-index 0 low) at c.push_at-r.ensures in
    keys_stop a.im.now.words.now a.stack.now a.count a.entries.now (made_of a.made (state_of a.cells.now)) l.invariant (omega (arith, c.requires.1)) p a.n c.if-r.true low c.requires.1

pub loop-key-preserved : goal.loop-key-preserved
loop-key-preserved c =
    let a = c.args in
    let l = c.loop-key in
    let low : l.key-index < a.n = omega (arith, length-take-le a.n a.entries.now c.requires.1) in
    let p = rw (c.place_of.ensures, get_or-take a.n a.entries.now l.key-index 0 low) at c.push_at-r.ensures in
    keys_more a.im.now.words.now a.stack.now a.count a.entries.now (made_of a.made (state_of a.cells.now)) l.invariant (omega (arith, c.requires.1)) p c.if-r.false

pub returns : goal.returns
returns c =
    let a = c.args in
    let l = c.loop-key in
    let all : l.key-index ≡ a.n = omega (arith, length-take-le a.n a.entries.now c.requires.1) in
    keys_done a.im.now.words.now a.stack.now a.count a.entries.now (made_of a.made (state_of a.cells.now)) l.invariant a.n c.nothing.result all c.nothing.ensures
