-- The invariant: keys below lo are smaller than the wanted one, those from hi on are not. The measure is what is between.
use Prim.Native.Nat.{◌+◌, ◌-◌, ◌/◌}
use mathlib.Core.Path.{sym}
use native.Mathlib.Omega.{arith}
use Rattle.lookups.proofs.Halves.{table_up, table_down, table_hit, table_miss, table_end}
use Rattle.lookups.proofs.sorted.index_by_halves.Goals as goal

pub loop-lo-preserved-then-key_at-wanted : goal.loop-lo-preserved-then-key_at-wanted
loop-lo-preserved-then-key_at-wanted c =
    let a = c.args in
    let l = c.loop-lo in
    table_up a.im.now a.from a.stride a.n c.shared_slice_known-1.given c.requires.n_value _ l.lo l.hi (l.lo + (l.hi - l.lo) / 2) _ l.invariant (omega arith) (omega arith) c.key_at.ensures c.if-key_at-wanted.true

pub loop-lo-preserved : goal.loop-lo-preserved
loop-lo-preserved c =
    let a = c.args in
    let l = c.loop-lo in
    table_down a.im.now a.from a.stride a.n c.shared_slice_known-1.given c.requires.n_value _ l.lo l.hi (l.lo + (l.hi - l.lo) / 2) _ l.invariant (omega arith) (omega arith) c.key_at.ensures c.if-key_at-wanted.false

pub returns-then-n-lo : goal.returns-then-n-lo
returns-then-n-lo c =
    let a = c.args in
    let l = c.loop-lo in
    sym (table_end a.im.now a.from a.stride a.n c.shared_slice_known-1.given c.requires.n_value a.at _ l.lo l.hi c.key-wanted.ensures l.invariant c.if-n-lo.true)

pub returns-then-key_at-wanted-2 : goal.returns-then-key_at-wanted-2
returns-then-key_at-wanted-2 c =
    let a = c.args in
    let l = c.loop-lo in
    sym (table_hit a.im.now a.from a.stride a.n c.shared_slice_known-1.given c.requires.n_value a.at _ l.lo l.hi _ c.key-wanted.ensures l.invariant c.if-n-lo.false c.key_at-2.ensures c.if-key_at-wanted-2.true)

pub returns-else-key_at-wanted-2 : goal.returns-else-key_at-wanted-2
returns-else-key_at-wanted-2 c =
    let a = c.args in
    let l = c.loop-lo in
    sym (table_miss a.im.now a.from a.stride a.n c.shared_slice_known-1.given c.requires.n_value a.at _ l.lo l.hi _ c.key-wanted.ensures l.invariant c.loop-lo-test.false c.if-n-lo.false c.key_at-2.ensures c.if-key_at-wanted-2.false)
