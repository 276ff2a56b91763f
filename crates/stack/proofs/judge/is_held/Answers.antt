-- The loop's invariant: the slots passed are well written.
use mathlib.Core.Path.{sym, ap, ◌∙◌}
use Prim.Native.Nat.{ℕ}
use native.Mathlib.Omega.{arith}
use lib.ListN.{length}
use Rattle.search.proofs.EveryLaws.{every_none, every_more, every_fails}
use Rattle.slot.specs.Layout.{is_slot}
use Rattle.stack.specs.Stack.{slot_at, order_at}
use Rattle.stack.proofs.RoomLaws.{room_fits}
use Rattle.stack.proofs.judge.is_held.Goals as goal

pub loop-i-init : goal.loop-i-init
loop-i-init c = every_none _

pub overflow_add-i : goal.overflow_add-i
overflow_add-i c =
    let ws = c.args.words.now in
    let q = c.loop-i in
    omega (arith, room_fits (length ws) q.i (omega (arith, c.requires.0)), c.requires.0)

pub offset_bounds-words-i : goal.offset_bounds-words-i
offset_bounds-words-i c =
    let ws = c.args.words.now in
    let q = c.loop-i in
    omega (arith, room_fits (length ws) q.i (omega (arith, c.requires.0)), c.requires.0)

pub bounds-words-i : goal.bounds-words-i
bounds-words-i c =
    let ws = c.args.words.now in
    let q = c.loop-i in
    omega (arith, room_fits (length ws) q.i (omega (arith, c.requires.0)), c.requires.0)

pub is_slot-requires : goal.is_slot-requires
is_slot-requires c =
    let ws = c.args.words.now in
    let q = c.loop-i in
    omega (arith, c.slot_at.ensures, room_fits (length ws) q.i (omega (arith, c.requires.0)), c.requires.1 q.i (omega arith))

pub loop-i-preserved : goal.loop-i-preserved
loop-i-preserved c =
    let ws = c.args.words.now in
    let q = c.loop-i in
    every_more (λ (k : ℕ). is_slot ws (slot_at ws (order_at ws k))) q.i q.invariant (ap (is_slot ws) (sym c.slot_at.ensures) ∙ sym c.is_slot.ensures ∙ c.if-not-is_slot.false)

pub returns-then-not-is_slot : goal.returns-then-not-is_slot
returns-then-not-is_slot c =
    let ws = c.args.words.now in
    let q = c.loop-i in
    sym (every_fails (λ (k : ℕ). is_slot ws (slot_at ws (order_at ws k))) c.args.n q.i (omega arith) (ap (is_slot ws) (sym c.slot_at.ensures) ∙ sym c.is_slot.ensures ∙ c.if-not-is_slot.true))
