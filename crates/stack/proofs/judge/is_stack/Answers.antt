-- Each way out, by what the test of a stack is: where one part fails the whole does.
use mathlib.Core.Path.{sym, ◌∙◌}
use Prim.Native.Nat.{◌<◌}
use native.Mathlib.Decide.{dec_lt}
use native.Mathlib.Omega.{arith}
use lib.ListN.{length, get_or}
use Rattle.stack.proofs.RoomLaws.{room_fits}
use Rattle.stack.proofs.ValidLaws.{named_low}
use Rattle.stack.proofs.judge.is_stack.Goals as goal

pub bounds-words-0 : goal.bounds-words-0
bounds-words-0 c =
    let ws = c.args.words.now in
    let n = c.args.count in
    let some : 0 < n = (elim (dec_lt 0 n) [ yes p ↦ p | no p ↦ absurd (c.if-count-eq0.false (omega arith)) ]) in
    let is = c.room_of-room.ensures in
    omega (arith, room_fits (length ws) 0 (omega (arith, some, c.if-room-count.false)))

pub bounds-words-1 : goal.bounds-words-1
bounds-words-1 c =
    let ws = c.args.words.now in
    let n = c.args.count in
    let some : 0 < n = (elim (dec_lt 0 n) [ yes p ↦ p | no p ↦ absurd (c.if-count-eq0.false (omega arith)) ]) in
    let is = c.room_of-room.ensures in
    omega (arith, room_fits (length ws) 0 (omega (arith, some, c.if-room-count.false)))

pub is_named-requires : goal.is_named-requires
is_named-requires c =
    let ws = c.args.words.now in
    let n = c.args.count in
    let some : 0 < n = (elim (dec_lt 0 n) [ yes p ↦ p | no p ↦ absurd (c.if-count-eq0.false (omega arith)) ]) in
    let is = c.room_of-room.ensures in
    omega (arith, room_fits (length ws) 0 (omega (arith, some, c.if-room-count.false)), c.if-room-high.false)

pub sorted_of-requires : goal.sorted_of-requires
sorted_of-requires c =
    let ws = c.args.words.now in
    let n = c.args.count in
    let some : 0 < n = (elim (dec_lt 0 n) [ yes p ↦ p | no p ↦ absurd (c.if-count-eq0.false (omega arith)) ]) in
    let is = c.room_of-room.ensures in
    omega (arith, room_fits (length ws) 0 (omega (arith, some, c.if-room-count.false)))

pub is_ordered-requires : goal.is_ordered-requires
is_ordered-requires c =
    let ws = c.args.words.now in
    let n = c.args.count in
    let some : 0 < n = (elim (dec_lt 0 n) [ yes p ↦ p | no p ↦ absurd (c.if-count-eq0.false (omega arith)) ]) in
    let is = c.room_of-room.ensures in
    let low = named_low ws (get_or ws 0 0) (sym c.is_named.ensures ∙ c.if-not-is_named.false) in
    (omega (arith, c.sorted_of.ensures, c.if-room-count.false), λ i h. omega (arith, c.sorted_of.ensures, c.if-high-count.false, c.if-room-high.false, low i (omega (arith, c.sorted_of.ensures, c.if-high-count.false))))

pub is_held-requires : goal.is_held-requires
is_held-requires c =
    let ws = c.args.words.now in
    let n = c.args.count in
    let some : 0 < n = (elim (dec_lt 0 n) [ yes p ↦ p | no p ↦ absurd (c.if-count-eq0.false (omega arith)) ]) in
    let is = c.room_of-room.ensures in
    let low = named_low ws (get_or ws 0 0) (sym c.is_named.ensures ∙ c.if-not-is_named.false) in
    (omega (arith, c.if-room-count.false), λ i h. omega (arith, c.if-room-high.false, low i (omega (arith, c.if-high-count.false))))
