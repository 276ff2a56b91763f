-- Refused, or written, entered and perhaps sorted: between the steps the words are a stack.
use mathlib.Core.List.{List}
use mathlib.Core.Path.{sym, subst}
use Prim.Native.Nat.{ℕ, ◌+◌, ◌<◌}
use native.Mathlib.Omega.{arith}
use lib.ListN.{length}
use Rattle.cells.specs.Cells.{state_of}
use Rattle.clones.specs.Clones.{made_of}
use Rattle.stack.specs.Stack.{Stack, room}
use Rattle.stack.proofs.AppendLaws.{append_stack}
use Rattle.stack.proofs.push.Goals as goal

pub sort-requires : goal.sort-requires
sort-requires c =
    let a = c.args in
    let ws = a.words.now in
    let free : a.count < room (length ws) = omega (arith, c.if-room_of-count.false, c.room_of.ensures) in
    (subst (λ (w : List ℕ). Stack w (a.count + 1)) (sym c.enter.ensures.0) (append_stack ws a.count c.requires.0 free a.p (made_of a.made (state_of a.cells.now)) c.enter.ensures.1), omega arith)
