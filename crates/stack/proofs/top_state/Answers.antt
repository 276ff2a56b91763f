-- The state is read where the table's last number says.
use mathlib.Core.Path.{◌≡◌, ap}
use Prim.Native.Nat.{ℕ, ◌+◌, ◌-◌, ◌<◌}
use native.Mathlib.Omega.{arith}
use lib.ListN.{length, get_or}
use Rattle.stack.specs.Stack.{order_at, high_of}
use Rattle.stack.proofs.RoomLaws.{room_fits}
use Rattle.stack.proofs.top_state.Goals as goal

pub bounds-words-count : goal.bounds-words-count
bounds-words-count c = omega (arith, room_fits (length c.args.words.now) (c.args.count - 1) (omega (arith, c.requires.0.count, c.requires.0.within, c.requires.1)))

pub state_in-requires : goal.state_in-requires
state_in-requires c =
    let e : 1 + c.args.count ≡ 2 + (c.args.count - 1) = omega (arith, c.requires.1) in
    let f = room_fits (length c.args.words.now) (c.args.count - 1) (omega (arith, c.requires.0.count, c.requires.0.within, c.requires.1)) in
    let k : order_at c.args.words.now (c.args.count - 1) < high_of c.args.words.now c.args.count = c.requires.0.named (c.args.count - 1) (omega (arith, c.requires.0.count, c.requires.1)) in
    omega (arith, c.slot_at.ensures, ap (λ (i : ℕ). get_or c.args.words.now i 0) e, c.requires.0.within)
