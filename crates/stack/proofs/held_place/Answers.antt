-- The place is read where the table says.
use native.Mathlib.Omega.{arith}
use lib.ListN.{length}
use Rattle.stack.proofs.RoomLaws.{room_fits}
use Rattle.stack.proofs.held_place.Goals as goal

pub bounds-words-i : goal.bounds-words-i
bounds-words-i c = omega (arith, room_fits (length c.args.words.now) c.args.i (omega (arith, c.requires.0.count, c.requires.0.within, c.requires.1)))

pub place_in-requires : goal.place_in-requires
place_in-requires c = omega (arith, c.slot_at.ensures, c.requires.0.named c.args.i (omega (arith, c.requires.0.count, c.requires.1)), c.requires.0.within, room_fits (length c.args.words.now) c.args.i (omega (arith, c.requires.0.count, c.requires.0.within, c.requires.1)))
