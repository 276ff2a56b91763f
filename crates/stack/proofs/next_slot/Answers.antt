-- The two cases of the definition.
use native.Mathlib.Omega.{arith}
use lib.ListN.{length}
use Rattle.stack.proofs.RoomLaws.{room_fits}
use Rattle.stack.proofs.next_slot.Goals as goal

pub bounds-words-count : goal.bounds-words-count
bounds-words-count c = omega (arith, room_fits (length c.args.words.now) c.args.count c.requires.1)
