-- The two cases of the definition.
use native.Mathlib.Omega.{arith}
use lib.ListN.{length}
use Rattle.stack.proofs.RoomLaws.{room_small}
use Rattle.stack.proofs.next_high.Goals as goal

pub overflow_add-result : goal.overflow_add-result
overflow_add-result c = omega (arith, room_small (length c.args.words.now), c.requires.1)
