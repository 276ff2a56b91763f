-- The slot is written, then three words of the table.
use native.Mathlib.Omega.{arith}
use lib.ListN.{length}
use Rattle.cells.specs.Cells.{state_of}
use Rattle.clones.specs.Clones.{made_of}
use Rattle.stack.proofs.AppendLaws.{slot_fits, append_entered}
use Rattle.stack.proofs.RoomLaws.{room_fits}
use Rattle.stack.proofs.enter.Goals as goal

pub sorted_of-sorted-requires : goal.sorted_of-sorted-requires
sorted_of-sorted-requires c = omega (arith, room_fits (length c.args.words.now) c.args.count c.requires.1)

pub put_made-requires : goal.put_made-requires
put_made-requires c = (rw (c.slot_at-at.ensures, c.next_slot-k.ensures) (slot_fits c.args.words.now c.args.count c.requires.0 c.requires.1 c.args.p (made_of c.args.made (state_of c.args.cells.now))), c.requires.2)

pub returns : goal.returns
returns c =
    (rw (c.put_made.ensures.0, c.slot_at-at.ensures, c.next_slot-k.ensures, c.next_high-high.ensures, c.sorted_of-sorted.ensures) (append_entered c.args.words.now c.args.count c.requires.0 c.requires.1 c.args.p (made_of c.args.made (state_of c.args.cells.now))), c.put_made.ensures.1)
