-- Four words make a value.
use Rattle.slot.specs.Layout.{state_at}
use Rattle.cells.proofs.lr_in.Goals as goal

pub returns : goal.returns
unfolding state_at
returns c = rw c.held_at.ensures
