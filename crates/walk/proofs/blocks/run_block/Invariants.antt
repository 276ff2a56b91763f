-- The loop stands `Within` a block; each end of it is one law of proofs/BlockLaws.
use Rattle.cells.specs.Cells.{state_of, Cells}
use Rattle.walk.proofs.BlockLaws.{left_at, Within}
use Rattle.walk.proofs.blocks.run_block.Given as goal

abbrev pub invariant-loop-l : goal.invariant-loop-l
invariant-loop-l l = Within l.im.tables.words.now l.im.«data».now l.initial.p (state_of l.initial.cells) l.initial.map l.p (state_of l.cells) l.map l.stepped l.begun × Cells l.cells (state_of l.cells)

abbrev pub decreases-loop-l : goal.decreases-loop-l
decreases-loop-l l = left_at l.im.tables.words.now l.im.«data».now l.p (state_of l.cells) l.map
