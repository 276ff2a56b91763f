-- The loop's invariant: the words passed are copied.
use mathlib.Core.Path.{◌≡◌}
use lib.ListN.{length, take, drop}
use Rattle.slot.specs.Put.{put}
use Rattle.clones.proofs.copy.Given as goal

abbrev pub invariant-loop-i : goal.invariant-loop-i
invariant-loop-i l = (length l.to ≡ length l.initial.to) × (l.to ≡ put l.initial.to l.at (take l.i (drop l.first l.from)))
