-- The invariant: keys below lo are smaller than the wanted one, those from hi on are not. The measure is what is between.
use Prim.Native.Nat.{◌-◌}
use Rattle.lookups.proofs.Halves.{Halves, keys_at}
use Rattle.lookups.proofs.sorted.index_by_halves.Given as goal

abbrev pub invariant-loop-lo : goal.invariant-loop-lo
invariant-loop-lo l = Halves (keys_at l.im l.from l.stride) l.n l.wanted l.lo l.hi

abbrev pub decreases-loop-lo : goal.decreases-loop-lo
decreases-loop-lo l = l.hi - l.lo
