-- `visited::count` meets its contract.
use mathlib.Core.Path.{◌≡◌}
use Prim.Native.Nat.{◌-◌, ◌*◌, min}
use Rattle.visited.specs.Bits.{ones_below}
use Rattle.visited.proofs.count.Given as goal

abbrev pub invariant-loop-word : goal.invariant-loop-word
invariant-loop-word l = (l.left ≡ l.n - l.word-index * 32) × (l.ones ≡ ones_below l.map (min l.n (l.word-index * 32)))
