-- `visited::clear` meets its contract.
use mathlib.Core.Path.{◌≡◌}
use Prim.Native.Nat.{◌-◌, ◌*◌}
use Rattle.visited.specs.Bits.{cleared}
use Rattle.visited.proofs.Clearing.{partly}
use Rattle.visited.proofs.clear.Given as goal

abbrev pub invariant-loop-word : goal.invariant-loop-word
invariant-loop-word l = (l.left ≡ l.n - l.word-index * 32) × (partly l.word-items l.n l.word-index ≡ cleared l.initial.word-items l.n)
