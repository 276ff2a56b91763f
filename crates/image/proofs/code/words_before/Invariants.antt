-- `image::code::words_before` meets its contract: the sum is that of the sections passed, each below 2^30.
use Prim.Native.Nat.{◌*◌, ◌^◌, ◌≤◌}
use mathlib.Core.Path.{◌≡◌}
use Rattle.image.specs.Rules.{words_before}
use Rattle.image.proofs.code.words_before.Given as goal

abbrev pub invariant-loop-j : goal.invariant-loop-j
invariant-loop-j l = (l.sum ≡ words_before l.im l.j) × (l.sum ≤ l.j * 2 ^ 30)
