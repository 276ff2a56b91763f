-- `shown::sections::show` meets its contract.
use Rattle.image.specs.Rules.{words_before}
use Rattle.image.specs.Layout.{sections}
use Prim.Native.Nat.{◌≤◌}
use mathlib.Core.Path.{◌≡◌}
use Rattle.shown.proofs.sections.show.Given as goal

abbrev pub invariant-loop-i : goal.invariant-loop-i
invariant-loop-i g l = (l.i ≤ sections l.im.words.now) × (l.base ≡ words_before l.im.words.now l.i)
