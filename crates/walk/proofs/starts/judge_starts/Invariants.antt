-- The starts from a number on are judged as all of them are.
use mathlib.Core.Path.{◌≡◌}
use Rattle.turns.specs.Walks.{starts_judged}
use Rattle.walk.specs.Starts.{places_of}
use Rattle.walk.proofs.StartLaws.{judged_from}
use Rattle.walk.proofs.starts.judge_starts.Given as goal

abbrev pub invariant-loop-start : goal.invariant-loop-start
invariant-loop-start l = judged_from l.im.words.now l.starts l.start-index ≡ starts_judged l.im.words.now (places_of l.starts)
