-- The loop's invariant: the highest unvisited state is among those left.
use mathlib.Core.Path.{◌≡◌}
use Rattle.stack.specs.Stack.{entries}
use Rattle.executor.specs.Next.{top}
use Rattle.executor.proofs.stepping.highest.Given as goal

abbrev pub invariant-loop-i : goal.invariant-loop-i
invariant-loop-i l = top l.im.words.now l.map (entries l.stack l.count) ≡ top l.im.words.now l.map (entries l.stack l.i)
