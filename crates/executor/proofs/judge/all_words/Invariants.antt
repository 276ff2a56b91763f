-- The loop's invariant: the states passed wait at words.
use mathlib.Core.Bool.{true}
use mathlib.Core.Path.{◌≡◌}
use Prim.Native.Nat.{ℕ}
use Rattle.search.specs.Every.{every}
use Rattle.stack.specs.Stack.{held_at}
use Rattle.executor.specs.Judge.{is_word}
use Rattle.executor.proofs.judge.all_words.Given as goal

abbrev pub invariant-loop-i : goal.invariant-loop-i
invariant-loop-i l = every (λ (k : ℕ). is_word l.im.words.now (held_at l.stack k).place) l.i ≡ true
