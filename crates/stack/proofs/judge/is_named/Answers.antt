-- The loop's invariant: the numbers passed are low and new.
use mathlib.Core.Bool.{Bool, ◌&&◌}
use mathlib.Core.Path.{sym, ◌∙◌}
use Prim.Native.Nat.{ℕ}
use native.Mathlib.Omega.{arith}
use lib.Dec.{ltb}
use borrow.Author.Tests.{lt-ltb, le-ltb}
use Rattle.search.proofs.EveryLaws.{every_none, every_more, every_fails, and_false_left, and_false_right}
use Rattle.stack.specs.Stack.{order_at}
use Rattle.stack.specs.Valid.{is_fresh}
use Rattle.stack.proofs.judge.is_named.Goals as goal
use Rattle.stack.proofs.judge.is_named.Goals.{then-h-words-via-then-h-words, then-h-words-via-else-h-words+then-not-is_fresh}

pub loop-i-init : goal.loop-i-init
loop-i-init c = every_none _

pub returns-then-h-words : goal.returns-then-h-words
returns-then-h-words c =
    let ws = c.args.words.now in
    let q = c.loop-i in
    let p : ℕ → Bool = λ k. (ltb (order_at ws k) c.args.h) && (is_fresh ws k) in
    elim c.then-h-words.branch [
      | then-h-words-via-then-h-words w ↦
          sym (every_fails p c.args.h q.i (omega arith) (and_false_left (ltb (order_at ws q.i) c.args.h) (is_fresh ws q.i) (le-ltb (order_at ws q.i) c.args.h w.if-h-words.true)))
      | then-h-words-via-else-h-words+then-not-is_fresh w ↦
          sym (every_fails p c.args.h q.i (omega arith) (and_false_right (ltb (order_at ws q.i) c.args.h) (is_fresh ws q.i) (sym w.is_fresh.ensures ∙ w.if-not-is_fresh.true)))
    ]

pub loop-i-preserved : goal.loop-i-preserved
loop-i-preserved c =
    let ws = c.args.words.now in
    let q = c.loop-i in
    every_more (λ (k : ℕ). (ltb (order_at ws k) c.args.h) && (is_fresh ws k)) q.i q.invariant (rw (lt-ltb (order_at ws q.i) c.args.h c.if-h-words.false) (sym c.is_fresh.ensures ∙ c.if-not-is_fresh.false))
