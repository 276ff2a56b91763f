-- What pushing keeps: each waiting state is at a word of code, the counts stay, and the stack grows by no more than was asked.
-- Assumes a waiting state that keeps its place.
use Prim.Native.Nat.{ℕ, ◌+◌, ◌≤◌}
use mathlib.Core.Path.{◌≡◌, refl, ap, ◌∙◌}
use mathlib.Core.Bool.{Bool, true, false, ◌&&◌, not}
use mathlib.Core.List.{List, [], ◌∷◌, ◌++◌}
use native.Mathlib.Omega.{arith}
use lib.ListN.{length}
use lib.Dec.{ltb}
use Rattle.words.specs.Choice.{pick}
use Rattle.search.proofs.EveryLaws.{and_right}
use Rattle.stack.specs.Sort.{sort_by}
use Rattle.turns.specs.Grounds.{Way, to, table, Event, looked, Ground, Pile, pile_of}
use Rattle.turns.specs.Turns.{push_at, push_each, asked_for, take_way, take_ways}
use Rattle.turns.specs.Histories.{total, tables}
use Rattle.turns.proofs.Lawful.{width, widths}
use Rattle.turns.proofs.Lists.{Each, each_append, each_one, sort_each, sort_length, snoc_length}

module _ {P S A O E M : Type 0} (g : Ground P S A O E M) where
  -- a push with room: the state in its place among the others
  abbrev pub grown : P → S → Pile P S A O E M → Pile P S A O E M
  grown q s k =
      pile_of (sort_by g.key (k.stack ++ (g.entry q s ∷ []))) k.full k.log (g.pushing k.lent (length k.stack) q s)

  -- a push without
  abbrev pub refused : Pile P S A O E M → Pile P S A O E M
  refused k = pile_of k.stack true k.log k.lent

  -- what a push leaves is one of three
  pub by_push : (Q : Pile P S A O E M → Type 0) (q : P) (s : S) (k : Pile P S A O E M)
      → Q k → (g.is_word q ≡ true → Q (grown q s k)) → Q (refused k) → Q (push_at g q s k)
  by_push Q q s k same more none = by (not k.full && g.is_word q) refl (ltb (length k.stack) g.slots)
    where
      by : (t : Bool) → not k.full && g.is_word q ≡ t → (r : Bool) → Q (pick t (pick r (grown q s k) (refused k)) k)
      by true e true = more (and_right (not k.full) (g.is_word q) e)
      by true e false = none
      by false e r = same

  -- what a push and a table keep, ways keep
  module _ (Q : Pile P S A O E M → Type 0) (pushes : (q : P) (s : S) (k : Pile P S A O E M) → Q k → Q (push_at g q s k))
      (asks : (p : P) (a : A) (k : Pile P S A O E M) → Q k → Q (asked_for g p a k)) where
    pub each_keeps : (s : S) (qs : List P) (k : Pile P S A O E M) → Q k → Q (push_each g s qs k)
    unfolding push_each
    each_keeps s [] k h = h
    each_keeps s (q ∷ qs) k h = each_keeps s qs (push_at g q s k) (pushes q s k h)

    way_keeps : (p : P) (y : Way P S A) (k : Pile P S A O E M) → Q k → Q (take_way g p y k)
    unfolding take_way
    way_keeps p (to q s) k h = pushes q s k h
    way_keeps p (table a s) k h = by k.full
      where
        by : (t : Bool) → Q (pick t k (push_each g s (g.listed (g.look a)) (asked_for g p a k)))
        by true = h
        by false = each_keeps s (g.listed (g.look a)) (asked_for g p a k) (asks p a k h)

    pub ways_keep : (p : P) (ys : List (Way P S A)) (k : Pile P S A O E M) → Q k → Q (take_ways g p ys k)
    unfolding take_ways
    ways_keep p [] k h = h
    ways_keep p (y ∷ ys) k h = ways_keep p ys (take_way g p y k) (way_keeps p y k h)

  -- each waiting state is at a word of code
  abbrev pub AtWord : E → Type 0
  AtWord e = g.is_word (g.place e) ≡ true

  module _ (kept : (p : P) (s : S) → g.place (g.entry p s) ≡ p) where
    at_word : (q : P) (s : S) → g.is_word q ≡ true → AtWord (g.entry q s)
    at_word q s h = ap g.is_word (kept q s) ∙ h

    push_waits : (q : P) (s : S) (k : Pile P S A O E M) → Each AtWord k.stack → Each AtWord (push_at g q s k).stack
    push_waits q s k h =
        by_push (λ (j : Pile P S A O E M). Each AtWord j.stack) q s k h
        (λ e. sort_each AtWord g.key (k.stack ++ (g.entry q s ∷ []))
        (each_append AtWord k.stack (g.entry q s ∷ []) h (each_one AtWord (g.entry q s) (at_word q s e))))
        h

    pub pushed_wait : (s : S) (qs : List P) (k : Pile P S A O E M) → Each AtWord k.stack → Each AtWord (push_each g s qs k).stack
    pushed_wait s qs k h = each_keeps (λ (j : Pile P S A O E M). Each AtWord j.stack) push_waits (λ p a j a'. a') s qs k h

    pub ways_wait : (p : P) (ys : List (Way P S A)) (k : Pile P S A O E M) → Each AtWord k.stack → Each AtWord (take_ways g p ys k).stack
    ways_wait p ys k h = ways_keep (λ (j : Pile P S A O E M). Each AtWord j.stack) push_waits (λ q a j a'. a') p ys k h

  -- a count that tables do not change
  module _ (f : List (Event P S A O) → ℕ) (blind : (p : P) (a : A) (o : O) (l : List (Event P S A O)) → f (looked p a o ∷ l) ≡ f l) where
    push_tells : (n : ℕ) (q : P) (s : S) (k : Pile P S A O E M) → f k.log ≡ n → f (push_at g q s k).log ≡ n
    push_tells n q s k h = by_push (λ (j : Pile P S A O E M). f j.log ≡ n) q s k h (λ e. h) h

    pub ways_tell : (p : P) (ys : List (Way P S A)) (k : Pile P S A O E M) → f (take_ways g p ys k).log ≡ f k.log
    ways_tell p ys k =
        ways_keep (λ (j : Pile P S A O E M). f j.log ≡ f k.log) (push_tells (f k.log))
        (λ q a j h. blind q a (g.look a) j.log ∙ h) p ys k refl

  -- pushing tells no event
  pub push_silent : (q : P) (s : S) (k : Pile P S A O E M) → (push_at g q s k).log ≡ k.log
  push_silent q s k = by_push (λ (j : Pile P S A O E M). j.log ≡ k.log) q s k refl (λ e. refl) refl

  pub pushes_silent : (s : S) (qs : List P) (k : Pile P S A O E M) → (push_each g s qs k).log ≡ k.log
  unfolding push_each
  pushes_silent s [] k = refl
  pushes_silent s (q ∷ qs) k = pushes_silent s qs (push_at g q s k) ∙ push_silent q s k

  -- each way asks for one table at most
  way_asks : (p : P) (y : Way P S A) (k : Pile P S A O E M) → tables (take_way g p y k).log ≤ tables k.log + 1
  unfolding take_way total
  way_asks p (to q s) k = rw (push_silent q s k) (omega arith)
  way_asks p (table a s) k = by k.full
    where
      by : (t : Bool) → tables (pick t k (push_each g s (g.listed (g.look a)) (asked_for g p a k))).log ≤ tables k.log + 1
      by true = omega arith
      by false = rw (pushes_silent s (g.listed (g.look a)) (asked_for g p a k)) (omega arith)

  pub ways_ask : (p : P) (ys : List (Way P S A)) (k : Pile P S A O E M) → tables (take_ways g p ys k).log ≤ tables k.log + length ys
  unfolding take_ways
  ways_ask p [] k = omega arith
  ways_ask p (y ∷ ys) k = omega (arith, ways_ask p ys (take_way g p y k), way_asks p y k)

  -- the stack grows by no more than was asked
  push_grows : (q : P) (s : S) (k : Pile P S A O E M) → length (push_at g q s k).stack ≤ length k.stack + 1
  push_grows q s k =
      by_push (λ (j : Pile P S A O E M). length j.stack ≤ length k.stack + 1) q s k (omega arith)
      (λ e. omega (arith, sort_length g.key (k.stack ++ (g.entry q s ∷ [])), snoc_length k.stack (g.entry q s)))
      (omega arith)

  pub pushed_grow : (s : S) (qs : List P) (k : Pile P S A O E M) → length (push_each g s qs k).stack ≤ length k.stack + length qs
  unfolding push_each
  pushed_grow s [] k = omega arith
  pushed_grow s (q ∷ qs) k = omega (arith, pushed_grow s qs (push_at g q s k), push_grows q s k)

  way_grows : (p : P) (y : Way P S A) (k : Pile P S A O E M) → length (take_way g p y k).stack ≤ length k.stack + width g y
  unfolding take_way
  way_grows p (to q s) k = push_grows q s k
  way_grows p (table a s) k = by k.full
    where
      by : (t : Bool) → length (pick t k (push_each g s (g.listed (g.look a)) (asked_for g p a k))).stack ≤ length k.stack + length (g.listed (g.look a))
      by true = omega arith
      by false = pushed_grow s (g.listed (g.look a)) (asked_for g p a k)

  pub ways_grow : (p : P) (ys : List (Way P S A)) (k : Pile P S A O E M) → length (take_ways g p ys k).stack ≤ length k.stack + widths g ys
  unfolding take_ways widths
  ways_grow p [] k = omega arith
  ways_grow p (y ∷ ys) k = omega (arith, ways_grow p ys (take_way g p y k), way_grows p y k)
