-- One turn of the walk, and the walk as its repetition: document 01, section "Executor and walk", sentence by sentence.
-- Assumes nothing.
use Rattle.std.specs.Prelude.{ℕ, zero, suc, ◌+◌, ◌-◌, ◌*◌, ◌≡◌, Bool, true, false, ◌||◌, ◌&&◌, not, List, [], ◌∷◌, ◌++◌, length, ltb}
use Rattle.words.specs.Choice.{pick}
use Rattle.stack.specs.Sort.{sort_by}
use Rattle.visited.specs.Bits.{visited_at, with_bit, cleared, ones_below}
use Rattle.turns.specs.Grounds.{Way, to, table, Move, Spot, idle, busy, begun, stepped, looked, Ground, Pile, Conf, pile_of, conf, told, restacked, on_spot, on_move}

-- the last of a list, with those before it
unfoldable pub on_last : {A B : Type 0} → List A → B → (List A → A → B) → B
on_last [] z f = z
on_last (x ∷ l) z f = on_last l (f [] x) (λ m y. f (x ∷ m) y)

module _ {P S A O E M : Type 0} (g : Ground P S A O E M) where
  -- "Visited bits stand for Code words in section order"
  abbrev pub seen : List ℕ → P → Bool
  seen v p = visited_at v (g.number p)

  -- "All its pushes are sorted", "Sorted push is stable"; 5 while all slots are held
  abbrev pub push_onto : P → S → Pile P S A O E M → Pile P S A O E M
  push_onto q s k =
      pick (ltb (length k.stack) g.slots)
      (pile_of (sort_by g.key (k.stack ++ (g.entry q s ∷ []))) k.full k.log (g.pushing k.lent (length k.stack) q s))
      (pile_of k.stack true k.log k.lent)

  -- only an aligned code address is pushed; "In a walk 5 ends it": after that nothing is
  abbrev pub push_at : P → S → Pile P S A O E M → Pile P S A O E M
  push_at q s k = pick (not k.full && g.is_word q) (push_onto q s k) k

  -- each of some places in order, with the same state
  unfoldable pub push_each : S → List P → Pile P S A O E M → Pile P S A O E M
  push_each s [] k = k
  push_each s (q ∷ qs) k = push_each s qs (push_at q s k)

  -- the word at p asks for a table: it is told, read or not
  abbrev pub asked_for : P → A → Pile P S A O E M → Pile P S A O E M
  asked_for p a k = pile_of k.stack k.full (looked p a (g.look a) ∷ k.log) (g.reading k.lent a (g.look a))

  -- "such entries are pushed ascending with that state"; after a refused push no later target is looked at
  unfoldable pub take_way : P → Way P S A → Pile P S A O E M → Pile P S A O E M
  take_way p (to q s) k = push_at q s k
  take_way p (table a s) k = pick k.full k (push_each s (g.listed (g.look a)) (asked_for p a k))

  -- "push each such target in order, linked ones too, each with its own state"; "A table, .. in its turn a Branch's"
  unfoldable pub take_ways : P → List (Way P S A) → Pile P S A O E M → Pile P S A O E M
  take_ways p [] k = k
  take_ways p (y ∷ ys) k = take_ways p ys (take_way p y k)

  -- "the highest address pops first, the latest push among equals"; "A popped visited state is skipped"; another begins a block
  abbrev pub pop_of : Conf P S A O E M → Conf P S A O E M
  pop_of c =
      on_last c.pile.stack c (λ es e.
      pick (seen c.vis (g.place e))
      (conf idle (restacked es c.pile) c.vis)
      (conf (busy (g.place e) (g.state e)) (told (begun (g.place e)) (restacked es c.pile)) c.vis))

  -- "Jump to a visited word ends the block"; to an unvisited word of code it begins one
  abbrev pub jump_to : P → S → Pile P S A O E M → List ℕ → Conf P S A O E M
  jump_to q s k v = pick (g.is_word q && not (seen v q)) (conf (busy q s) (told (begun q) k) v) (conf idle k v)

  -- what follows the step of the word at p; "Continue doesn't test the next word"
  abbrev pub moved : Move P S A → P → Pile P S A O E M → List ℕ → Conf P S A O E M
  moved m p k v =
      on_move m
      (λ s. conf (busy (g.next p) s) k v)
      (λ q s. jump_to q s k v)
      (λ ys. conf idle (take_ways p ys k) v)

  -- the word at p is marked and stepped from the state s
  abbrev pub step_at : P → S → Pile P S A O E M → List ℕ → Conf P S A O E M
  step_at p s k v = moved (g.move p s) p (told (stepped p (not (seen v p)) s) k) (with_bit v (g.number p))

  -- one turn; "past the section's end the run ends and the stack stays"
  abbrev pub turn_of : Conf P S A O E M → Conf P S A O E M
  turn_of c =
      on_spot c.spot (pop_of c)
      (λ p s. pick (g.is_word p) (step_at p s c.pile c.vis) (conf idle c.pile c.vis))

  -- "run until the stack is empty"; "In a walk 5 ends it"
  abbrev pub ended : Conf P S A O E M → Bool
  ended c = c.pile.full || on_spot c.spot (on_last c.pile.stack true (λ es e. false)) (λ p s. false)

  -- c goes to d in some turns
  pub data Reach : Conf P S A O E M → Conf P S A O E M → Type 0 where
    here : {c : Conf P S A O E M} → Reach c c
    more : {c d : Conf P S A O E M} → ended c ≡ false → Reach (turn_of c) d → Reach c d

  -- so many turns, or fewer where it ends
  unfoldable pub run : ℕ → Conf P S A O E M → Conf P S A O E M
  run zero c = c
  run (suc n) c = pick (ended c) c (run n (turn_of c))

  -- how many words are left before the code's end
  abbrev pub ahead : Spot P S → ℕ
  ahead sp = on_spot sp 0 (λ p s. pick (g.is_word p) (g.words - g.number p) 0)

  -- an unvisited word runs
  abbrev pub pending : Spot P S → List ℕ → Bool
  pending sp v = on_spot sp false (λ p s. g.is_word p && not (seen v p))

  -- a running word that was unvisited weighs nothing, another what is left of the code
  abbrev pub weight : Spot P S → List ℕ → ℕ
  weight sp v = on_spot sp 0 (λ p s. pick (g.is_word p && not (seen v p)) 0 (g.most + 2 + ahead sp))

  -- more turns than a walk has left, but for what waits
  abbrev pub left_in : Spot P S → List ℕ → ℕ
  left_in sp v = (g.words - ones_below v g.words) * (g.words + g.most + 3) + weight sp v

  -- more turns than a walk has left
  abbrev pub left : Conf P S A O E M → ℕ
  left c = left_in c.spot c.vis + length c.pile.stack

  -- the walk, as a function of where it starts
  unfoldable pub walk_of : Conf P S A O E M → Conf P S A O E M
  walk_of c = run (left c) c

  -- "clear the W bits and stack, push each start with a fresh state"
  abbrev pub start_of : List P → S → M → List ℕ → Conf P S A O E M
  start_of starts s m v = conf idle (push_each s starts (pile_of [] false [] m)) (cleared v g.words)

  -- the whole walk from its starts
  abbrev pub walk_from : List P → S → M → List ℕ → Conf P S A O E M
  walk_from starts s m v = walk_of (start_of starts s m v)
