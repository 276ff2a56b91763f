-- What a walk depends on: a second ground, whose words and tables agree with the first on all that the first walk's history has, is
-- walked alike, history included. Assumes that both are lawful.
use Prim.Native.Nat.{ℕ, ◌*◌, ◌≤◌}
use mathlib.Core.Path.{◌≡◌, refl, sym, ap, ◌∙◌, subst}
use mathlib.Core.Bool.{Bool, true, false, ◌&&◌, not}
use mathlib.Core.List.{List, [], ◌∷◌}
use lib.ListN.{length}
use Rattle.words.specs.Choice.{pick}
use Rattle.visited.specs.Bits.{with_bit}
use Rattle.turns.specs.Grounds.{Way, to, table, Move, on, jump, leave, Spot, idle, busy, Event, begun, stepped, looked, Ground, Pile, Conf, pile_of, conf, told, restacked}
use Rattle.turns.specs.Turns.{on_last, seen, push_at, push_each, asked_for, take_way, take_ways, moved, step_at, turn_of, Reach, here, more, start_of, walk_from}
use Rattle.turns.proofs.Lists.{Each, on_last_lem, Ends, empty, last, ends}
use Rattle.turns.proofs.Lawful.{Lawful}
use Rattle.turns.proofs.Pushes.{push_silent, pushes_silent}
use Rattle.turns.proofs.WalkEnds.{walk_reached, ends_as_walk}
use Rattle.turns.proofs.Starts.{start_sound, ends_on_any_input}

module _ {P S A O E M : Type 0} (g : Ground P S A O E M) (move : P → S → Move P S A) (look : A → O) where
  -- the same ground with other words and other tables
  abbrev pub second : Ground P S A O E M
  second = record {
    words = g.words;
    slots = g.slots;
    most = g.most;
    is_word = g.is_word;
    number = g.number;
    next = g.next;
    entry = g.entry;
    place = g.place;
    state = g.state;
    key = g.key;
    move = move;
    look = look;
    is_read = g.is_read;
    listed = g.listed;
    pushing = g.pushing;
    reading = g.reading;
  }

  -- the word stepped asks the same in both, and so does the table
  abbrev pub Agrees : Event P S A O → Type 0
  Agrees (begun p) = Unit
  Agrees (stepped p t s) = g.move p s ≡ move p s
  Agrees (looked p a o) = g.look a ≡ look a

  abbrev pub Agree : List (Event P S A O) → Type 0
  Agree l = Each Agrees l

  pushes_alike : (s : S) (qs : List P) (k : Pile P S A O E M) → push_each second s qs k ≡ push_each g s qs k
  unfolding push_each
  pushes_alike s [] k = refl
  pushes_alike s (q ∷ qs) k = pushes_alike s qs (push_at g q s k)

  -- a table with an outcome
  abbrev tabled : P → A → S → Pile P S A O E M → O → Pile P S A O E M
  tabled p a s k o = push_each g s (g.listed o) (pile_of k.stack k.full (looked p a o ∷ k.log) (g.reading k.lent a o))

  way_alike : (p : P) (y : Way P S A) (k : Pile P S A O E M) → Agree (take_way g p y k).log
      → Agree k.log × (take_way second p y k ≡ take_way g p y k)
  unfolding take_way Each
  way_alike p (to q s) k a = (subst Agree (push_silent g q s k) a, refl)
  way_alike p (table b s) k a = by k.full a
    where
      by : (t : Bool) → Agree (pick t k (tabled p b s k (g.look b))).log
          → Agree k.log × (pick t k (push_each second s (g.listed (look b)) (asked_for second p b k)) ≡ pick t k (tabled p b s k (g.look b)))
      by true x = (x, refl)
      by false x =
          let z = subst Agree (pushes_silent g s (g.listed (g.look b)) (asked_for g p b k)) x in
          (z.1, pushes_alike s (g.listed (look b)) (asked_for second p b k) ∙ ap (tabled p b s k) (sym z.0))

  ways_alike : (p : P) (ys : List (Way P S A)) (k : Pile P S A O E M) → Agree (take_ways g p ys k).log
      → Agree k.log × (take_ways second p ys k ≡ take_ways g p ys k)
  unfolding take_ways
  ways_alike p [] k a = (a, refl)
  ways_alike p (y ∷ ys) k a =
      let r = ways_alike p ys (take_way g p y k) a in
      let w = way_alike p y k r.0 in
      (w.0, ap (take_ways second p ys) w.1 ∙ r.1)

  moved_alike : (m : Move P S A) (p : P) (k : Pile P S A O E M) (v : List ℕ) → Agree (moved g m p k v).pile.log
      → Agree k.log × (moved second m p k v ≡ moved g m p k v)
  unfolding Each
  moved_alike (on s) p k v a = (a, refl)
  moved_alike (jump q s) p k v a = (by (g.is_word q && not (seen g v q)) a, refl)
    where
      by : (t : Bool) → Agree (pick t (conf (busy q s) (told (begun q) k) v) (conf idle k v)).pile.log → Agree k.log
      by true x = x.1
      by false x = x
  moved_alike (leave ys) p k v a =
      let w = ways_alike p ys k a in
      (w.0, ap (λ (j : Pile P S A O E M). conf idle j v) w.1)

  turn_alike : (c : Conf P S A O E M) → Agree (turn_of g c).pile.log → Agree c.pile.log × (turn_of second c ≡ turn_of g c)
  unfolding Each on_last
  turn_alike c a = at_spot c.spot a
    where
      popped : (es : List E) (e : E) (t : Bool) → Agree (pick t (conf idle (restacked es c.pile) c.vis)
          (conf (busy (g.place e) (g.state e)) (told (begun (g.place e)) (restacked es c.pile)) c.vis)).pile.log → Agree c.pile.log
      popped es e true x = x
      popped es e false x = x.1

      at_top : (st : List E) → Ends st → Agree (turn_of g (conf idle (restacked st c.pile) c.vis)).pile.log → Agree c.pile.log
      at_top [] empty x = x
      at_top _ (last es e) x = popped es e (seen g c.vis (g.place e)) (rw (on_last_lem es e) at x)

      at_word : (p : P) (s : S) (t : Bool) → Agree (pick t (step_at g p s c.pile c.vis) (conf idle c.pile c.vis)).pile.log
          → Agree c.pile.log × (pick t (step_at second p s c.pile c.vis) (conf idle c.pile c.vis)
          ≡ pick t (step_at g p s c.pile c.vis) (conf idle c.pile c.vis))
      at_word p s false x = (x, refl)
      at_word p s true x =
          let k = told (stepped p (not (seen g c.vis p)) s) c.pile in
          let v = with_bit c.vis (g.number p) in
          let y = moved_alike (g.move p s) p k v x in
          (y.0.1, ap (λ (m : Move P S A). moved second m p k v) (sym y.0.0) ∙ y.1)

      at_spot : (sp : Spot P S) → Agree (turn_of g (conf sp c.pile c.vis)).pile.log
          → Agree c.pile.log × (turn_of second (conf sp c.pile c.vis) ≡ turn_of g (conf sp c.pile c.vis))
      at_spot idle x = (at_top c.pile.stack (ends c.pile.stack) x, refl)
      at_spot (busy p s) x = at_word p s (g.is_word p) x

  back : {c d : Conf P S A O E M} → Reach g c d → Agree d.pile.log → Agree c.pile.log
  back here a = a
  back (more {c} {d} e r) a = (turn_alike c (back r a)).0

  -- the second goes where the first goes
  pub goes_alike : {c d : Conf P S A O E M} → Reach g c d → Agree d.pile.log → Reach second c d
  goes_alike here a = here
  goes_alike (more {c} {d} e r) a =
      more e (subst (λ (x : Conf P S A O E M). Reach second x d) (sym (turn_alike c (back r a)).1) (goes_alike r a))

  -- "the second walk gives the same bits, counts, tables"
  pub walks_alike : (laws : Lawful g) (laws' : Lawful second) (starts : List P) (s : S) (m : M) (v : List ℕ) → g.words ≤ length v * 32
      → Agree (walk_from g starts s m v).pile.log → walk_from second starts s m v ≡ walk_from g starts s m v
  walks_alike laws laws' starts s m v bits a =
      let same : start_of second starts s m v ≡ start_of g starts s m v =
      ap (λ (k : Pile P S A O E M). conf idle k (start_of g starts s m v).vis) (pushes_alike s starts (pile_of [] false [] m)) in
      let r = goes_alike (walk_reached g (start_of g starts s m v)) a in
      ends_as_walk second (length v) laws' bits
      (subst (λ (x : Conf P S A O E M). Reach second x (walk_from g starts s m v)) (sym same) r)
      (start_sound second laws' starts s m v bits)
      (ends_on_any_input g laws starts s m v bits)
