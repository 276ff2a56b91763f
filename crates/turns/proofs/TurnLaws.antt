-- What each turn comes to, case by case, for code that takes it.
-- Assumes nothing beyond each law's own conditions.
use Prim.Native.Nat.{ℕ, ◌≤◌, ◌<◌}
use mathlib.Core.Path.{◌≡◌, refl, sym}
use mathlib.Core.Bool.{Bool, true, false, ◌||◌, ◌&&◌, not, true≢false}
use mathlib.Core.List.{List, [], ◌∷◌, ◌++◌}
use lib.ListN.{length}
use borrow.Author.Tests.{lt-ltb, le-ltb}
use Rattle.visited.specs.Bits.{with_bit}
use Rattle.turns.specs.Grounds.{Way, to, table, on, jump, leave, Spot, idle, busy, begun, stepped, Ground, Pile, Conf, conf, told, restacked, on_spot}
use Rattle.turns.specs.Turns.{on_last, seen, push_at, push_each, asked_for, take_way, take_ways, turn_of, ended}
use Rattle.turns.proofs.Lists.{on_last_lem, no_last}
use Rattle.turns.proofs.Pushes.{grown, refused}

module _ {P S A O E M : Type 0} (g : Ground P S A O E M) where
  -- a running word
  module _ (p : P) (s : S) (k : Pile P S A O E M) (v : List ℕ) where
    abbrev pub after_step : Pile P S A O E M
    after_step = told (stepped p (not (seen g v p)) s) k

    abbrev pub marked_map : List ℕ
    marked_map = with_bit v (g.number p)

    pub turn_past : g.is_word p ≡ false → turn_of g (conf (busy p s) k v) ≡ conf idle k v
    turn_past w = rw w

    pub turn_on : (t : S) → g.is_word p ≡ true → g.move p s ≡ on t → turn_of g (conf (busy p s) k v) ≡ conf (busy (g.next p) t) after_step marked_map
    turn_on t w e = rw (w, e)

    pub turn_jump : (q : P) (t : S) → g.is_word p ≡ true → g.move p s ≡ jump q t → g.is_word q ≡ true → seen g marked_map q ≡ false
        → turn_of g (conf (busy p s) k v) ≡ conf (busy q t) (told (begun q) after_step) marked_map
    turn_jump q t w e x o = rw (w, e, x, o)

    pub turn_jump_old : (q : P) (t : S) → g.is_word p ≡ true → g.move p s ≡ jump q t → g.is_word q ≡ true → seen g marked_map q ≡ true
        → turn_of g (conf (busy p s) k v) ≡ conf idle after_step marked_map
    turn_jump_old q t w e x o = rw (w, e, x, o)

    pub turn_jump_out : (q : P) (t : S) → g.is_word p ≡ true → g.move p s ≡ jump q t → g.is_word q ≡ false
        → turn_of g (conf (busy p s) k v) ≡ conf idle after_step marked_map
    turn_jump_out q t w e x = rw (w, e, x)

    pub turn_leave : (ys : List (Way P S A)) → g.is_word p ≡ true → g.move p s ≡ leave ys
        → turn_of g (conf (busy p s) k v) ≡ conf idle (take_ways g p ys after_step) marked_map
    turn_leave ys w e = rw (w, e)

    pub busy_goes : k.full ≡ false → ended g (conf (busy p s) k v) ≡ false
    busy_goes f = rw f

  -- the top of the stack
  module _ (es : List E) (e : E) (k : Pile P S A O E M) (v : List ℕ) where
    pub turn_pop_old : seen g v (g.place e) ≡ true → turn_of g (conf idle (restacked (es ++ (e ∷ [])) k) v) ≡ conf idle (restacked es k) v
    turn_pop_old o = rw (on_last_lem es e) (rw o)

    pub turn_pop_new : seen g v (g.place e) ≡ false
        → turn_of g (conf idle (restacked (es ++ (e ∷ [])) k) v) ≡ conf (busy (g.place e) (g.state e)) (told (begun (g.place e)) (restacked es k)) v
    turn_pop_new o = rw (on_last_lem es e) (rw o)

    pub top_goes : k.full ≡ false → ended g (conf idle (restacked (es ++ (e ∷ [])) k) v) ≡ false
    top_goes f = rw (f, on_last_lem es e)

  -- where it ends
  pub ends_full : (sp : Spot P S) (k : Pile P S A O E M) (v : List ℕ) → k.full ≡ true → ended g (conf sp k v) ≡ true
  ends_full sp k v f = rw f

  pub ends_empty : (k : Pile P S A O E M) (v : List ℕ) → k.stack ≡ [] → ended g (conf idle k v) ≡ true
  unfolding on_last
  ends_empty k v e = rw e (or_true k.full)
    where
      or_true : (t : Bool) → (t || true) ≡ true
      or_true true = refl
      or_true false = refl

  -- and what an end without a refusal means
  pub ended_empty : (c : Conf P S A O E M) → c.pile.full ≡ false → ended g c ≡ true → c.pile.stack ≡ []
  ended_empty c f e = at c.spot (rw f at e)
    where
      at : (sp : Spot P S) → on_spot sp (on_last c.pile.stack true (λ es x. false)) (λ p s. false) ≡ true → c.pile.stack ≡ []
      at idle q = no_last c.pile.stack q
      at (busy p s) q = absurd (true≢false (sym q))

  and_false : (t : Bool) → (t && false) ≡ false
  and_false true = refl
  and_false false = refl

  -- a push
  module _ (q : P) (s : S) (k : Pile P S A O E M) where
    pub push_out : g.is_word q ≡ false → push_at g q s k ≡ k
    push_out w = rw (w, and_false (not k.full))

    pub push_taken : k.full ≡ false → g.is_word q ≡ true → length k.stack < g.slots → push_at g q s k ≡ grown g q s k
    push_taken f w l = rw (w, lt-ltb (length k.stack) g.slots l, f)

    pub push_refused : k.full ≡ false → g.is_word q ≡ true → g.slots ≤ length k.stack → push_at g q s k ≡ refused g k
    push_refused f w l = rw (w, le-ltb (length k.stack) g.slots l, f)

    pub push_after_full : k.full ≡ true → push_at g q s k ≡ k
    push_after_full f = rw f

  -- after a refused push nothing more is pushed or looked at
  pub pushes_after_full : (s : S) (qs : List P) (k : Pile P S A O E M) → k.full ≡ true → push_each g s qs k ≡ k
  unfolding push_each
  pushes_after_full s [] k f = refl
  pushes_after_full s (q ∷ qs) k f = rw (push_after_full q s k f) (pushes_after_full s qs k f)

  pub way_after_full : (p : P) (y : Way P S A) (k : Pile P S A O E M) → k.full ≡ true → take_way g p y k ≡ k
  unfolding take_way
  way_after_full p (to q s) k f = push_after_full q s k f
  way_after_full p (table a s) k f = rw f

  pub ways_after_full : (p : P) (ys : List (Way P S A)) (k : Pile P S A O E M) → k.full ≡ true → take_ways g p ys k ≡ k
  unfolding take_ways
  ways_after_full p [] k f = refl
  ways_after_full p (y ∷ ys) k f = rw (way_after_full p y k f) (ways_after_full p ys k f)

  -- a table before that
  pub table_asked : (p : P) (a : A) (s : S) (k : Pile P S A O E M) → k.full ≡ false
      → take_way g p (table a s) k ≡ push_each g s (g.listed (g.look a)) (asked_for g p a k)
  unfolding take_way
  table_asked p a s k f = rw f
