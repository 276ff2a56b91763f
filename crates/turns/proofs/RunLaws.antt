-- Runs inside a block, word by word, and a walk taken block by block: what the code's loops keep.
-- Assumes a lawful ground, a map with a bit for each word, and a sound beginning.
use Prim.Native.Nat.{ℕ, ◌+◌, ◌*◌, ◌≤◌, ◌<◌}
use mathlib.Core.Path.{◌≡◌, refl, sym, ◌∙◌, subst}
use mathlib.Core.Bool.{true, false, not}
use mathlib.Core.List.{List, [], ◌∷◌, ◌++◌, append_assoc}
use native.Mathlib.Nat.{le_refl, le_trans}
use native.Mathlib.Omega.{arith}
use lib.ListN.{length}
use Rattle.visited.specs.Bits.{with_bit}
use Rattle.visited.proofs.BitLaws.{inserted_length}
use Rattle.turns.specs.Grounds.{on, jump, idle, busy, Event, begun, stepped, Ground, Pile, Conf, pile_of, conf, told, restacked}
use Rattle.turns.specs.Turns.{seen, turn_of, Reach, here, left_in, left, walk_of}
use Rattle.turns.specs.Histories.{on_event, total}
use Rattle.turns.specs.Runs.{tells, Going}
use Rattle.turns.proofs.Lawful.{Lawful}
use Rattle.turns.proofs.Measure.{on_less, jump_less}
use Rattle.turns.proofs.Counts.{Sound}
use Rattle.turns.proofs.TurnLaws.{turn_on, turn_jump, turn_pop_old, turn_pop_new, busy_goes, top_goes, ends_full, ends_empty}
use Rattle.turns.proofs.WalkEnds.{then, one_more, onward, reach_sound, reach_left, ends_as_walk}

module _ {P S A O : Type 0} where
  -- a count of two histories, one after the other
  pub total_append : (f : Event P S A O → ℕ) (x l : List (Event P S A O)) → total f (x ++ l) ≡ total f x + total f l
  unfolding total
  total_append f [] l = omega arith
  total_append f (y ∷ x) l = omega (arith, total_append f x l)

  -- what an event counts
  abbrev steps_of : Event P S A O → ℕ
  steps_of x = on_event x (λ p. 0) (λ p t s. 1) (λ p a o. 0)

  abbrev blocks_of : Event P S A O → ℕ
  blocks_of x = on_event x (λ p. 1) (λ p t s. 0) (λ p a o. 0)

  abbrev tables_of : Event P S A O → ℕ
  tables_of x = on_event x (λ p. 0) (λ p t s. 0) (λ p a o. 1)

module _ {P S A O E M : Type 0} (g : Ground P S A O E M) where
  -- no turn yet
  pub going_here : (p : P) (s : S) (v : List ℕ) → Going g p s v p s v 0 0
  unfolding total
  going_here p s v = record { extra = []; goes = λ k f. here; stepped = refl; begun = refl; quiet = refl; map_length = refl; less = le_refl _ }

  -- one run after another
  pub going_then : {p q r : P} {s t x : S} {v u w : List ℕ} {n b m c : ℕ} → Going g p s v q t u n b → Going g q t u r x w m c
      → Going g p s v r x w (n + m) (b + c)
  going_then {p} {q} {r} {s} {t} {x} {v} {u} {w} first rest = record {
    extra = rest.extra ++ first.extra;
    goes = λ k f.
        subst (λ (l : List (Event P S A O)). Reach g (conf (busy p s) k v) (conf (busy r x) (pile_of k.stack k.full l k.lent) w))
        (sym (append_assoc rest.extra first.extra k.log))
        (then g (first.goes k f) (rest.goes (tells first.extra k) f));
    stepped = omega (arith, first.stepped, rest.stepped, total_append steps_of rest.extra first.extra);
    begun = omega (arith, first.begun, rest.begun, total_append blocks_of rest.extra first.extra);
    quiet = omega (arith, first.quiet, rest.quiet, total_append tables_of rest.extra first.extra);
    map_length = rest.map_length ∙ first.map_length;
    less = le_trans rest.less first.less;
  }

  module _ {p : P} {s : S} {v : List ℕ} {q : P} {t : S} {u : List ℕ} {n b : ℕ} (laws : Lawful g) (bits : g.words ≤ length v * 32)
      (r : Going g p s v q t u n b) (word : g.is_word q ≡ true) where
    still : g.words ≤ length u * 32
    still = omega (arith, r.map_length)

    -- a word that goes on
    pub going_on : (t' : S) → g.move q t ≡ on t' → Going g p s v (g.next q) t' (with_bit u (g.number q)) (n + 1) b
    unfolding total
    going_on t' e = record {
      extra = stepped q (not (seen g u q)) t ∷ r.extra;
      goes = λ k f.
          subst (λ (d : Conf P S A O E M). Reach g (conf (busy p s) k v) d) (turn_on g q t (tells r.extra k) u t' word e)
          (one_more g (r.goes k f) (busy_goes g q t (tells r.extra k) u f));
      stepped = omega (arith, r.stepped);
      begun = omega (arith, r.begun);
      quiet = omega (arith, r.quiet);
      map_length = inserted_length u (g.number q) ∙ r.map_length;
      less = omega (arith, r.less, on_less g laws q t u still word t');
    }

    -- a jump to an unvisited word brings the measure down
    pub jump_falls : (q' : P) (t' : S) → g.is_word q' ≡ true → seen g (with_bit u (g.number q)) q' ≡ false
        → left_in g (busy q' t') (with_bit u (g.number q)) < left_in g (busy p s) v
    jump_falls q' t' w o = omega (arith, r.less, jump_less g laws q t u still word q' t' w o)

    pub going_jump : (q' : P) (t' : S) → g.move q t ≡ jump q' t' → g.is_word q' ≡ true → seen g (with_bit u (g.number q)) q' ≡ false
        → Going g p s v q' t' (with_bit u (g.number q)) (n + 1) (b + 1)
    unfolding total
    going_jump q' t' e w o = record {
      extra = begun q' ∷ stepped q (not (seen g u q)) t ∷ r.extra;
      goes = λ k f.
          subst (λ (d : Conf P S A O E M). Reach g (conf (busy p s) k v) d) (turn_jump g q t (tells r.extra k) u q' t' word e w o)
          (one_more g (r.goes k f) (busy_goes g q t (tells r.extra k) u f));
      stepped = omega (arith, r.stepped);
      begun = omega (arith, r.begun);
      quiet = omega (arith, r.quiet);
      map_length = inserted_length u (g.number q) ∙ r.map_length;
      less = omega (arith, jump_falls q' t' w o);
    }

module _ {P S A O E M : Type 0} (g : Ground P S A O E M) (n : ℕ) (laws : Lawful g) (bits : g.words ≤ n * 32)
    {c : Conf P S A O E M} (h : Sound g n c) where
  -- a popped state at a visited word
  pub pops_old : (es : List E) (e : E) (k : Pile P S A O E M) (v : List ℕ) → Reach g c (conf idle (restacked (es ++ (e ∷ [])) k) v)
      → k.full ≡ false → seen g v (g.place e) ≡ true
      → Reach g c (conf idle (restacked es k) v) × (left g (conf idle (restacked es k) v) < left g (conf idle (restacked (es ++ (e ∷ [])) k) v))
  pops_old es e k v r f o =
      onward g n laws bits (conf idle (restacked es k) v) h r (top_goes g es e k v f) (turn_pop_old g es e k v o)

  -- a popped state at an unvisited word, and the run inside its block
  module _ (es : List E) (e : E) (k : Pile P S A O E M) (v : List ℕ) (r : Reach g c (conf idle (restacked (es ++ (e ∷ [])) k) v))
      (f : k.full ≡ false) (new : seen g v (g.place e) ≡ false)
      (q : P) (t : S) (u : List ℕ) (m b : ℕ) (line : Going g (g.place e) (g.state e) v q t u m b) where
    abbrev pub in_block : Pile P S A O E M
    in_block = tells line.extra (told (begun (g.place e)) (restacked es k))

    pub block_runs : Reach g c (conf (busy q t) in_block u) × (left g (conf (busy q t) in_block u) < left g (conf idle (restacked (es ++ (e ∷ [])) k) v))
    block_runs =
        let first = conf (busy (g.place e) (g.state e)) (told (begun (g.place e)) (restacked es k)) v in
        let o = onward g n laws bits first h r (top_goes g es e k v f) (turn_pop_new g es e k v new) in
        let rest = line.goes (told (begun (g.place e)) (restacked es k)) f in
        (then g o.0 rest, omega (arith, o.1, reach_left g n laws bits rest (reach_sound g n laws bits o.0 h)))

    -- the turn that ends the block
    pub block_ends : (j : Pile P S A O E M) (w : List ℕ) → turn_of g (conf (busy q t) in_block u) ≡ conf idle j w
        → Reach g c (conf idle j w) × (left g (conf idle j w) < left g (conf idle (restacked (es ++ (e ∷ [])) k) v))
    block_ends j w x =
        let o = onward g n laws bits (conf idle j w) h block_runs.0 (busy_goes g q t in_block u f) x in
        (o.0, omega (arith, o.1, block_runs.1))

  -- the walk is done
  pub done_full : (k : Pile P S A O E M) (v : List ℕ) → Reach g c (conf idle k v) → k.full ≡ true → walk_of g c ≡ conf idle k v
  done_full k v r f = ends_as_walk g n laws bits r h (ends_full g idle k v f)

  pub done_empty : (k : Pile P S A O E M) (v : List ℕ) → Reach g c (conf idle k v) → k.stack ≡ [] → walk_of g c ≡ conf idle k v
  done_empty k v r e = ends_as_walk g n laws bits r h (ends_empty g k v e)
