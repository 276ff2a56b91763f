-- A turn keeps what the counts promise.
-- Assumes a lawful ground and a map with a bit for each word.
use Prim.Native.Nat.{ℕ, ◌+◌, ◌-◌, ◌*◌, ◌≤◌, ◌<◌}
use mathlib.Core.Path.{◌≡◌, refl, ◌∙◌}
use mathlib.Core.Bool.{Bool, true, false, ◌||◌, ◌&&◌, not, true≢false}
use mathlib.Core.List.{List, [], ◌∷◌, ◌++◌}
use native.Mathlib.Omega.{arith}
use lib.ListN.{length}
use Rattle.words.specs.Choice.{pick}
use Rattle.search.proofs.EveryLaws.{and_left}
use Rattle.visited.specs.Bits.{with_bit, ones_below}
use Rattle.visited.proofs.BitLaws.{inserted_length}
use Rattle.turns.specs.Grounds.{Way, Move, on, jump, leave, Spot, idle, busy, begun, stepped, Ground, Pile, Conf, conf, told, restacked, on_move}
use Rattle.turns.specs.Turns.{on_last, seen, take_ways, moved, jump_to, step_at, turn_of, ended, ahead, pending, left}
use Rattle.turns.specs.Histories.{one, total, steps, first_visits, blocks, tables}
use Rattle.turns.proofs.Lists.{Each, each_first, each_last, on_last_lem, Ends, empty, last, ends}
use Rattle.turns.proofs.Lawful.{Lawful}
use Rattle.turns.proofs.Pushes.{AtWord, ways_wait, ways_tell, ways_ask}
use Rattle.turns.proofs.Measure.{ones_after, nearer, busy_less, pop_less}

module _ {P S A O E M : Type 0} (g : Ground P S A O E M) (n : ℕ) where
  -- what holds wherever a walk stands, n the words of its map
  pub record Sound (c : Conf P S A O E M) : Type 0 where
    pub map_length : length c.vis ≡ n
    pub waiting : Each (AtWord g) c.pile.stack
    pub counted : first_visits c.pile.log ≡ ones_below c.vis g.words
    pub once : blocks c.pile.log ≤ first_visits c.pile.log + one (pending g c.spot c.vis)
    pub short : steps c.pile.log + ahead g c.spot ≤ g.words * blocks c.pile.log
    pub asked : tables c.pile.log ≤ 2 * steps c.pile.log

  pub record Turned (c d : Conf P S A O E M) : Type 0 where
    pub sound : Sound d
    pub less : left g d < left g c

module _ {P S A O E M : Type 0} (g : Ground P S A O E M) (n : ℕ) (laws : Lawful g) (bits : g.words ≤ n * 32) where
  -- nothing runs: the top is taken
  popped : (es : List E) (e : E) (k : Pile P S A O E M) (v : List ℕ) → Sound g n (conf idle (restacked (es ++ (e ∷ [])) k) v)
      → (t : Bool) → seen g v (g.place e) ≡ t
      → Sound g n (pick t (conf idle (restacked es k) v) (conf (busy (g.place e) (g.state e)) (told (begun (g.place e)) (restacked es k)) v))
  unfolding total
  popped es e k v s true q = record {
    map_length = s.map_length;
    waiting = each_first (AtWord g) es (e ∷ []) s.waiting;
    counted = s.counted;
    once = s.once;
    short = s.short;
    asked = s.asked;
  }
  popped es e k v s false q =
      let word = each_last (AtWord g) es e s.waiting in
      record {
        map_length = s.map_length;
        waiting = each_first (AtWord g) es (e ∷ []) s.waiting;
        counted = omega (arith, s.counted);
        once = rw (word, q) (omega (arith, s.once));
        short = rw word (omega (arith, s.short));
        asked = omega (arith, s.asked);
      }

  -- a word is stepped
  module _ (p : P) (s : S) (k : Pile P S A O E M) (v : List ℕ) (h : Sound g n (conf (busy p s) k v)) (word : g.is_word p ≡ true) where
    abbrev new : Bool
    new = not (seen g v p)

    abbrev v' : List ℕ
    v' = with_bit v (g.number p)

    abbrev k' : Pile P S A O E M
    k' = told (stepped p new s) k

    fits : g.words ≤ length v * 32
    fits = omega (arith, h.map_length)

    map_length' : length v' ≡ n
    map_length' = inserted_length v (g.number p) ∙ h.map_length

    counted' : first_visits k'.log ≡ ones_below v' g.words
    unfolding total
    counted' = omega (arith, ones_after g laws p s v fits word, h.counted)

    once' : blocks k'.log ≤ first_visits k'.log
    unfolding total
    once' = let o = rw word at h.once in omega arith

    short' : steps k'.log + (g.words - (g.number p + 1)) ≤ g.words * blocks k'.log
    unfolding total
    short' = let o = rw word at h.short in omega (arith, laws.below p word)

    asked' : tables k'.log + 2 ≤ 2 * steps k'.log
    unfolding total
    asked' = omega (arith, h.asked)

    goes_on : (t : S) → Sound g n (conf (busy (g.next p) t) k' v')
    goes_on t = record {
      map_length = map_length';
      waiting = h.waiting;
      counted = counted';
      once = omega (arith, once');
      short = omega (arith, short', nearer g laws p s v fits word t);
      asked = omega (arith, asked');
    }

    block_ends : Sound g n (conf idle k' v')
    block_ends = record {
      map_length = map_length';
      waiting = h.waiting;
      counted = counted';
      once = omega (arith, once');
      short = omega (arith, short');
      asked = omega (arith, asked');
    }

    block_begins : (q : P) (t : S) → (g.is_word q && not (seen g v' q)) ≡ true → Sound g n (conf (busy q t) (told (begun q) k') v')
    unfolding total
    block_begins q t e = record {
      map_length = map_length';
      waiting = h.waiting;
      counted = omega (arith, counted');
      once = rw e (omega (arith, once'));
      short = rw (and_left (g.is_word q) (not (seen g v' q)) e) (omega (arith, short'));
      asked = omega (arith, asked');
    }

    jumps : (q : P) (t : S) → Sound g n (jump_to g q t k' v')
    jumps q t = by (g.is_word q && not (seen g v' q)) refl
      where
        by : (r : Bool) → (g.is_word q && not (seen g v' q)) ≡ r → Sound g n (pick r (conf (busy q t) (told (begun q) k') v') (conf idle k' v'))
        by true e = block_begins q t e
        by false e = block_ends

    leaves : (ys : List (Way P S A)) → length ys ≤ 2 → Sound g n (conf idle (take_ways g p ys k') v')
    unfolding total
    leaves ys b =
        let f = ways_tell g first_visits (λ q a o l. omega arith) p ys k' in
        let u = ways_tell g blocks (λ q a o l. omega arith) p ys k' in
        let w = ways_tell g steps (λ q a o l. omega arith) p ys k' in
        record {
          map_length = map_length';
          waiting = ways_wait g laws.place_kept p ys k' h.waiting;
          counted = f ∙ counted';
          once = omega (arith, once');
          short = rw (u, w) (omega (arith, short'));
          asked = omega (arith, asked', ways_ask g p ys k');
        }

    goes : (m : Move P S A) → on_move m (λ t. 0) (λ q t. 0) (length {A = Way P S A}) ≤ 2 → Sound g n (moved g m p k' v')
    goes (on t) b = goes_on t
    goes (jump q t) b = jumps q t
    goes (leave ys) b = leaves ys b

  -- past the section's end
  past : (p : P) (s : S) (k : Pile P S A O E M) (v : List ℕ) → Sound g n (conf (busy p s) k v) → g.is_word p ≡ false → Sound g n (conf idle k v)
  past p s k v h e =
      record { map_length = h.map_length; waiting = h.waiting; counted = h.counted; once = rw e at h.once; short = rw e at h.short; asked = h.asked }

  pub turned : (c : Conf P S A O E M) → Sound g n c → ended g c ≡ false → Turned g n c (turn_of g c)
  unfolding on_last
  turned c h e = at_spot c.spot h e
    where
      never : (t : Bool) → (t || true) ≡ false → ⊥
      never true e = true≢false e
      never false e = true≢false e

      at_top : (st : List E) → Ends st → Sound g n (conf idle (restacked st c.pile) c.vis) → ended g (conf idle (restacked st c.pile) c.vis) ≡ false
          → Turned g n (conf idle (restacked st c.pile) c.vis) (turn_of g (conf idle (restacked st c.pile) c.vis))
      at_top [] empty h e = absurd (never c.pile.full e)
      at_top _ (last es x) h e =
          rw (on_last_lem es x) (record {
            sound = popped es x c.pile c.vis h (seen g c.vis (g.place x)) refl;
            less = pop_less g laws es x c.pile c.vis (each_last (AtWord g) es x h.waiting) (seen g c.vis (g.place x)) refl;
          })

      at_word : (p : P) (s : S) → Sound g n (conf (busy p s) c.pile c.vis) → (t : Bool) → g.is_word p ≡ t
          → Sound g n (pick t (step_at g p s c.pile c.vis) (conf idle c.pile c.vis))
      at_word p s h true q = goes p s c.pile c.vis h q (g.move p s) (laws.two p s)
      at_word p s h false q = past p s c.pile c.vis h q

      at_spot : (sp : Spot P S) → Sound g n (conf sp c.pile c.vis) → ended g (conf sp c.pile c.vis) ≡ false
          → Turned g n (conf sp c.pile c.vis) (turn_of g (conf sp c.pile c.vis))
      at_spot idle h e = at_top c.pile.stack (ends c.pile.stack) h e
      at_spot (busy p s) h e = record {
        sound = at_word p s h (g.is_word p) refl;
        less = busy_less g laws p s c.pile c.vis (omega (arith, h.map_length));
      }
