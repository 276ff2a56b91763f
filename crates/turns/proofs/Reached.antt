-- Nothing is made up: every place that runs, waits, is stepped or is visited was reached from a start, with the state it has.
-- Assumes a lawful ground.
use Prim.Native.Nat.{ℕ, ◌<◌}
use mathlib.Core.Path.{◌≡◌, refl, sym, ◌∙◌}
use mathlib.Core.Bool.{Bool, true, false, ◌&&◌, not}
use mathlib.Core.List.{List, [], ◌∷◌, ◌++◌, Memᴰ}
use native.Mathlib.Decide.{ℕ_discrete}
use native.Mathlib.Omega.{arith}
use Rattle.words.specs.Choice.{pick}
use Rattle.visited.specs.Bits.{bit_at, with_bit}
use Rattle.visited.proofs.BitLaws.{insert_changes_no_other}
use Rattle.visited.proofs.Clearing.{cleared_below}
use Rattle.turns.specs.Grounds.{Way, to, table, Move, on, jump, leave, Spot, idle, busy, Event, begun, stepped, looked, Ground, Pile, Conf, pile_of, conf, told, restacked}
use Rattle.turns.specs.Turns.{on_last, seen, push_at, push_each, asked_for, take_way, take_ways, moved, step_at, turn_of, Reach, here, more, start_of, walk_from}
use Rattle.turns.specs.Histories.{next_word, jumped, went, listed, ReachedFrom, start, further}
use Rattle.turns.proofs.Lists.{Each, each_append, each_first, each_last, each_one, each_at, sort_each, on_last_lem, Ends, empty, last, ends}
use Rattle.turns.proofs.Lawful.{Lawful}
use Rattle.turns.proofs.Pushes.{by_push, ways_keep}
use Rattle.turns.proofs.WalkEnds.{walk_reached}

module _ {P S A O E M : Type 0} (g : Ground P S A O E M) (starts : List P) (s₀ : S) where
  -- a reached word asked for the table
  pub record Asking (p : P) (a : A) (o : O) : Type 0 where
    pub before : S
    pub after : S
    pub ways : List (Way P S A)
    pub reached : ReachedFrom g starts s₀ p before
    pub leaves : g.move p before ≡ leave ways
    pub among : Memᴰ (table a after) ways
    pub outcome : o ≡ g.look a

  -- an event that the code leads to
  abbrev pub Founded : Event P S A O → Type 0
  Founded (begun p) = (s : S) × ReachedFrom g starts s₀ p s
  Founded (stepped p t s) = ReachedFrom g starts s₀ p s × (g.is_word p ≡ true)
  Founded (looked p a o) = Asking p a o

  abbrev pub Waits : E → Type 0
  Waits e = ReachedFrom g starts s₀ (g.place e) (g.state e)

  pub record Piled (k : Pile P S A O E M) : Type 0 where
    pub waits : Each Waits k.stack
    pub tells : Each Founded k.log

  -- a step at the word with number b
  pub record Trace (b : ℕ) (l : List (Event P S A O)) : Type 0 where
    pub at : P
    pub new : Bool
    pub state : S
    pub there : Memᴰ (stepped at new state) l
    pub number : g.number at ≡ b

  -- every visited word was stepped
  abbrev pub Traced : List ℕ → List (Event P S A O) → Type 0
  Traced v l = (b : ℕ) → b < g.words → bit_at v b ≡ 1 → Trace b l

  -- what runs was reached
  abbrev pub Runs : Spot P S → Type 0
  Runs idle = Unit
  Runs (busy p s) = ReachedFrom g starts s₀ p s

  pub record Honest (c : Conf P S A O E M) : Type 0 where
    pub runs : Runs c.spot
    pub pile : Piled c.pile
    pub traced : Traced c.vis c.pile.log

  later : {b : ℕ} {l : List (Event P S A O)} (x : Event P S A O) → Trace b l → Trace b (x ∷ l)
  later x r = record { at = r.at; new = r.new; state = r.state; there = Memᴰ.tail r.there; number = r.number }

  trace_step : (v : List ℕ) (l : List (Event P S A O)) (p : P) (t : Bool) (s : S) → Traced v l → Traced (with_bit v (g.number p)) (stepped p t s ∷ l)
  trace_step v l p t s h b low e =
      elim (ℕ_discrete b (g.number p)) [
        | yes q ↦ record { at = p; new = t; state = s; there = Memᴰ.head refl; number = sym q }
        | no q ↦ later (stepped p t s) (h b low (sym (insert_changes_no_other v (g.number p) b q) ∙ e))
      ]

  trace_ways : (v : List ℕ) (p : P) (ys : List (Way P S A)) (k : Pile P S A O E M) → Traced v k.log → Traced v (take_ways g p ys k).log
  trace_ways v p ys k h =
      ways_keep g (λ (j : Pile P S A O E M). Traced v j.log)
      (λ q s j a. by_push g (λ (i : Pile P S A O E M). Traced v i.log) q s j a (λ e. a) a)
      (λ q a j f b low e. later (looked q a (g.look a)) (f b low e)) p ys k h

  told_piled : (x : Event P S A O) (k : Pile P S A O E M) → Founded x → Piled k → Piled (told x k)
  unfolding Each
  told_piled x k f h = record { waits = h.waits; tells = (f, h.tells) }

  module _ (laws : Lawful g) where
    kept : (q : P) (s : S) → ReachedFrom g starts s₀ q s → Waits (g.entry q s)
    kept q s r = rw (laws.place_kept q s, laws.state_kept q s) r

    push_piled : (q : P) (s : S) (k : Pile P S A O E M) → ReachedFrom g starts s₀ q s → Piled k → Piled (push_at g q s k)
    push_piled q s k r h =
        by_push g Piled q s k h
        (λ e. record {
          waits = sort_each Waits g.key (k.stack ++ (g.entry q s ∷ []))
              (each_append Waits k.stack (g.entry q s ∷ []) h.waits (each_one Waits (g.entry q s) (kept q s r)));
          tells = h.tells;
        })
        (record { waits = h.waits; tells = h.tells })

    pushes_piled : (s : S) (qs : List P) (k : Pile P S A O E M) → ((q : P) → Memᴰ q qs → ReachedFrom g starts s₀ q s) → Piled k
        → Piled (push_each g s qs k)
    unfolding push_each
    pushes_piled s [] k r h = h
    pushes_piled s (q ∷ qs) k r h =
        pushes_piled s qs (push_at g q s k) (λ x m. r x (Memᴰ.tail m)) (push_piled q s k (r q (Memᴰ.head refl)) h)

    -- the ways of a reached word
    module _ (p : P) (s : S) (zs : List (Way P S A)) (r : ReachedFrom g starts s₀ p s) (word : g.is_word p ≡ true) (asks : g.move p s ≡ leave zs) where
      way_piled : (y : Way P S A) → Memᴰ y zs → (k : Pile P S A O E M) → Piled k → Piled (take_way g p y k)
      unfolding take_way
      way_piled (to q t) m k h = push_piled q t k (further r word (went asks m)) h
      way_piled (table a t) m k h = by k.full
        where
          asking : Asking p a (g.look a)
          asking = record { before = s; after = t; ways = zs; reached = r; leaves = asks; among = m; outcome = refl }

          asked : Piled (asked_for g p a k)
          asked = record { waits = h.waits; tells = (told_piled (looked p a (g.look a)) k asking h).tells }

          by : (f : Bool) → Piled (pick f k (push_each g t (g.listed (g.look a)) (asked_for g p a k)))
          by true = h
          by false = pushes_piled t (g.listed (g.look a)) (asked_for g p a k) (λ q i. further r word (listed asks m i)) asked

      ways_piled : (ys : List (Way P S A)) → ((y : Way P S A) → Memᴰ y ys → Memᴰ y zs) → (k : Pile P S A O E M) → Piled k
          → Piled (take_ways g p ys k)
      unfolding take_ways
      ways_piled [] i k h = h
      ways_piled (y ∷ ys) i k h =
          ways_piled ys (λ x m. i x (Memᴰ.tail m)) (take_way g p y k) (way_piled y (i y (Memᴰ.head refl)) k h)

    -- a word is stepped
    module _ (p : P) (s : S) (k : Pile P S A O E M) (v : List ℕ) (h : Honest (conf (busy p s) k v)) (word : g.is_word p ≡ true) where
      abbrev k' : Pile P S A O E M
      k' = told (stepped p (not (seen g v p)) s) k

      abbrev v' : List ℕ
      v' = with_bit v (g.number p)

      piled' : Piled k'
      piled' = told_piled (stepped p (not (seen g v p)) s) k (h.runs, word) h.pile

      traced' : Traced v' k'.log
      traced' = trace_step v k.log p (not (seen g v p)) s h.traced

      goes : (m : Move P S A) → g.move p s ≡ m → Honest (moved g m p k' v')
      goes (on t) e = record { runs = further h.runs word (next_word e); pile = piled'; traced = traced' }
      goes (jump q t) e = by (g.is_word q && not (seen g v' q))
        where
          by : (f : Bool) → Honest (pick f (conf (busy q t) (told (begun q) k') v') (conf idle k' v'))
          by true = record {
            runs = further h.runs word (jumped e);
            pile = told_piled (begun q) k' (t, further h.runs word (jumped e)) piled';
            traced = λ b low z. later (begun q) (traced' b low z);
          }
          by false = record { runs = tt; pile = piled'; traced = traced' }
      goes (leave ys) e = record {
        runs = tt;
        pile = ways_piled p s ys h.runs word e ys (λ y m. m) k' piled';
        traced = trace_ways v' p ys k' traced';
      }

    honest_turn : (c : Conf P S A O E M) → Honest c → Honest (turn_of g c)
    unfolding on_last
    honest_turn c h = at_spot c.spot h
      where
        popped : (es : List E) (e : E) → Honest (conf idle (restacked (es ++ (e ∷ [])) c.pile) c.vis) → (t : Bool)
            → Honest (pick t (conf idle (restacked es c.pile) c.vis)
            (conf (busy (g.place e) (g.state e)) (told (begun (g.place e)) (restacked es c.pile)) c.vis))
        popped es e h true = record {
          runs = tt;
          pile = record { waits = each_first Waits es (e ∷ []) h.pile.waits; tells = h.pile.tells };
          traced = h.traced;
        }
        popped es e h false =
            let r = each_last Waits es e h.pile.waits in
            record {
              runs = r;
              pile = told_piled (begun (g.place e)) (restacked es c.pile) (g.state e, r)
                  (record { waits = each_first Waits es (e ∷ []) h.pile.waits; tells = h.pile.tells });
              traced = λ b low z. later (begun (g.place e)) (h.traced b low z);
            }

        at_top : (st : List E) → Ends st → Honest (conf idle (restacked st c.pile) c.vis) → Honest (turn_of g (conf idle (restacked st c.pile) c.vis))
        at_top [] empty h = h
        at_top _ (last es e) h = rw (on_last_lem es e) (popped es e h (seen g c.vis (g.place e)))

        at_word : (p : P) (s : S) → Honest (conf (busy p s) c.pile c.vis) → (t : Bool) → g.is_word p ≡ t
            → Honest (pick t (step_at g p s c.pile c.vis) (conf idle c.pile c.vis))
        at_word p s h true e = goes p s c.pile c.vis h e (g.move p s) refl
        at_word p s h false e = record { runs = tt; pile = h.pile; traced = h.traced }

        at_spot : (sp : Spot P S) → Honest (conf sp c.pile c.vis) → Honest (turn_of g (conf sp c.pile c.vis))
        at_spot idle h = at_top c.pile.stack (ends c.pile.stack) h
        at_spot (busy p s) h = at_word p s h (g.is_word p) refl

    honest_reach : {c d : Conf P S A O E M} → Reach g c d → Honest c → Honest d
    honest_reach here h = h
    honest_reach (more {c} {d} e r) h = honest_reach r (honest_turn c h)

    module _ (m : M) (v : List ℕ) where
      honest_start : Honest (start_of g starts s₀ m v)
      unfolding Each
      honest_start = record {
        runs = tt;
        pile = pushes_piled s₀ starts (pile_of [] false [] m) (λ q i. start i) (record { waits = tt; tells = tt });
        traced = λ b low e. absurd (let z : ⊥ = omega (arith, cleared_below v g.words b low) in z);
      }

      -- the whole walk makes nothing up
      pub nothing_made_up : Honest (walk_from g starts s₀ m v)
      nothing_made_up = honest_reach (walk_reached g (start_of g starts s₀ m v)) honest_start

      -- every visited word was stepped, and reached from a start
      pub visited_was_reached : (b : ℕ) → b < g.words → bit_at (walk_from g starts s₀ m v).vis b ≡ 1
          → (p : P) × (s : S) × ReachedFrom g starts s₀ p s × (g.is_word p ≡ true) × (g.number p ≡ b)
      visited_was_reached b low e =
          let r = nothing_made_up.traced b low e in
          let f = each_at Founded r.there nothing_made_up.pile.tells in
          (r.at, r.state, f.0, f.1, r.number)
