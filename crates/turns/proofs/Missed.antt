-- Nothing is missed: in a walk that is not stopped by 5, every start is visited, and every word of code that a stepped word leads to.
-- Assumes a lawful ground and a map with a bit for each word.
use Prim.Native.Nat.{ℕ, ◌*◌, ◌≤◌, ◌<◌}
use mathlib.Core.Path.{◌≡◌, refl, sym, ap, ◌∙◌, subst}
use mathlib.Core.Bool.{Bool, true, false, ◌&&◌, not, true≢false}
use mathlib.Core.Logic.{◌⊎◌, inl, inr}
use mathlib.Core.List.Memᴰ
use mathlib.Core.List.{List, [], ◌∷◌, ◌++◌, Memᴰ}
use native.Mathlib.Decide.{ℕ_discrete}
use native.Mathlib.Omega.{arith}
use lib.ListN.{length}
use borrow.Author.Tests.{eq-eqb, eqb-true}
use Rattle.words.specs.Choice.{pick}
use Rattle.visited.specs.Bits.{bit_at, visited_at, with_bit}
use Rattle.visited.proofs.BitLaws.{inserted_is_set, insert_changes_no_other}
use Rattle.turns.specs.Grounds.{Way, to, table, Move, on, jump, leave, Spot, idle, busy, Event, begun, stepped, looked, Ground, Pile, Conf, pile_of, conf, told, restacked, on_spot}
use Rattle.turns.specs.Turns.{on_last, seen, take_ways, moved, step_at, turn_of, ended, Reach, here, more, start_of, walk_from}
use Rattle.turns.specs.Histories.{LeadsTo, next_word, jumped, went, listed}
use Rattle.turns.proofs.Lists.{Some, some_split, on_last_lem, Ends, empty, last, ends}
use Rattle.turns.proofs.Lawful.{Lawful}
use Rattle.turns.proofs.Pushes.{ways_keep, push_silent, pushes_silent}
use Rattle.turns.proofs.Waiting.{At, takes_keep, pushes_wait, takes_open, takes_wait, Through, straight, entered}
use Rattle.turns.proofs.Counts.{Sound, turned}
use Rattle.turns.proofs.TurnLaws.{ended_empty}
use Rattle.turns.proofs.WalkEnds.{walk_reached}
use Rattle.turns.proofs.Starts.{start_sound, ends_on_any_input}

-- a visited word stays visited, and a marked word is
visited_stays : (v : List ℕ) (b j : ℕ) → b < length v * 32 → visited_at v j ≡ true → visited_at (with_bit v b) j ≡ true
visited_stays v b j h e =
    elim (ℕ_discrete j b) [
      | yes q ↦ eq-eqb _ 1 (ap (bit_at (with_bit v b)) q ∙ inserted_is_set v b h)
      | no q ↦ eq-eqb _ 1 (insert_changes_no_other v b j q ∙ eqb-true _ _ e)
    ]

module _ {P S A O E M : Type 0} (g : Ground P S A O E M) (laws : Lawful g) (starts : List P) where
  -- a place that the walk has to visit: a start, or where a stepped word leads
  pub data Wanted (l : List (Event P S A O)) (q : P) : Type 0 where
    to_start : Memᴰ q starts → Wanted l q
    led_to : {p : P} {f : Bool} {s t : S} → Memᴰ (stepped p f s) l → LeadsTo g p s q t → Wanted l q

  abbrev Running : Spot P S → P → Type 0
  Running idle q = ⊥
  Running (busy p s) q = p ≡ q

  -- it was visited, waits, or runs
  pub data Owed (c : Conf P S A O E M) (q : P) : Type 0 where
    visited : seen g c.vis q ≡ true → Owed c q
    waits : Some (At g laws q) c.pile.stack → Owed c q
    runs : Running c.spot q → Owed c q

  abbrev pub Whole : Conf P S A O E M → Type 0
  Whole c = c.pile.full ≡ false → (q : P) → Wanted c.pile.log q → g.is_word q ≡ true → Owed c q

  -- a begun block and a table want nothing
  wanted_begun : {l : List (Event P S A O)} {q x : P} → Wanted (begun x ∷ l) q → Wanted l q
  wanted_begun (to_start m) = to_start m
  wanted_begun (led_to (Memᴰ.head e) u) = absurd (let z : ◌≡◌ {A = ℕ} 0 1 = cc in let n : ⊥ = omega arith in n)
  wanted_begun (led_to (Memᴰ.tail m) u) = led_to m u

  wanted_looked : {l : List (Event P S A O)} {q x : P} {a : A} {o : O} → Wanted (looked x a o ∷ l) q → Wanted l q
  wanted_looked (to_start m) = to_start m
  wanted_looked (led_to (Memᴰ.head e) u) = absurd (let z : ◌≡◌ {A = ℕ} 0 1 = cc in let n : ⊥ = omega arith in n)
  wanted_looked (led_to (Memᴰ.tail m) u) = led_to m u

  wanted_takes : (p q : P) (ys : List (Way P S A)) (k : Pile P S A O E M) → Wanted (take_ways g p ys k).log q → Wanted k.log q
  wanted_takes p q ys k =
      ways_keep g (λ (j : Pile P S A O E M). Wanted j.log q → Wanted k.log q)
      (λ x s j r u. r (subst (λ (l : List (Event P S A O)). Wanted l q) (push_silent g x s j) u))
      (λ x a j r u. r (wanted_looked u)) p ys k (λ u. u)

  -- by what the word at p asks
  leads_on : {p q : P} {s t u : S} → LeadsTo g p s q t → g.move p s ≡ on u → g.next p ≡ q
  leads_on (next_word e) f = refl
  leads_on (jumped e) f = absurd (let z : ◌≡◌ {A = ℕ} 0 1 = cc in let n : ⊥ = omega arith in n)
  leads_on (went e m) f = absurd (let z : ◌≡◌ {A = ℕ} 0 1 = cc in let n : ⊥ = omega arith in n)
  leads_on (listed e m i) f = absurd (let z : ◌≡◌ {A = ℕ} 0 1 = cc in let n : ⊥ = omega arith in n)

  leads_jump : {p q x : P} {s t u : S} → LeadsTo g p s q t → g.move p s ≡ jump x u → x ≡ q
  leads_jump (next_word e) f = absurd (let z : ◌≡◌ {A = ℕ} 0 1 = cc in let n : ⊥ = omega arith in n)
  leads_jump (jumped e) f = cc
  leads_jump (went e m) f = absurd (let z : ◌≡◌ {A = ℕ} 0 1 = cc in let n : ⊥ = omega arith in n)
  leads_jump (listed e m i) f = absurd (let z : ◌≡◌ {A = ℕ} 0 1 = cc in let n : ⊥ = omega arith in n)

  leads_leave : {p q : P} {s t : S} {ys : List (Way P S A)} → LeadsTo g p s q t → g.move p s ≡ leave ys
      → (y : Way P S A) × Memᴰ y ys × Through g laws q y
  leads_leave (next_word e) f = absurd (let z : ◌≡◌ {A = ℕ} 0 1 = cc in let n : ⊥ = omega arith in n)
  leads_leave (jumped e) f = absurd (let z : ◌≡◌ {A = ℕ} 0 1 = cc in let n : ⊥ = omega arith in n)
  leads_leave {ys} (went {q} {t} {ys = zs} e m) f =
      let same : zs ≡ ys = cc in
      (to q t, subst (λ (l : List (Way P S A)). Memᴰ (to q t) l) same m, straight)
  leads_leave {ys} (listed {q} {t} {a} {ys = zs} e m i) f =
      let same : zs ≡ ys = cc in
      (table a t, subst (λ (l : List (Way P S A)). Memᴰ (table a t) l) same m, entered i)

  -- one step more wants what it leads to
  new_or_old : {l : List (Event P S A O)} {p q : P} {f : Bool} {s : S} → Wanted (stepped p f s ∷ l) q → Wanted l q ⊎ ((t : S) × LeadsTo g p s q t)
  new_or_old (to_start m) = inl (to_start m)
  new_or_old {p} {q} {f} {s} (led_to {p = p'} {f = f'} {s = s'} {t} (Memᴰ.head e) u) =
      let ep : p' ≡ p = cc in
      let es : s' ≡ s = cc in
      inr (t, subst (λ (x : P). LeadsTo g x s q t) ep (subst (λ (y : S). LeadsTo g p' y q t) es u))
  new_or_old (led_to (Memᴰ.tail m) u) = inl (led_to m u)

  -- a word is stepped
  module _ (p : P) (s : S) (k : Pile P S A O E M) (v : List ℕ) (bits : g.words ≤ length v * 32) (h : Whole (conf (busy p s) k v)) (word : g.is_word p ≡ true) where
    abbrev v' : List ℕ
    v' = with_bit v (g.number p)

    abbrev k' : Pile P S A O E M
    k' = told (stepped p (not (seen g v p)) s) k

    inside : g.number p < length v * 32
    inside = omega (arith, laws.below p word)

    -- what was wanted before
    old : k.full ≡ false → (q : P) → Wanted k.log q → g.is_word q ≡ true → (seen g v' q ≡ true) ⊎ Some (At g laws q) k.stack
    old f q w x = by (h f q w x)
      where
        by : Owed (conf (busy p s) k v) q → (seen g v' q ≡ true) ⊎ Some (At g laws q) k.stack
        by (visited e) = inl (visited_stays v (g.number p) (g.number q) inside e)
        by (waits m) = inr m
        by (runs e) = inl (subst (λ (y : P). seen g v' y ≡ true) e (eq-eqb _ 1 (inserted_is_set v (g.number p) inside)))

    goes_on : (t : S) → g.move p s ≡ on t → Whole (conf (busy (g.next p) t) k' v')
    goes_on t e f q w x = by (new_or_old w)
      where
        by : Wanted k.log q ⊎ ((u : S) × LeadsTo g p s q u) → Owed (conf (busy (g.next p) t) k' v') q
        by (inr u) = runs (leads_on u.1 e)
        by (inl u) = then (old f q u x)
          where
            then : (seen g v' q ≡ true) ⊎ Some (At g laws q) k.stack → Owed (conf (busy (g.next p) t) k' v') q
            then (inl r) = visited r
            then (inr r) = waits r

    -- where nothing runs any more
    at_rest : (q : P) → (seen g v' q ≡ true) ⊎ Some (At g laws q) k.stack → Owed (conf idle k' v') q
    at_rest q (inl r) = visited r
    at_rest q (inr r) = waits r

    begins : (x : P) (t : S) (q : P) → (seen g v' q ≡ true) ⊎ Some (At g laws q) k.stack → Owed (conf (busy x t) (told (begun x) k') v') q
    begins x t q (inl r) = visited r
    begins x t q (inr r) = waits r

    jumps : (x : P) (t : S) → g.move p s ≡ jump x t → (r : Bool) → (g.is_word x && not (seen g v' x)) ≡ r
        → Whole (pick r (conf (busy x t) (told (begun x) k') v') (conf idle k' v'))
    jumps x t e true z f q w y = by (new_or_old (wanted_begun w))
      where
        by : Wanted k.log q ⊎ ((u : S) × LeadsTo g p s q u) → Owed (conf (busy x t) (told (begun x) k') v') q
        by (inr u) = runs (leads_jump u.1 e)
        by (inl u) = begins x t q (old f q u y)
    jumps x t e false z f q w y = by (new_or_old w)
      where
        there : (a b : Bool) → a ≡ true → (a && not b) ≡ false → b ≡ true
        there true true i j = refl
        there true false i j = absurd (true≢false j)
        there false b i j = absurd (true≢false (sym i))

        by : Wanted k.log q ⊎ ((u : S) × LeadsTo g p s q u) → Owed (conf idle k' v') q
        by (inr u) =
            let same : x ≡ q = leads_jump u.1 e in
            visited (there (g.is_word q) (seen g v' q) y (subst (λ (i : P). (g.is_word i && not (seen g v' i)) ≡ false) same z))
        by (inl u) = at_rest q (old f q u y)

    leaves : (ys : List (Way P S A)) → g.move p s ≡ leave ys → Whole (conf idle (take_ways g p ys k') v')
    leaves ys e f q w y = by (new_or_old (wanted_takes p q ys k' w))
      where
        kept : (seen g v' q ≡ true) ⊎ Some (At g laws q) k.stack → Owed (conf idle (take_ways g p ys k') v') q
        kept (inl r) = visited r
        kept (inr r) = waits (takes_keep g laws q p ys k' r)

        by : Wanted k.log q ⊎ ((u : S) × LeadsTo g p s q u) → Owed (conf idle (take_ways g p ys k') v') q
        by (inr u) = let m = leads_leave u.1 e in waits (takes_wait g laws q p ys k' y m.1 m.2 f)
        by (inl u) = kept (old (takes_open g laws p ys k' f) q u y)

    goes : (m : Move P S A) → g.move p s ≡ m → Whole (moved g m p k' v')
    goes (on t) e = goes_on t e
    goes (jump x t) e = jumps x t e (g.is_word x && not (seen g v' x)) refl
    goes (leave ys) e = leaves ys e

  whole_turn : (c : Conf P S A O E M) → g.words ≤ length c.vis * 32 → Whole c → Whole (turn_of g c)
  unfolding on_last
  whole_turn c bits h = at_spot c.spot h
    where
      popped : (es : List E) (e : E) → Whole (conf idle (restacked (es ++ (e ∷ [])) c.pile) c.vis) → (t : Bool) → seen g c.vis (g.place e) ≡ t
          → Whole (pick t (conf idle (restacked es c.pile) c.vis)
          (conf (busy (g.place e) (g.state e)) (told (begun (g.place e)) (restacked es c.pile)) c.vis))
      popped es e h true o f q w x = by (h f q w x)
        where
          top : Some (At g laws q) es ⊎ At g laws q e → Owed (conf idle (restacked es c.pile) c.vis) q
          top (inl m) = waits m
          top (inr i) = visited (subst (λ (y : P). seen g c.vis y ≡ true) i o)

          by : Owed (conf idle (restacked (es ++ (e ∷ [])) c.pile) c.vis) q → Owed (conf idle (restacked es c.pile) c.vis) q
          by (visited r) = visited r
          by (waits m) = top (some_split (At g laws q) es e m)
          by (runs r) = absurd r
      popped es e h false o f q w x = by (h f q (wanted_begun w) x)
        where
          then : Conf P S A O E M
          then = conf (busy (g.place e) (g.state e)) (told (begun (g.place e)) (restacked es c.pile)) c.vis

          top : Some (At g laws q) es ⊎ At g laws q e → Owed then q
          top (inl m) = waits m
          top (inr i) = runs i

          by : Owed (conf idle (restacked (es ++ (e ∷ [])) c.pile) c.vis) q → Owed then q
          by (visited r) = visited r
          by (waits m) = top (some_split (At g laws q) es e m)
          by (runs r) = absurd r

      at_top : (st : List E) → Ends st → Whole (conf idle (restacked st c.pile) c.vis) → Whole (turn_of g (conf idle (restacked st c.pile) c.vis))
      at_top [] empty h = h
      at_top _ (last es e) h = rw (on_last_lem es e) (popped es e h (seen g c.vis (g.place e)) refl)

      past : (p : P) (s : S) → g.is_word p ≡ false → Whole (conf (busy p s) c.pile c.vis) → Whole (conf idle c.pile c.vis)
      past p s e h f q w x = by (h f q w x)
        where
          by : Owed (conf (busy p s) c.pile c.vis) q → Owed (conf idle c.pile c.vis) q
          by (visited r) = visited r
          by (waits m) = waits m
          by (runs r) = absurd (true≢false (sym x ∙ ap g.is_word (sym r) ∙ e))

      at_word : (p : P) (s : S) → Whole (conf (busy p s) c.pile c.vis) → (t : Bool) → g.is_word p ≡ t
          → Whole (pick t (step_at g p s c.pile c.vis) (conf idle c.pile c.vis))
      at_word p s h true e = goes p s c.pile c.vis bits h e (g.move p s) refl
      at_word p s h false e = past p s e h

      at_spot : (sp : Spot P S) → Whole (conf sp c.pile c.vis) → Whole (turn_of g (conf sp c.pile c.vis))
      at_spot idle h = at_top c.pile.stack (ends c.pile.stack) h
      at_spot (busy p s) h = at_word p s h (g.is_word p) refl

  whole_reach : (n : ℕ) → g.words ≤ n * 32 → {c d : Conf P S A O E M} → Reach g c d → Sound g n c → Whole c → Whole d
  whole_reach n bits here s h = h
  whole_reach n bits (more {c} {d} e r) s h =
      whole_reach n bits r (turned g n laws bits c s e).sound (whole_turn c (omega (arith, s.map_length)) h)

  module _ (s : S) (m : M) (v : List ℕ) (bits : g.words ≤ length v * 32) where
    whole_start : Whole (start_of g starts s m v)
    whole_start f q w x = by (subst (λ (l : List (Event P S A O)). Wanted l q) (pushes_silent g s starts (pile_of [] false [] m)) w)
      where
        by : Wanted [] q → Owed (start_of g starts s m v) q
        by (to_start i) = waits (pushes_wait g laws q s starts (pile_of [] false [] m) x i f)
        by (led_to i u) = absurd (Memᴰ.not-nil i)

    -- what a finished walk owes it has visited
    settled : (c : Conf P S A O E M) → c.pile.full ≡ false → ended g c ≡ true → (q : P) → Owed c q → seen g c.vis q ≡ true
    settled c f e q (visited r) = r
    settled c f e q (waits i) = absurd (none c.pile.stack (ended_empty g c f e) i)
      where
        none : (st : List E) → st ≡ [] → Some (At g laws q) st → ⊥
        none st z i = elim (subst (Some (At g laws q)) z i) [ ]
    settled c f e q (runs r) = absurd (none c.spot (rw f at e) r)
      where
        none : (sp : Spot P S) → on_spot sp (on_last c.pile.stack true (λ es x. false)) (λ p t. false) ≡ true → Running sp q → ⊥
        none idle z r = r
        none (busy p t) z r = true≢false (sym z)

    -- every start is visited, and every word of code that a stepped word leads to, unless 5 stopped the walk
    pub nothing_missed : (walk_from g starts s m v).pile.full ≡ false → (q : P) → Wanted (walk_from g starts s m v).pile.log q → g.is_word q ≡ true
        → seen g (walk_from g starts s m v).vis q ≡ true
    nothing_missed f q w x =
        settled (walk_from g starts s m v) f (ends_on_any_input g laws starts s m v bits) q
        (whole_reach (length v) bits (walk_reached g (start_of g starts s m v)) (start_sound g laws starts s m v bits) whole_start f q w x)
