-- The walk ends, it is one walk, and its counts are bounded.
-- Assumes a lawful ground, a map with a bit for each word, and a sound beginning.
use Prim.Native.Nat.{ℕ, zero, suc, ◌+◌, ◌*◌, ◌≤◌, ◌<◌}
use mathlib.Core.Path.{◌≡◌, refl, sym, ◌∙◌, subst}
use mathlib.Core.Bool.{Bool, true, false, ◌&&◌, not}
use native.Mathlib.Omega.{arith}
use native.Mathlib.Nat.{le_trans, le-add_right, mul-le-mul_left}
use Rattle.words.specs.Choice.{pick}
use Rattle.search.proofs.EveryLaws.{and_left, and_right}
use Rattle.visited.specs.Bits.{with_bit}
use Rattle.visited.proofs.Counting.{ones_at_most}
use Rattle.turns.specs.Grounds.{Spot, idle, busy, Ground, Conf}
use Rattle.turns.specs.Turns.{seen, turn_of, ended, Reach, here, more, run, pending, left, walk_of}
use Rattle.turns.specs.Histories.{one, steps, first_visits, blocks}
use Rattle.turns.proofs.Lawful.{Lawful}
use Rattle.turns.proofs.Counts.{Sound, turned}
use Rattle.turns.proofs.Measure.{marked}

module _ {P S A O E M : Type 0} (g : Ground P S A O E M) where
  -- turns one after the other
  pub then : {c d e : Conf P S A O E M} → Reach g c d → Reach g d e → Reach g c e
  then here r = r
  then (more h q) r = more h (then q r)

  pub one_more : {c d : Conf P S A O E M} → Reach g c d → ended g d ≡ false → Reach g c (turn_of g d)
  one_more r h = then r (more h here)

  run_ended : (m : ℕ) (c : Conf P S A O E M) → ended g c ≡ true → run g m c ≡ c
  unfolding run
  run_ended zero c e = refl
  run_ended (suc m) c e = rw e

  -- what any number of turns comes to is reached
  pub run_reached : (m : ℕ) (c : Conf P S A O E M) → Reach g c (run g m c)
  unfolding run
  run_reached zero c = here
  run_reached (suc m) c = by (ended g c) refl (run_reached m (turn_of g c))
    where
      by : (t : Bool) → ended g c ≡ t → Reach g (turn_of g c) (run g m (turn_of g c)) → Reach g c (pick t c (run g m (turn_of g c)))
      by true e r = here
      by false e r = more e r

  pub walk_reached : (c : Conf P S A O E M) → Reach g c (walk_of g c)
  unfolding walk_of
  walk_reached c = run_reached (left g c) c

module _ {P S A O E M : Type 0} (g : Ground P S A O E M) (n : ℕ) (laws : Lawful g) (bits : g.words ≤ n * 32) where
  pub reach_sound : {c d : Conf P S A O E M} → Reach g c d → Sound g n c → Sound g n d
  reach_sound here h = h
  reach_sound (more {c} {d} e r) h = reach_sound r (turned g n laws bits c h e).sound

  pub reach_left : {c d : Conf P S A O E M} → Reach g c d → Sound g n c → left g d ≤ left g c
  reach_left here h = omega arith
  reach_left (more {c} {d} e r) h = omega (arith, reach_left r (turned g n laws bits c h e).sound, (turned g n laws bits c h e).less)

  -- as many turns as the measure says are enough
  run_ends : (m : ℕ) (c : Conf P S A O E M) → Sound g n c → left g c ≤ m → ended g (run g m c) ≡ true
  unfolding run
  run_ends zero c h b = by (ended g c) refl
    where
      by : (t : Bool) → ended g c ≡ t → ended g c ≡ true
      by true e = e
      by false e = absurd (let z : ⊥ = omega (arith, (turned g n laws bits c h e).less) in z)
  run_ends (suc m) c h b = by (ended g c) refl (λ e. run_ends m (turn_of g c) (turned g n laws bits c h e).sound (omega (arith, (turned g n laws bits c h e).less)))
    where
      by : (t : Bool) → ended g c ≡ t → (ended g c ≡ false → ended g (run g m (turn_of g c)) ≡ true) → ended g (pick t c (run g m (turn_of g c))) ≡ true
      by true e r = e
      by false e r = r e

  -- the walk ends
  pub walk_ends : (c : Conf P S A O E M) → Sound g n c → ended g (walk_of g c) ≡ true
  unfolding walk_of
  walk_ends c h = run_ends (left g c) c h (omega arith)

  run_is : {c d : Conf P S A O E M} → Reach g c d → Sound g n c → ended g d ≡ true → (m : ℕ) → left g c ≤ m → run g m c ≡ d
  unfolding run
  run_is (here {c}) h e m b = run_ended g m c e
  run_is (more {c} {d} q r) h e zero b = absurd (let z : ⊥ = omega (arith, (turned g n laws bits c h q).less) in z)
  run_is (more {c} {d} q r) h e (suc m) b = rw q (run_is r (turned g n laws bits c h q).sound e m (omega (arith, (turned g n laws bits c h q).less)))

  -- turns that end are the walk
  pub ends_as_walk : {c d : Conf P S A O E M} → Reach g c d → Sound g n c → ended g d ≡ true → walk_of g c ≡ d
  unfolding walk_of
  ends_as_walk {c} {d} r h e = run_is r h e (left g c) (omega arith)

  -- one walk: turns that end, end alike
  pub walk_unique : {c d e : Conf P S A O E M} → Sound g n c → Reach g c d → ended g d ≡ true → Reach g c e → ended g e ≡ true → d ≡ e
  walk_unique h q x r y = sym (ends_as_walk q h x) ∙ ends_as_walk r h y

  -- one turn more from where a walk stands, to what that turn is
  pub onward : {c d : Conf P S A O E M} (e : Conf P S A O E M) → Sound g n c → Reach g c d → ended g d ≡ false → turn_of g d ≡ e
      → Reach g c e × (left g e < left g d)
  onward {c} {d} e h r x q =
      let u = turned g n laws bits d (reach_sound r h) x in
      (subst (λ (y : Conf P S A O E M). Reach g c y) q (one_more g r x), subst (λ (y : Conf P S A O E M). left g y < left g d) q u.less)

  -- blocks begun never exceed the words
  pub few_blocks : (c : Conf P S A O E M) → Sound g n c → blocks c.pile.log ≤ g.words
  few_blocks c h = at_spot c.spot h.once
    where
      at_word : (p : P) → (t : Bool) → (g.is_word p && not (seen g c.vis p)) ≡ t → blocks c.pile.log ≤ first_visits c.pile.log + one t → blocks c.pile.log ≤ g.words
      at_word p false e o = omega (arith, h.counted, ones_at_most c.vis g.words)
      at_word p true e o =
          let low : g.number p < g.words = laws.below p (and_left (g.is_word p) (not (seen g c.vis p)) e) in
          let m = rw (and_right (g.is_word p) (not (seen g c.vis p)) e) at (marked c.vis (g.number p) g.words (omega (arith, h.map_length)) low) in
          omega (arith, h.counted, ones_at_most (with_bit c.vis (g.number p)) g.words)

      at_spot : (sp : Spot P S) → blocks c.pile.log ≤ first_visits c.pile.log + one (pending g sp c.vis) → blocks c.pile.log ≤ g.words
      at_spot idle o = omega (arith, h.counted, ones_at_most c.vis g.words)
      at_spot (busy p s) o = at_word p (g.is_word p && not (seen g c.vis p)) refl o

  -- steps never exceed the words times the words
  pub few_steps : (c : Conf P S A O E M) → Sound g n c → steps c.pile.log ≤ g.words * g.words
  few_steps c h = le_trans (le_trans (le-add_right _ _) h.short) (mul-le-mul_left g.words (few_blocks c h))
