-- Every turn brings the measure down: a running word by what is left of the code, a waiting state by itself.
-- Assumes a lawful ground and a map with a bit for each word; of a popped state, that it waits at a word of code.
use Prim.Native.Nat.{ℕ, suc, ◌+◌, ◌-◌, ◌*◌, ◌≤◌, ◌<◌}
use mathlib.Core.Path.{◌≡◌, refl}
use mathlib.Core.Bool.{Bool, true, false, ◌&&◌, not}
use mathlib.Core.List.{List, [], ◌∷◌, ◌++◌}
use native.Mathlib.Omega.{arith}
use native.Mathlib.Nat.{suc-mul}
use lib.ListN.{length}
use borrow.Author.Tests.{eqb-true, eqb-false}
use Rattle.words.specs.Choice.{pick}
use Rattle.visited.specs.Bits.{bit_at, visited_at, with_bit, ones_below}
use Rattle.visited.proofs.BitLaws.{bit_is_digit}
use Rattle.visited.proofs.Counting.{ones_at_most}
use Rattle.visited.proofs.Visits.{first_visit_adds_one, visit_again_adds_nothing}
use Rattle.turns.specs.Grounds.{Move, on, jump, leave, idle, busy, Event, begun, stepped, Ground, Pile, conf, told, restacked, on_move}
use Rattle.turns.specs.Turns.{seen, moved, step_at, turn_of, ahead, weight, left_in, left}
use Rattle.turns.specs.Histories.{one}
use Rattle.turns.proofs.Lists.{snoc_length}
use Rattle.turns.proofs.Lawful.{widths, Lawful}
use Rattle.turns.proofs.Pushes.{ways_grow}

-- marking a word adds one to the ones exactly if it was unvisited
pub marked : (v : List ℕ) (b n : ℕ) → b < length v * 32 → b < n → ones_below (with_bit v b) n ≡ ones_below v n + one (not (visited_at v b))
marked v b n h l = by (visited_at v b) refl
  where
    by : (t : Bool) → visited_at v b ≡ t → ones_below (with_bit v b) n ≡ ones_below v n + one (not t)
    by true e = omega (arith, visit_again_adds_nothing v b n (eqb-true _ _ e))
    by false e =
        let ne = eqb-false (bit_at v b) 1 e in
        first_visit_adds_one v b n h (omega (arith, bit_is_digit v b)) l

module _ {P S A O E M : Type 0} (g : Ground P S A O E M) (laws : Lawful g) where
  -- a word is stepped
  module _ (p : P) (s : S) (v : List ℕ) (bits : g.words ≤ length v * 32) (word : g.is_word p ≡ true) where
    abbrev v' : List ℕ
    v' = with_bit v (g.number p)

    pub ones_after : ones_below v' g.words ≡ ones_below v g.words + one (not (seen g v p))
    ones_after = marked v (g.number p) g.words (omega (arith, laws.below p word)) (laws.below p word)

    -- what marking the word gives free
    room : (g.words - ones_below v' g.words) * (g.words + g.most + 3) + (g.most + 2 + (g.words - g.number p))
        ≤ (g.words - ones_below v g.words) * (g.words + g.most + 3) + weight g (busy p s) v
    room = rw word (by (not (seen g v p)) ones_after)
      where
        by : (t : Bool) → ones_below v' g.words ≡ ones_below v g.words + one t
            → (g.words - ones_below v' g.words) * (g.words + g.most + 3) + (g.most + 2 + (g.words - g.number p))
            ≤ (g.words - ones_below v g.words) * (g.words + g.most + 3) + pick t 0 (g.most + 2 + (g.words - g.number p))
        by true e =
            let u : g.words - ones_below v g.words ≡ suc (g.words - ones_below v' g.words) = omega (arith, ones_at_most v' g.words) in
            rw (u, suc-mul (g.words - ones_below v' g.words) (g.words + g.most + 3)) (omega arith)
        by false e =
            let u : g.words - ones_below v g.words ≡ g.words - ones_below v' g.words = omega arith in
            rw u (omega arith)

    -- the next word is nearer the code's end
    pub nearer : (t : S) → ahead g (busy (g.next p) t) ≤ g.words - (g.number p + 1)
    nearer t = by (g.is_word (g.next p)) refl
      where
        by : (r : Bool) → g.is_word (g.next p) ≡ r → pick r (g.words - g.number (g.next p)) 0 ≤ g.words - (g.number p + 1)
        by true e = omega (arith, laws.follows p word e)
        by false e = omega arith

    lighter : (q : P) (t : S) → weight g (busy q t) v' ≤ g.most + 2 + ahead g (busy q t)
    lighter q t = by (g.is_word q && not (seen g v' q))
      where
        by : (r : Bool) → pick r 0 (g.most + 2 + ahead g (busy q t)) ≤ g.most + 2 + ahead g (busy q t)
        by true = omega arith
        by false = omega arith

    -- going on, and jumping to an unvisited word
    pub on_less : (t : S) → left_in g (busy (g.next p) t) v' < left_in g (busy p s) v
    on_less t = omega (arith, room, lighter (g.next p) t, nearer t, laws.below p word)

    pub jump_less : (q : P) (t : S) → g.is_word q ≡ true → seen g v' q ≡ false → left_in g (busy q t) v' < left_in g (busy p s) v
    jump_less q t w o = rw (w, o) (omega (arith, room))

    -- by what the word asks
    move_less : (x : Event P S A O) (k : Pile P S A O E M) (m : Move P S A) → on_move m (λ t. 0) (λ q t. 0) (widths g) ≤ g.most
        → left g (moved g m p (told x k) v') < left g (conf (busy p s) k v)
    move_less x k (on t) b = omega (arith, on_less t)
    move_less x k (jump q t) b = by (g.is_word q && not (seen g v' q)) refl
      where
        by : (r : Bool) → (g.is_word q && not (seen g v' q)) ≡ r
            → left g (pick r (conf (busy q t) (told (begun q) (told x k)) v') (conf idle (told x k) v')) < left g (conf (busy p s) k v)
        by true e = rw e (omega (arith, room))
        by false e = omega (arith, room)
    move_less x k (leave ys) b = omega (arith, room, ways_grow g p ys (told x k))

  -- a running word
  pub busy_less : (p : P) (s : S) (k : Pile P S A O E M) (v : List ℕ) → g.words ≤ length v * 32
      → left g (turn_of g (conf (busy p s) k v)) < left g (conf (busy p s) k v)
  busy_less p s k v bits = by (g.is_word p) refl
    where
      by : (t : Bool) → g.is_word p ≡ t → left g (pick t (step_at g p s k v) (conf idle k v)) < left g (conf (busy p s) k v)
      by true e = move_less p s v bits e (stepped p (not (seen g v p)) s) k (g.move p s) (laws.few p s)
      by false e = rw e (omega arith)

  -- a state that waits at a word
  pub pop_less : (es : List E) (e : E) (k : Pile P S A O E M) (v : List ℕ) → g.is_word (g.place e) ≡ true → (t : Bool) → seen g v (g.place e) ≡ t
      → left g (pick t (conf idle (restacked es k) v) (conf (busy (g.place e) (g.state e)) (told (begun (g.place e)) (restacked es k)) v))
      < left g (conf idle (restacked (es ++ (e ∷ [])) k) v)
  pop_less es e k v word true q = omega (arith, snoc_length es e)
  pop_less es e k v word false q = rw (word, q) (omega (arith, snoc_length es e))
