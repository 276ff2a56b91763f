-- Bits from W up stay as they were.
-- Assumes a lawful ground.
use Prim.Native.Nat.{ℕ, ◌≤◌}
use mathlib.Core.Path.{◌≡◌, refl, ap, ◌∙◌}
use mathlib.Core.Bool.{Bool, true, false, ◌&&◌, not}
use mathlib.Core.List.{List, []}
use native.Mathlib.Omega.{arith}
use Rattle.words.specs.Choice.{pick}
use Rattle.visited.specs.Bits.{bit_at, with_bit}
use Rattle.visited.proofs.BitLaws.{insert_changes_no_other}
use Rattle.visited.proofs.Clearing.{cleared_keeps_rest}
use Rattle.turns.specs.Grounds.{Move, on, jump, leave, Spot, idle, busy, begun, stepped, Ground, Pile, Conf, conf, told, restacked}
use Rattle.turns.specs.Turns.{on_last, seen, moved, step_at, turn_of, Reach, here, more, start_of, walk_from}
use Rattle.turns.proofs.Lists.{on_last_lem, Ends, empty, last, ends}
use Rattle.turns.proofs.Lawful.{Lawful}
use Rattle.turns.proofs.WalkEnds.{walk_reached}

module _ {P S A O E M : Type 0} (g : Ground P S A O E M) (laws : Lawful g) where
  -- what follows a step leaves the map
  moved_map : (m : Move P S A) (p : P) (k : Pile P S A O E M) (v : List ℕ) → (moved g m p k v).vis ≡ v
  moved_map (on t) p k v = refl
  moved_map (jump q t) p k v = by (g.is_word q && not (seen g v q))
    where
      by : (r : Bool) → (pick r (conf (busy q t) (told (begun q) k) v) (conf idle k v)).vis ≡ v
      by true = refl
      by false = refl
  moved_map (leave ys) p k v = refl

  module _ (b : ℕ) (high : g.words ≤ b) where
    turn_keeps : (c : Conf P S A O E M) → bit_at (turn_of g c).vis b ≡ bit_at c.vis b
    unfolding on_last
    turn_keeps c = at_spot c.spot
      where
        popped : (es : List E) (e : E) (t : Bool)
            → (pick t (conf idle (restacked es c.pile) c.vis) (conf (busy (g.place e) (g.state e)) (told (begun (g.place e)) (restacked es c.pile)) c.vis)).vis ≡ c.vis
        popped es e true = refl
        popped es e false = refl

        at_top : (st : List E) → Ends st → (turn_of g (conf idle (restacked st c.pile) c.vis)).vis ≡ c.vis
        at_top [] empty = refl
        at_top _ (last es e) = rw (on_last_lem es e) (popped es e (seen g c.vis (g.place e)))

        at_word : (p : P) (s : S) (t : Bool) → g.is_word p ≡ t
            → bit_at (pick t (step_at g p s c.pile c.vis) (conf idle c.pile c.vis)).vis b ≡ bit_at c.vis b
        at_word p s true w =
            ap (λ (v : List ℕ). bit_at v b) (moved_map (g.move p s) p (told (stepped p (not (seen g c.vis p)) s) c.pile) (with_bit c.vis (g.number p)))
            ∙ insert_changes_no_other c.vis (g.number p) b (λ e. let low = laws.below p w in omega arith)
        at_word p s false w = refl

        at_spot : (sp : Spot P S) → bit_at (turn_of g (conf sp c.pile c.vis)).vis b ≡ bit_at c.vis b
        at_spot idle = ap (λ (v : List ℕ). bit_at v b) (at_top c.pile.stack (ends c.pile.stack))
        at_spot (busy p s) = at_word p s (g.is_word p) refl

    turns_keep : {c d : Conf P S A O E M} → Reach g c d → bit_at d.vis b ≡ bit_at c.vis b
    turns_keep here = refl
    turns_keep (more {c} {d} e r) = turns_keep r ∙ turn_keeps c

    pub high_bits_stay : (starts : List P) (s : S) (m : M) (v : List ℕ) → bit_at (walk_from g starts s m v).vis b ≡ bit_at v b
    high_bits_stay starts s m v = turns_keep (walk_reached g (start_of g starts s m v)) ∙ cleared_keeps_rest v g.words b high
