-- The counts that code keeps beside the walk, event by event.
-- Assumes nothing.
use Prim.Native.Nat.{ℕ, ◌+◌}
use mathlib.Core.Path.{◌≡◌, refl}
use mathlib.Core.Bool.{Bool, true, false, not}
use mathlib.Core.List.{List, [], ◌∷◌, ◌++◌}
use native.Mathlib.Omega.{arith}
use Rattle.turns.specs.Grounds.{Event, begun, stepped, looked}
use Rattle.turns.specs.Histories.{one, on_event, total, steps, blocks, tables, tables_read, tables_not_read, in_order, Tally}
use Rattle.turns.proofs.RunLaws.{total_append}

module _ {P S A O : Type 0} where
  -- in order or not, a history counts the same
  pub order_keeps_counts : (f : Event P S A O → ℕ) (l : List (Event P S A O)) → total f (in_order l) ≡ total f l
  unfolding total in_order
  order_keeps_counts f [] = refl
  order_keeps_counts f (x ∷ l) = omega (arith, order_keeps_counts f l, total_append f (in_order l) (x ∷ []))

module _ {P S A O : Type 0} (is_read : O → Bool) where
  pub tally_none : Tally {P = P} {S = S} {A = A} {O = O} is_read [] 0 0 0 0
  unfolding total
  tally_none = record { stepped = refl; begun = refl; read = refl; not_read = refl }

  -- every table asked for was read or not
  pub read_or_not : (l : List (Event P S A O)) → tables_read is_read l + tables_not_read is_read l ≡ tables l
  unfolding total
  read_or_not [] = refl
  read_or_not (begun p ∷ l) = omega (arith, read_or_not l)
  read_or_not (stepped p t s ∷ l) = omega (arith, read_or_not l)
  read_or_not (looked p a o ∷ l) = by (is_read o) (read_or_not l)
    where
      by : (t : Bool) → tables_read is_read l + tables_not_read is_read l ≡ tables l
          → (one t + tables_read is_read l) + (one (not t) + tables_not_read is_read l) ≡ 1 + tables l
      by true e = omega arith
      by false e = omega arith

  module _ {l : List (Event P S A O)} {n b r m : ℕ} (h : Tally is_read l n b r m) where
    pub tally_begun : (p : P) → Tally is_read (begun p ∷ l) n (b + 1) r m
    unfolding total
    tally_begun p = record {
      stepped = omega (arith, h.stepped);
      begun = omega (arith, h.begun);
      read = omega (arith, h.read);
      not_read = omega (arith, h.not_read);
    }

    pub tally_stepped : (p : P) (t : Bool) (s : S) → Tally is_read (stepped p t s ∷ l) (n + 1) b r m
    unfolding total
    tally_stepped p t s = record {
      stepped = omega (arith, h.stepped);
      begun = omega (arith, h.begun);
      read = omega (arith, h.read);
      not_read = omega (arith, h.not_read);
    }

    pub tally_read : (p : P) (a : A) (o : O) → is_read o ≡ true → Tally is_read (looked p a o ∷ l) n b (r + 1) m
    unfolding total
    tally_read p a o e = record {
      stepped = omega (arith, h.stepped);
      begun = omega (arith, h.begun);
      read = rw e (omega (arith, h.read));
      not_read = rw e (omega (arith, h.not_read));
    }

    pub tally_not_read : (p : P) (a : A) (o : O) → is_read o ≡ false → Tally is_read (looked p a o ∷ l) n b r (m + 1)
    unfolding total
    tally_not_read p a o e = record {
      stepped = omega (arith, h.stepped);
      begun = omega (arith, h.begun);
      read = rw e (omega (arith, h.read));
      not_read = rw e (omega (arith, h.not_read));
    }

    -- one history after another
    pub tally_append : {x : List (Event P S A O)} {n' b' r' m' : ℕ} → Tally is_read x n' b' r' m' → Tally is_read (x ++ l) (n + n') (b + b') (r + r') (m + m')
    tally_append {x} i = record {
      stepped = omega (arith, h.stepped, i.stepped, total_append (λ y. on_event y (λ p. 0) (λ p t s. 1) (λ p a o. 0)) x l);
      begun = omega (arith, h.begun, i.begun, total_append (λ y. on_event y (λ p. 1) (λ p t s. 0) (λ p a o. 0)) x l);
      read = omega (arith, h.read, i.read, total_append (λ y. on_event y (λ p. 0) (λ p t s. 0) (λ p a o. one (is_read o))) x l);
      not_read = omega (arith, h.not_read, i.not_read, total_append (λ y. on_event y (λ p. 0) (λ p t s. 0) (λ p a o. one (not (is_read o)))) x l);
    }

    -- a run inside a block
    pub tally_run : (x : List (Event P S A O)) (i j : ℕ) → i ≡ steps x → j ≡ blocks x → tables x ≡ 0 → Tally is_read (x ++ l) (n + i) (b + j) r m
    tally_run x i j e f q =
        let none_read : 0 ≡ tables_read is_read x = omega (arith, read_or_not x) in
        let none_left : 0 ≡ tables_not_read is_read x = omega (arith, read_or_not x) in
        let both = tally_append (record { stepped = e; begun = f; read = none_read; not_read = none_left }) in
        record {
          stepped = both.stepped;
          begun = both.begun;
          read = omega (arith, both.read);
          not_read = omega (arith, both.not_read);
        }
