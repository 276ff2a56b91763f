-- The test of a stack is exact: it says yes to what is a stack and to nothing else.
-- Assumes nothing.
use mathlib.Core.Bool.{Bool, true, false, not, ◌&&◌}
use mathlib.Core.List.{List}
use mathlib.Core.Path.{◌≡◌, refl, sym, ◌∙◌, subst}
use Prim.Native.Nat.{ℕ, zero, suc, ◌+◌, ◌-◌, ◌≤◌, ◌<◌}
use native.Mathlib.Decide.{dec_lt, ℕ_discrete}
use native.Mathlib.Nat.{le_refl, le_trans}
use native.Mathlib.Omega.{arith}
use lib.Dec.{eqb, leb, ltb}
use lib.ListN.{length, get_or}
use borrow.Author.Tests.{ltb-true, leb-true, eqb-false, lt-ltb, le-leb, eq-eqb, ne_eqb, not-true}
use Rattle.search.proofs.EveryLaws.{and_left, and_right, every_at}
use Rattle.slot.proofs.PutLaws.{every_holds}
use Rattle.slot.specs.Layout.{is_slot}
use Rattle.stack.specs.Stack.{room, slot_at, order_at, key_at, high_of, sorted_of, Stack}
use Rattle.stack.specs.Valid.{is_fresh, is_named, is_ordered, is_held, valid_stack}
use Rattle.stack.proofs.AppendLaws.{high_word}

-- a test that cannot hold fails
pub fails : (t : Bool) → (t ≡ true → ⊥) → t ≡ false
fails true h = absurd (h refl)
fails false h = refl

both : (a b : Bool) → a ≡ true → b ≡ true → a && b ≡ true
both a b e f = rw (e, f)

not_holds : (t : Bool) → t ≡ false → not t ≡ true
not_holds t e = rw e

module _ (ws : List ℕ) where
  abbrev fresh : ℕ → ℕ → Bool
  fresh i j = not (eqb (order_at ws j) (order_at ws i))

  abbrev named : ℕ → ℕ → Bool
  named h i = (ltb (order_at ws i) h) && (is_fresh ws i)

  abbrev step : ℕ → Bool
  step i = leb (key_at ws i) (key_at ws (i + 1))

  abbrev filled : ℕ → Bool
  filled i = is_slot ws (slot_at ws (order_at ws i))

  pub named_low : (h : ℕ) → is_named ws h ≡ true → (i : ℕ) → i < h → order_at ws i < h
  named_low h t i a = ltb-true (order_at ws i) h (and_left (ltb (order_at ws i) h) (is_fresh ws i) (every_at (named h) h i t a))

  named_fresh : (h : ℕ) → is_named ws h ≡ true → (i j : ℕ) → i < h → j < i → order_at ws j ≡ order_at ws i → ⊥
  named_fresh h t i j a b =
      eqb-false (order_at ws j) (order_at ws i)
      (not-true (eqb (order_at ws j) (order_at ws i)) (every_at (fresh i) i j (and_right (ltb (order_at ws i) h) (is_fresh ws i) (every_at (named h) h i t a)) b))

  named_apart : (h : ℕ) → is_named ws h ≡ true → (i j : ℕ) → i < h → j < h → order_at ws i ≡ order_at ws j → i ≡ j
  named_apart h t i j a b e =
      elim (dec_lt i j) [
        | yes l ↦ absurd (named_fresh h t j i b l e)
        | no l ↦ elim (dec_lt j i) [ yes m ↦ absurd (named_fresh h t i j a m (sym e)) | no m ↦ omega arith ]
      ]

  named_of : (h : ℕ) → ((i : ℕ) → i < h → order_at ws i < h) → ((i j : ℕ) → i < h → j < h → order_at ws i ≡ order_at ws j → i ≡ j) → is_named ws h ≡ true
  named_of h low apart =
      every_holds (named h) h
      (λ i a. both (ltb (order_at ws i) h) (is_fresh ws i) (lt-ltb (order_at ws i) h (low i a))
      (every_holds (fresh i) i
      (λ j b. not_holds (eqb (order_at ws j) (order_at ws i))
      (ne_eqb (order_at ws j) (order_at ws i) (λ e. let z : j ≡ i = apart j i (omega arith) a e in omega arith)))))

  -- neighbours in order are all in order
  ordered_up : (n : ℕ) → is_ordered ws n ≡ true → (i m : ℕ) → i + m < n → key_at ws i ≤ key_at ws (i + m)
  ordered_up n t i zero a = let z : i + 0 ≡ i = omega arith in rw z (le_refl (key_at ws i))
  ordered_up n t i (suc m) a =
      let e : i + suc m ≡ i + m + 1 = omega arith in
      rw e
      (le_trans (ordered_up n t i m (omega arith)) (leb-true (key_at ws (i + m)) (key_at ws (i + m + 1)) (every_at step (n - 1) (i + m) t (omega arith))))

  ordered_at : (n : ℕ) → is_ordered ws n ≡ true → (i j : ℕ) → i ≤ j → j < n → key_at ws i ≤ key_at ws j
  ordered_at n t i j a b = let e : j ≡ i + (j - i) = omega arith in rw e (ordered_up n t i (j - i) (omega arith))

  ordered_of : (n : ℕ) → ((i j : ℕ) → i ≤ j → j < n → key_at ws i ≤ key_at ws j) → is_ordered ws n ≡ true
  ordered_of n s = every_holds step (n - 1) (λ i a. le-leb (key_at ws i) (key_at ws (i + 1)) (s i (i + 1) (omega arith) (omega arith)))

  held_at : (n : ℕ) → is_held ws n ≡ true → (i : ℕ) → i < n → is_slot ws (slot_at ws (order_at ws i)) ≡ true
  held_at n t i a = every_at filled n i t a

  held_of : (n : ℕ) → ((i : ℕ) → i < n → is_slot ws (slot_at ws (order_at ws i)) ≡ true) → is_held ws n ≡ true
  held_of n h = every_holds filled n h

-- with nothing held, any words are a stack
pub empty_stack : (ws : List ℕ) → Stack ws 0
empty_stack ws = record {
  count = omega arith;
  within = omega arith;
  first = λ h. absurd (let z : ⊥ = omega arith in z);
  named = λ i h. absurd (let z : ⊥ = omega arith in z);
  apart = λ i j h g e. absurd (let z : ⊥ = omega arith in z);
  sorted = λ i j h g. absurd (let z : ⊥ = omega arith in z);
  slots = λ i h. absurd (let z : ⊥ = omega arith in z);
}

module _ (ws : List ℕ) (n : ℕ) where
  abbrev h : ℕ
  h = get_or ws 0 0

  abbrev a1 : Bool
  a1 = leb n h

  abbrev a2 : Bool
  a2 = leb h (room (length ws))

  abbrev a3 : Bool
  a3 = leb (get_or ws 1 0) h

  abbrev a4 : Bool
  a4 = is_named ws h

  abbrev a5 : Bool
  a5 = is_ordered ws (sorted_of ws n)

  abbrev a6 : Bool
  a6 = is_held ws n

  tests : 0 < n → valid_stack ws n ≡ a1 && a2 && a3 && a4 && a5 && a6
  tests p = rw (ne_eqb n 0 (λ e. omega arith))

  held_stack : 0 < n → a1 && a2 && a3 && a4 && a5 && a6 ≡ true → Stack ws n
  held_stack p t =
      let t5 : a1 && a2 && a3 && a4 && a5 ≡ true = and_left (a1 && a2 && a3 && a4 && a5) a6 t in
      let t4 : a1 && a2 && a3 && a4 ≡ true = and_left (a1 && a2 && a3 && a4) a5 t5 in
      let t3 : a1 && a2 && a3 ≡ true = and_left (a1 && a2 && a3) a4 t4 in
      let t2 : a1 && a2 ≡ true = and_left (a1 && a2) a3 t3 in
      let w : high_of ws n ≡ h = high_word ws n p in
      let g : is_named ws h ≡ true = and_right (a1 && a2 && a3) a4 t4 in
      let one : n ≤ h = leb-true n h (and_left a1 a2 t2) in
      let two : h ≤ room (length ws) = leb-true h (room (length ws)) (and_right a1 a2 t2) in
      let three : get_or ws 1 0 ≤ h = leb-true (get_or ws 1 0) h (and_right (a1 && a2) a3 t3) in
      record {
        count = omega arith;
        within = omega arith;
        first = λ q. omega arith;
        named = λ i a. omega (arith, named_low ws h g i (omega arith));
        apart = λ i j a b e. named_apart ws h g i j (omega arith) (omega arith) e;
        sorted = ordered_at ws (sorted_of ws n) (and_right (a1 && a2 && a3 && a4) a5 t5);
        slots = held_at ws n (and_right (a1 && a2 && a3 && a4 && a5) a6 t);
      }

  stack_held : 0 < n → Stack ws n → a1 && a2 && a3 && a4 && a5 && a6 ≡ true
  stack_held p st =
      let w : high_of ws n ≡ h = high_word ws n p in
      both (a1 && a2 && a3 && a4 && a5) a6
      (both (a1 && a2 && a3 && a4) a5
      (both (a1 && a2 && a3) a4
      (both (a1 && a2) a3
      (both a1 a2 (le-leb n h (omega (arith, st.count))) (le-leb h (room (length ws)) (omega (arith, st.within))))
      (le-leb (get_or ws 1 0) h (omega (arith, st.first p))))
      (named_of ws h (λ i a. omega (arith, st.named i (omega arith))) (λ i j a b e. st.apart i j (omega arith) (omega arith) e)))
      (ordered_of ws (sorted_of ws n) st.sorted))
      (held_of ws n st.slots)

-- where all but the slots is well, the slots decide
pub valid_slots : (ws : List ℕ) (n : ℕ) → 0 < n → n ≤ get_or ws 0 0 → get_or ws 0 0 ≤ room (length ws) → get_or ws 1 0 ≤ get_or ws 0 0
    → is_named ws (get_or ws 0 0) ≡ true → is_ordered ws (sorted_of ws n) ≡ true → valid_stack ws n ≡ is_held ws n
valid_slots ws n p one two three four five =
    tests ws n p ∙ rw (le-leb n (get_or ws 0 0) one, le-leb (get_or ws 0 0) (room (length ws)) two, le-leb (get_or ws 1 0) (get_or ws 0 0) three, four, five)

pub stack_named : (ws : List ℕ) (n : ℕ) → 0 < n → Stack ws n → is_named ws (get_or ws 0 0) ≡ true
stack_named ws n p st =
    let w : high_of ws n ≡ get_or ws 0 0 = high_word ws n p in
    named_of ws (get_or ws 0 0) (λ i a. omega (arith, st.named i (omega arith))) (λ i j a b e. st.apart i j (omega arith) (omega arith) e)

pub stack_ordered : (ws : List ℕ) (n : ℕ) → Stack ws n → is_ordered ws (sorted_of ws n) ≡ true
stack_ordered ws n st = ordered_of ws (sorted_of ws n) st.sorted

-- what the test says yes to is a stack
pub valid_stack_lem : (ws : List ℕ) (n : ℕ) → valid_stack ws n ≡ true → Stack ws n
valid_stack_lem ws n t =
    elim (ℕ_discrete n 0) [
      | yes e ↦ subst (λ (m : ℕ). Stack ws m) (sym e) (empty_stack ws)
      | no e ↦ (let p : 0 < n = (elim (dec_lt 0 n) [ yes q ↦ q | no q ↦ absurd (e (omega arith)) ]) in held_stack ws n p (sym (tests ws n p) ∙ t))
    ]

-- and it says yes to every stack
pub stack_valid : (ws : List ℕ) (n : ℕ) → Stack ws n → valid_stack ws n ≡ true
stack_valid ws n st =
    elim (ℕ_discrete n 0) [
      | yes e ↦ rw (eq-eqb n 0 e)
      | no e ↦ (let p : 0 < n = (elim (dec_lt 0 n) [ yes q ↦ q | no q ↦ absurd (e (omega arith)) ]) in tests ws n p ∙ stack_held ws n p st)
    ]
