-- Blanking the registers of a set in a loop: `take_lowest` until the set is empty, one register blanked a turn.
-- The invariant is that blanking the rest of the set gives the result: `blank_start` before the loop, `blank_turn` in each turn, `blank_none` after it.
-- Assumes nothing.
use mathlib.Core.Path.{◌≡◌, refl, sym, ap, ap₂, ◌∙◌, subst}
use mathlib.Core.Bool.{Bool, true, false}
use mathlib.Core.List.{List, [], ◌∷◌}
use Prim.Native.Nat.{ℕ, zero, suc, ◌+◌, ◌-◌, ◌%◌, ◌^◌, ◌≤◌, ◌<◌}
use native.Mathlib.Nat.{zero-add, add-zero, add-suc, suc-add, zero-div}
use native.Mathlib.Omega.{arith}
use lib.Dec.{eqb}
use lib.ListN.{length, set}
use Rattle.words.specs.Choice.{pick}
use Rattle.decoder.specs.Written.{set_of, in_set, lowest_of, blank_where}
use Rattle.decoder.specs.declared.Taken.{Taken}
use Rattle.decoder.proofs.Sets.{in_set_of}
use Rattle.decoder.proofs.Lowest.{lowest_lt, lowest_in, without_other, without_less}

module _ {A : Type 0} (blank : A) where
  blank_same : (f g : ℕ → Bool) (i : ℕ) (xs : List A) → ((r : ℕ) → r < i + length xs → f r ≡ g r) → blank_where blank f i xs ≡ blank_where blank g i xs
  unfolding blank_where
  blank_same f g i [] h = refl
  blank_same f g i (x ∷ xs) h =
      ap₂ (λ (b : Bool) (l : List A). pick b blank x ∷ l) (h i (omega arith)) (blank_same f g (suc i) xs (λ r l. h r (omega arith)))

  -- the set of a test says what the test does
  pub blank_start : (f : ℕ → Bool) (n : ℕ) (xs : List A) → length xs ≤ n → blank_where blank (in_set (set_of f n)) 0 xs ≡ blank_where blank f 0 xs
  blank_start f n xs h = blank_same (in_set (set_of f n)) f 0 xs (λ r l. in_set_of f n r (omega arith))

  -- the empty set: nothing is left to do
  pub blank_none : (i : ℕ) (xs : List A) → blank_where blank (in_set 0) i xs ≡ xs
  unfolding blank_where
  blank_none i [] = refl
  blank_none i (x ∷ xs) =
      ap₂ (λ (b : Bool) (l : List A). pick b blank x ∷ l) (ap (λ (n : ℕ). eqb (n % 2) 1) (zero-div (2 ^ i))) (blank_none (suc i) xs)

  already : (b : Bool) → pick b blank blank ≡ blank
  already true = refl
  already false = refl

  -- a place that is blanked now need not be blanked later
  blank_now : (f g : ℕ → Bool) (i j : ℕ) (xs : List A) → ((r : ℕ) → (r ≡ i + j → ⊥) → f r ≡ g r) → g (i + j) ≡ true
      → blank_where blank f i (set xs j blank) ≡ blank_where blank g i xs
  unfolding blank_where
  blank_now f g i j [] h t = refl
  blank_now f g i zero (x ∷ xs) h t =
      ap₂ (λ (y : A) (l : List A). y ∷ l)
      (already (f i) ∙ ap (λ (b : Bool). pick b blank x) (sym t ∙ ap g (add-zero i)))
      (blank_after f g (suc i) xs (λ r l. h r (omega arith)))
    where
      blank_after : (f g : ℕ → Bool) (k : ℕ) (ys : List A) → ((r : ℕ) → k ≤ r → f r ≡ g r) → blank_where blank f k ys ≡ blank_where blank g k ys
      blank_after f g k [] e = refl
      blank_after f g k (y ∷ ys) e =
          ap₂ (λ (b : Bool) (l : List A). pick b blank y ∷ l) (e k (omega arith)) (blank_after f g (suc k) ys (λ r l. e r (omega arith)))
  blank_now f g i (suc j) (x ∷ xs) h t =
      let e : i + suc j ≡ suc i + j = add-suc i j ∙ sym (suc-add i j) in
      ap₂ (λ (b : Bool) (l : List A). pick b blank x ∷ l)
      (h i (omega arith))
      (blank_now f g (suc i) j xs (λ r ne. h r (λ z. ne (z ∙ e))) (ap g (sym e) ∙ t))

  -- a turn: register r is blanked and leaves the set
  pub blank_take : (s r : ℕ) (xs : List A) → in_set s r ≡ true → blank_where blank (in_set (s - 2 ^ r)) 0 (set xs r blank) ≡ blank_where blank (in_set s) 0 xs
  blank_take s r xs t =
      blank_now (in_set (s - 2 ^ r)) (in_set s) 0 r xs
      (λ k ne. without_other s r t k (λ z. ne (z ∙ sym (zero-add r))))
      (ap (in_set s) (zero-add r) ∙ t)

  -- the same of what `take_lowest` answered, with the bound for the index and the measure
  pub blank_turn : (s : ℕ) (k : Taken) → k ≡ lowest_of s → 0 < s → s < 2 ^ 32
      → (k.register < 32) × (k.rest < s) × ((xs : List A) → blank_where blank (in_set k.rest) 0 (set xs k.register blank) ≡ blank_where blank (in_set s) 0 xs)
  blank_turn s k e some word =
      subst (λ (t : Taken). (t.register < 32) × (t.rest < s) × ((xs : List A) → blank_where blank (in_set t.rest) 0 (set xs t.register blank) ≡ blank_where blank (in_set s) 0 xs)) (sym e)
      (lowest_lt s some word, without_less s (lowest_of s).register (lowest_in s some word), λ xs. blank_take s (lowest_of s).register xs (lowest_in s some word))

  pub blank_length : (f : ℕ → Bool) (i : ℕ) (xs : List A) → length (blank_where blank f i xs) ≡ length xs
  unfolding blank_where
  blank_length f i [] = refl
  blank_length f i (x ∷ xs) = ap suc (blank_length f (suc i) xs)
