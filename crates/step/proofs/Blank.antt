-- Registers made Unknown one by one: what `blank_where` is for the kinds of writes.
-- Assumes nothing.
use mathlib.Core.Path.{◌≡◌, refl, sym, ap, ap₂, ◌∙◌}
use mathlib.Core.Bool.{Bool, true, false, ◌||◌}
use mathlib.Core.List.{List, [], ◌∷◌}
use Prim.Native.Nat.{ℕ, zero, suc, ◌+◌, ◌≤◌}
use native.Mathlib.Nat.{zero-add, add-zero, add-suc, suc-add}
use native.Mathlib.Omega.{arith}
use borrow.Author.Tests.{eq-eqb, ne_eqb}
use lib.Dec.{eqb}
use lib.ListN.{set}
use Rattle.words.specs.Choice.{pick}
use Rattle.decoder.specs.Written.{blank_where}

module _ {A : Type 0} (b : A) where
  pub blank_never : (i : ℕ) (xs : List A) → blank_where b (λ (r : ℕ). false) i xs ≡ xs
  unfolding blank_where
  blank_never i [] = refl
  blank_never i (x ∷ xs) = ap (λ (l : List A). x ∷ l) (blank_never (suc i) xs)

  blank_from : (f g : ℕ → Bool) (i : ℕ) (xs : List A) → ((r : ℕ) → i ≤ r → f r ≡ g r) → blank_where b f i xs ≡ blank_where b g i xs
  unfolding blank_where
  blank_from f g i [] h = refl
  blank_from f g i (x ∷ xs) h = ap₂ (λ (t : Bool) (l : List A). pick t b x ∷ l) (h i (omega arith)) (blank_from f g (suc i) xs (λ r l. h r (omega arith)))

  already : (t : Bool) → pick t b b ≡ b
  already true = refl
  already false = refl

  -- a register that is blanked now need not be blanked later
  pub blank_now : (f g : ℕ → Bool) (i j : ℕ) (xs : List A) → ((r : ℕ) → (r ≡ i + j → ⊥) → f r ≡ g r) → g (i + j) ≡ true
      → blank_where b g i xs ≡ blank_where b f i (set xs j b)
  unfolding blank_where
  blank_now f g i j [] h t = refl
  blank_now f g i zero (x ∷ xs) h t =
      ap₂ (λ (y : A) (l : List A). y ∷ l)
      (ap (λ (u : Bool). pick u b x) (ap g (sym (add-zero i)) ∙ t) ∙ sym (already (f i)))
      (sym (blank_from f g (suc i) xs (λ r l. h r (omega arith))))
  blank_now f g i (suc j) (x ∷ xs) h t =
      let e : i + suc j ≡ suc i + j = add-suc i j ∙ sym (suc-add i j) in
      ap₂ (λ (u : Bool) (l : List A). pick u b x ∷ l)
      (sym (h i (omega arith)))
      (blank_now f g (suc i) j xs (λ r ne. h r (λ z. ne (z ∙ e))) (ap g (sym e) ∙ t))

  -- one register
  pub blank_one : (d : ℕ) (xs : List A) → blank_where b (λ (r : ℕ). eqb r d) 0 xs ≡ set xs d b
  blank_one d xs =
      blank_now (λ (r : ℕ). false) (λ (r : ℕ). eqb r d) 0 d xs
      (λ r ne. sym (ne_eqb r d (λ z. ne (z ∙ sym (zero-add d)))))
      (eq-eqb (0 + d) d (zero-add d))
      ∙ blank_never 0 (set xs d b)

  -- two registers, which may be the same
  pub blank_two : (d a : ℕ) (xs : List A) → blank_where b (λ (r : ℕ). eqb r d || eqb r a) 0 xs ≡ set (set xs d b) a b
  blank_two d a xs =
      blank_now (λ (r : ℕ). eqb r a) (λ (r : ℕ). eqb r d || eqb r a) 0 d xs
      (λ r ne. sym (ap (λ (t : Bool). t || eqb r a) (ne_eqb r d (λ z. ne (z ∙ sym (zero-add d))))))
      (ap (λ (t : Bool). t || eqb (0 + d) a) (eq-eqb (0 + d) d (zero-add d)))
      ∙ blank_one a (set xs d b)
