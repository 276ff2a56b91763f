-- Lists: what holds of each element, through sorting, and the last element.
-- Assumes nothing.
use Prim.Native.Nat.{ℕ, suc, ◌+◌}
use mathlib.Core.Path.{◌≡◌, refl, sym, ap, subst}
use mathlib.Core.Bool.{Bool, true, false, true≢false}
use mathlib.Core.Logic.{◌⊎◌, inl, inr}
use mathlib.Core.List.{List, [], ◌∷◌, ◌++◌, Memᴰ}
use native.Mathlib.Omega.{arith}
use lib.ListN.{length, length-append}
use lib.Dec.{ltb}
use Rattle.words.specs.Choice.{pick}
use Rattle.stack.specs.Sort.{insert_by, insert_all, sort_by}
use Rattle.turns.specs.Turns.{on_last}

module _ {E : Type 0} where
  -- Q holds of each element
  unfoldable pub Each : (E → Type 0) → List E → Type 0
  Each Q [] = Unit
  Each Q (x ∷ l) = Q x × Each Q l

  pub each_append : (Q : E → Type 0) (l m : List E) → Each Q l → Each Q m → Each Q (l ++ m)
  unfolding Each
  each_append Q [] m a b = b
  each_append Q (x ∷ l) m a b = (a.0, each_append Q l m a.1 b)

  pub each_first : (Q : E → Type 0) (l m : List E) → Each Q (l ++ m) → Each Q l
  unfolding Each
  each_first Q [] m a = tt
  each_first Q (x ∷ l) m a = (a.0, each_first Q l m a.1)

  pub each_rest : (Q : E → Type 0) (l m : List E) → Each Q (l ++ m) → Each Q m
  unfolding Each
  each_rest Q [] m a = a
  each_rest Q (x ∷ l) m a = each_rest Q l m a.1

  pub each_one : (Q : E → Type 0) (x : E) → Q x → Each Q (x ∷ [])
  unfolding Each
  each_one Q x h = (h, tt)

  pub each_last : (Q : E → Type 0) (l : List E) (x : E) → Each Q (l ++ (x ∷ [])) → Q x
  unfolding Each
  each_last Q l x a = (each_rest Q l (x ∷ []) a).0

  pub each_at : (Q : E → Type 0) {x : E} {l : List E} → Memᴰ x l → Each Q l → Q x
  unfolding Each
  each_at Q (Memᴰ.head e) a = subst Q (sym e) a.0
  each_at Q (Memᴰ.tail m) a = each_at Q m a.1

  -- the element put in, and each of the others
  insert_each : (Q : E → Type 0) (key : E → ℕ) (x : E) (l : List E) → Q x → Each Q l → Each Q (insert_by key x l)
  unfolding Each insert_by
  insert_each Q key x [] h a = (h, tt)
  insert_each Q key x (y ∷ l) h a = by (ltb (key x) (key y)) (insert_each Q key x l h a.1)
    where
      by : (t : Bool) → Each Q (insert_by key x l) → Each Q (pick t (x ∷ y ∷ l) (y ∷ insert_by key x l))
      by true r = (h, a)
      by false r = (a.0, r)

  all_each : (Q : E → Type 0) (key : E → ℕ) (m l : List E) → Each Q m → Each Q l → Each Q (insert_all key m l)
  unfolding Each insert_all
  all_each Q key m [] a b = a
  all_each Q key m (x ∷ l) a b = all_each Q key (insert_by key x m) l (insert_each Q key x m b.0 a) b.1

  pub sort_each : (Q : E → Type 0) (key : E → ℕ) (l : List E) → Each Q l → Each Q (sort_by key l)
  unfolding Each
  sort_each Q key l a = all_each Q key [] l tt a

  insert_length : (key : E → ℕ) (x : E) (l : List E) → length (insert_by key x l) ≡ suc (length l)
  unfolding insert_by
  insert_length key x [] = refl
  insert_length key x (y ∷ l) = by (ltb (key x) (key y)) (insert_length key x l)
    where
      by : (t : Bool) → length (insert_by key x l) ≡ suc (length l) → length (pick t (x ∷ y ∷ l) (y ∷ insert_by key x l)) ≡ suc (suc (length l))
      by true r = refl
      by false r = ap suc r

  all_length : (key : E → ℕ) (m l : List E) → length (insert_all key m l) ≡ length m + length l
  unfolding insert_all
  all_length key m [] = omega arith
  all_length key m (x ∷ l) = omega (arith, all_length key (insert_by key x m) l, insert_length key x m)

  pub sort_length : (key : E → ℕ) (l : List E) → length (sort_by key l) ≡ length l
  sort_length key l = omega (arith, all_length key [] l)

  pub snoc_length : (l : List E) (x : E) → length (l ++ (x ∷ [])) ≡ suc (length l)
  snoc_length l x = omega (arith, length-append l (x ∷ []))

  pub on_last_lem : {B : Type 0} (l : List E) (x : E) (z : B) (f : List E → E → B) → on_last (l ++ (x ∷ [])) z f ≡ f l x
  unfolding on_last
  on_last_lem [] x z f = refl
  on_last_lem (y ∷ l) x z f = on_last_lem l x (f [] y) (λ m u. f (y ∷ m) u)

  -- a list has no element, or a last one
  pub data Ends : List E → Type 0 where
    empty : Ends []
    last : (l : List E) (x : E) → Ends (l ++ (x ∷ []))

  pub ends : (l : List E) → Ends l
  ends [] = empty
  ends (x ∷ l) = one_more l (ends l)
    where
      one_more : (m : List E) → Ends m → Ends (x ∷ m)
      one_more [] empty = last [] x
      one_more _ (last m y) = last (x ∷ m) y

  -- no last element, no element
  pub no_last : (l : List E) → on_last l true (λ m x. false) ≡ true → l ≡ []
  no_last l e = by l (ends l) e
    where
      by : (m : List E) → Ends m → on_last m true (λ k x. false) ≡ true → m ≡ []
      by [] empty q = refl
      by _ (last m x) q = absurd (true≢false (sym (rw (on_last_lem m x) at q)))

  -- Q holds of some element
  pub data Some (Q : E → Type 0) : List E → Type 0 where
    this : {x : E} {l : List E} → Q x → Some Q (x ∷ l)
    other : {x : E} {l : List E} → Some Q l → Some Q (x ∷ l)

  pub some_first : (Q : E → Type 0) {l : List E} (m : List E) → Some Q l → Some Q (l ++ m)
  some_first Q m (this h) = this h
  some_first Q m (other s) = other (some_first Q m s)

  pub some_last : (Q : E → Type 0) (l : List E) (x : E) → Q x → Some Q (l ++ (x ∷ []))
  some_last Q [] x h = this h
  some_last Q (y ∷ l) x h = other (some_last Q l x h)

  -- of the last or of one before it
  pub some_split : (Q : E → Type 0) (l : List E) (x : E) → Some Q (l ++ (x ∷ [])) → Some Q l ⊎ Q x
  some_split Q [] x (this h) = inr h
  some_split Q [] x (other s) = absurd (elim s [ ])
  some_split Q (y ∷ l) x (this h) = inl (this h)
  some_split Q (y ∷ l) x (other s) = step (some_split Q l x s)
    where
      step : Some Q l ⊎ Q x → Some Q (y ∷ l) ⊎ Q x
      step (inl r) = inl (other r)
      step (inr h) = inr h

  insert_this : (Q : E → Type 0) (key : E → ℕ) (x : E) (l : List E) → Q x → Some Q (insert_by key x l)
  unfolding insert_by
  insert_this Q key x [] h = this h
  insert_this Q key x (y ∷ l) h = by (ltb (key x) (key y)) (insert_this Q key x l h)
    where
      by : (t : Bool) → Some Q (insert_by key x l) → Some Q (pick t (x ∷ y ∷ l) (y ∷ insert_by key x l))
      by true r = this h
      by false r = other r

  insert_other : (Q : E → Type 0) (key : E → ℕ) (x : E) (l : List E) → Some Q l → Some Q (insert_by key x l)
  unfolding insert_by
  insert_other Q key x [] s = absurd (elim s [ ])
  insert_other Q key x (y ∷ l) (this h) = by (ltb (key x) (key y))
    where
      by : (t : Bool) → Some Q (pick t (x ∷ y ∷ l) (y ∷ insert_by key x l))
      by true = other (this h)
      by false = this h
  insert_other Q key x (y ∷ l) (other s) = by (ltb (key x) (key y)) (insert_other Q key x l s)
    where
      by : (t : Bool) → Some Q (insert_by key x l) → Some Q (pick t (x ∷ y ∷ l) (y ∷ insert_by key x l))
      by true r = other (other s)
      by false r = other r

  all_first : (Q : E → Type 0) (key : E → ℕ) (m l : List E) → Some Q m → Some Q (insert_all key m l)
  unfolding insert_all
  all_first Q key m [] s = s
  all_first Q key m (x ∷ l) s = all_first Q key (insert_by key x m) l (insert_other Q key x m s)

  all_some : (Q : E → Type 0) (key : E → ℕ) (m l : List E) → Some Q l → Some Q (insert_all key m l)
  unfolding insert_all
  all_some Q key m [] s = absurd (elim s [ ])
  all_some Q key m (x ∷ l) (this h) = all_first Q key (insert_by key x m) l (insert_this Q key x m h)
  all_some Q key m (x ∷ l) (other s) = all_some Q key (insert_by key x m) l s

  pub sort_some : (Q : E → Type 0) (key : E → ℕ) (l : List E) → Some Q l → Some Q (sort_by key l)
  sort_some Q key l s = all_some Q key [] l s
