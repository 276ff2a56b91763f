-- Lists of waiting states, the next to pop last: how many, all at words of code, and the highest that is unvisited.
-- Assumes nothing.
use Prim.Native.Nat.{ℕ, zero, suc, ◌-◌, ◌<◌, ◌≤◌}
use mathlib.Core.Path.{◌≡◌, refl, sym, ap, ◌∙◌}
use mathlib.Core.Bool.{Bool, true, false, ◌&&◌}
use mathlib.Core.List.{List, [], ◌∷◌, ◌++◌}
use native.Mathlib.Omega.{arith}
use lib.ListN.{length}
use borrow.Author.Tests.{ne_eqb}
use Rattle.words.specs.Choice.{pick}
use Rattle.search.specs.Every.{every}
use Rattle.slot.specs.Put.{listed}
use Rattle.slot.proofs.PutLaws.{listed_length}
use Rattle.stack.specs.Stack.{Entry, entries, held_at}
use Rattle.executor.specs.Judge.{is_word, all_words}
use Rattle.executor.specs.Next.{seen, Top, none, some, on_top, top, Tops}

-- as many entries as are held
pub entries_length : (words : List ℕ) (n : ℕ) → length (entries words n) ≡ n
entries_length words n = listed_length (held_at words) n

-- all, by the last
and_assoc : (a b c : Bool) → a && (b && c) ≡ (a && b) && c
and_assoc true b c = refl
and_assoc false b c = refl

and_true : (a : Bool) → a && true ≡ a
and_true true = refl
and_true false = refl

pub all_last : (im : List ℕ) (es : List Entry) (e : Entry) → all_words im (es ++ (e ∷ [])) ≡ all_words im es && is_word im e.place
unfolding all_words
all_last im [] e = and_true (is_word im e.place)
all_last im (x ∷ es) e = rw (all_last im es e) (and_assoc (is_word im x.place) (all_words im es) (is_word im e.place))

-- all, one by one
pub all_held : (im words : List ℕ) (n : ℕ) → all_words im (entries words n) ≡ every (λ (i : ℕ). is_word im (held_at words i).place) n
unfolding all_words every listed
all_held im words zero = refl
all_held im words (suc n) = all_last im (entries words n) (held_at words n) ∙ ap (λ (t : Bool). t && is_word im (held_at words n).place) (all_held im words n)

-- the highest, by the last
pub top_last : (im v : List ℕ) (es : List Entry) (e : Entry)
    → top im v (es ++ (e ∷ [])) ≡ pick (seen im v e.place) (top im v es) (some es e)
unfolding top
top_last im v [] e = refl
top_last im v (x ∷ es) e = rw (top_last im v es e) (by (seen im v e.place))
  where
    under : Top → Top
    under t = on_top t (pick (seen im v x.place) none (some [] x)) (λ fs f. some (x ∷ fs) f)

    by : (t : Bool) → under (pick t (top im v es) (some es e)) ≡ pick t (under (top im v es)) (some (x ∷ es) e)
    by true = refl
    by false = refl

-- none is left
pub top_none : (im v words : List ℕ) → top im v (entries words 0) ≡ none
unfolding top listed
top_none im v words = refl

top_one_more : (im v words : List ℕ) (n : ℕ)
    → top im v (entries words (suc n)) ≡ pick (seen im v (held_at words n).place) (top im v (entries words n)) (some (entries words n) (held_at words n))
unfolding listed
top_one_more im v words n = top_last im v (entries words n) (held_at words n)

-- a visited state on top is passed over, another is the highest
pub top_old : (im v words : List ℕ) (n : ℕ) → 0 < n → seen im v (held_at words (n - 1)).place ≡ true
    → top im v (entries words n) ≡ top im v (entries words (n - 1))
top_old im v words n l e = let one_more : n ≡ suc (n - 1) = omega arith in ap (λ (k : ℕ). top im v (entries words k)) one_more ∙ top_one_more im v words (n - 1) ∙ rw e

pub top_new : (im v words : List ℕ) (n : ℕ) → 0 < n → seen im v (held_at words (n - 1)).place ≡ false
    → top im v (entries words n) ≡ some (entries words (n - 1)) (held_at words (n - 1))
top_new im v words n l e = let one_more : n ≡ suc (n - 1) = omega arith in ap (λ (k : ℕ). top im v (entries words k)) one_more ∙ top_one_more im v words (n - 1) ∙ rw e

-- what is left of n states where visited ones are taken off the top
pub tops_none : (im v words : List ℕ) (n m : ℕ) → m ≤ n → top im v (entries words n) ≡ top im v (entries words m) → m ≡ 0 → Tops im v words n 0
tops_none im v words n m l e z =
    record { within = omega arith; same = e ∙ ap (λ (k : ℕ). top im v (entries words k)) z ∙ top_none im v words }

pub tops_some : (im v words : List ℕ) (n m : ℕ) → m ≤ n → top im v (entries words n) ≡ top im v (entries words m) → 0 < m
    → seen im v (held_at words (m - 1)).place ≡ false → Tops im v words n m
tops_some im v words n m l e some_left new =
    let none-not : m ≡ 0 → ⊥ = λ z. omega arith in
    record {
      within = l;
      same = e ∙ top_new im v words m some_left new
          ∙ ap (λ (t : Bool). pick t none (some (entries words (m - 1)) (held_at words (m - 1)))) (sym (ne_eqb m 0 none-not));
    }

-- the highest unvisited of n held states is one of them, or there is none
pub data Found (im v words : List ℕ) (n : ℕ) : Type 0 where
  all_seen : top im v (entries words n) ≡ none → Found im v words n
  found : (m : ℕ) → m < n → top im v (entries words n) ≡ some (entries words m) (held_at words m) → seen im v (held_at words m).place ≡ false → Found im v words n

pub find : (im v words : List ℕ) (n : ℕ) → Found im v words n
find im v words zero = all_seen (top_none im v words)
find im v words (suc n) = by (seen im v (held_at words n).place) refl (find im v words n)
  where
    last : top im v (entries words (suc n)) ≡ pick (seen im v (held_at words n).place) (top im v (entries words n)) (some (entries words n) (held_at words n))
    last = top_one_more im v words n

    by : (t : Bool) → seen im v (held_at words n).place ≡ t → Found im v words n → Found im v words (suc n)
    by true e (all_seen a) = all_seen (last ∙ rw (e, a))
    by true e (found m l a new) = found m (omega arith) (last ∙ rw (e, a)) new
    by false e f = found n (omega arith) (last ∙ rw e) e
