-- Words written over a list: what is read back, what is left, and records one after the other.
-- Assumes nothing.
use mathlib.Core.Bool.{Bool, true}
use mathlib.Core.List.{List, [], ◌∷◌, ◌++◌, append_assoc, append-nil}
use mathlib.Core.Path.{◌≡◌, refl, sym, ap, ◌∙◌}
use Prim.Native.Nat.{ℕ, zero, suc, ◌+◌, ◌-◌, ◌*◌, ◌≤◌, ◌<◌}
use native.Mathlib.Decide.{dec_lt}
use native.Mathlib.Numerals.{add-one}
use native.Mathlib.Omega.{arith}
use lib.Dec.{eqb}
use lib.ListN.{length, get_or, set, take, drop, length-append, length-take, length-drop, take-append-drop, drop_of_length-le, get_or-append}
use lib.Seq.{take-suc-set, take-suc, take_all, get_or_at, sets, sets-eq, take_at, drop-append-add, drop-drop, length-take-le, get_or-append-add, get_or-take, get_or-drop, ext_get_or}
use borrow.Author.Tests.{eqb-true, eq-eqb}
use Rattle.search.proofs.EveryLaws.{every_at}
use Rattle.search.specs.Every.{every}
use Rattle.slot.specs.Put.{put, matches, many, listed}

pub put_nil : (ws : List ℕ) (at : ℕ) → ws ≡ put ws at []
put_nil ws at = let e : at + 0 ≡ at = omega arith in rw e (sym (take-append-drop at ws))

pub put_length : (ws : List ℕ) (at : ℕ) (l : List ℕ) → at + length l ≤ length ws → length (put ws at l) ≡ length ws
put_length ws at l h = simp (length-append, length-take, length-drop) (omega arith)

-- what is written next goes behind
pub put_put : (ws : List ℕ) (at to : ℕ) (a b : List ℕ) → to ≡ at + length a → to + length b ≤ length ws → put (put ws at a) to b ≡ put ws at (a ++ b)
put_put ws at to a b e h =
    let front : List ℕ = take at ws ++ a in
    let rest : List ℕ = drop (at + length a) ws in
    let long : length front ≡ to = length-append (take at ws) a ∙ omega (arith, length-take-le at ws (omega arith)) in
    let whole : put ws at a ≡ front ++ rest = sym (append_assoc (take at ws) a rest) in
    let low : take to (put ws at a) ≡ front = ap (take to) whole ∙ take_at front rest to long in
    let c : to + length b ≡ length front + length b = ap (λ (m : ℕ). m + length b) (sym long) in
    let d : at + length a + length b ≡ at + length (a ++ b) = omega (arith, length-append a b) in
    let high : drop (to + length b) (put ws at a) ≡ drop (at + length (a ++ b)) ws =
    ap (drop (to + length b)) whole
    ∙ ap (λ (m : ℕ). drop m (front ++ rest)) c
    ∙ drop-append-add front rest (length b)
    ∙ drop-drop (length b) (at + length a) ws
    ∙ ap (λ (m : ℕ). drop m ws) d in
    rw (low, high) (append_assoc (take at ws) a _ ∙ ap (λ (l : List ℕ). take at ws ++ l) (sym (append_assoc a b _)))

-- three parts one after the other
pub put_put3 : (ws : List ℕ) (at to up : ℕ) (a b c : List ℕ) → to ≡ at + length a → up ≡ to + length b → up + length c ≤ length ws
    → put (put (put ws at a) to b) up c ≡ put ws at (a ++ (b ++ c))
put_put3 ws at to up a b c e f h =
    ap (λ (l : List ℕ). put l up c) (put_put ws at to a b e (omega arith))
    ∙ put_put ws at up (a ++ b) c (omega (arith, length-append a b)) h
    ∙ ap (put ws at) (append_assoc a b c)

-- a whole list written over
pub put_whole : (ws l : List ℕ) → length ws ≡ length l → put ws 0 l ≡ l
put_whole ws l h =
    let z : 0 + length l ≡ length l = omega arith in
    rw (z, drop_of_length-le ws {i = length l} (omega arith)) (append-nil l)

-- stores one after the other
pub stored : (l ws : List ℕ) (at : ℕ) → at + length l ≤ length ws → sets ws at l ≡ put ws at l
stored l ws at h = sets-eq l ws at h ∙ append_assoc (take at ws) l (drop (at + length l) ws)

-- what was written is read, and outside of it the words are as they were
pub put_read : (ws : List ℕ) (at : ℕ) (l : List ℕ) (i : ℕ) → at ≤ length ws → i < length l → get_or (put ws at l) (at + i) 0 ≡ get_or l i 0
put_read ws at l i h k =
    let long : length (take at ws) ≡ at = length-take-le at ws h in
    ap (λ (m : ℕ). get_or (put ws at l) (m + i) 0) (sym long)
    ∙ get_or-append-add (take at ws) (l ++ drop (at + length l) ws) i 0
    ∙ get_or-append l (drop (at + length l) ws) 0 i k

pub put_low : (ws : List ℕ) (at : ℕ) (l : List ℕ) (i : ℕ) → at ≤ length ws → i < at → get_or (put ws at l) i 0 ≡ get_or ws i 0
put_low ws at l i h a = get_or-append (take at ws) _ 0 i (omega (arith, length-take-le at ws h)) ∙ get_or-take at ws i 0 a

pub put_high : (ws : List ℕ) (at : ℕ) (l : List ℕ) (i : ℕ) → at ≤ length ws → at + length l ≤ i → get_or (put ws at l) i 0 ≡ get_or ws i 0
put_high ws at l i h a =
    let r : ℕ = i - (at + length l) in
    let f : length (take at ws) ≡ at = length-take-le at ws h in
    let c : i ≡ length (take at ws) + (length l + r) = omega arith in
    let d : at + length l + r ≡ i = omega arith in
    ap (λ (m : ℕ). get_or (put ws at l) m 0) c
    ∙ get_or-append-add (take at ws) (l ++ drop (at + length l) ws) (length l + r) 0
    ∙ get_or-append-add l (drop (at + length l) ws) r 0
    ∙ get_or-drop (at + length l) ws r 0
    ∙ ap (λ (m : ℕ). get_or ws m 0) d

-- the words from at on are those of l
unfoldable pub Holds : List ℕ → ℕ → List ℕ → Type 0
Holds ws at l = (i : ℕ) → i < length l → get_or ws (at + i) 0 ≡ get_or l i 0

pub holds_put : (ws : List ℕ) (at : ℕ) (l : List ℕ) → at ≤ length ws → Holds (put ws at l) at l
unfolding Holds
holds_put ws at l h i k = put_read ws at l i h k

pub holds_left : (ws : List ℕ) (at : ℕ) (a b : List ℕ) → Holds ws at (a ++ b) → Holds ws at a
unfolding Holds
holds_left ws at a b h i k = h i (omega (arith, length-append a b)) ∙ get_or-append a b 0 i k

pub holds_right : (ws : List ℕ) (at : ℕ) (a b : List ℕ) → Holds ws at (a ++ b) → Holds ws (at + length a) b
unfolding Holds
holds_right ws at a b h i k =
    let e : at + length a + i ≡ at + (length a + i) = omega arith in
    rw e (h (length a + i) (omega (arith, length-append a b)) ∙ get_or-append-add a b i 0)

pub holds_first : (ws : List ℕ) (at x : ℕ) (l : List ℕ) → Holds ws at (x ∷ l) → get_or ws at 0 ≡ x
unfolding Holds
holds_first ws at x l h = let z : at + 0 ≡ at = omega arith in rw z at (h 0 (omega arith))

-- words that agree with others hold what those hold
pub holds_kept : (ws vs : List ℕ) (at to : ℕ) (l : List ℕ) → ((i : ℕ) → i < length l → get_or vs (to + i) 0 ≡ get_or ws (at + i) 0) → Holds ws at l → Holds vs to l
unfolding Holds
holds_kept ws vs at to l e h i k = e i k ∙ h i k

-- a test that holds at each number below a bound
pub every_holds : (p : ℕ → Bool) (n : ℕ) → ((i : ℕ) → i < n → p i ≡ true) → every p n ≡ true
unfolding every
every_holds p zero h = refl
every_holds p (suc n) h = rw (every_holds p n (λ i k. h i (omega arith)), h n (omega arith))

-- tests that agree at each number below a bound
pub every_same : (p q : ℕ → Bool) (n : ℕ) → ((i : ℕ) → i < n → p i ≡ q i) → every p n ≡ every q n
unfolding every
every_same p q zero h = refl
every_same p q (suc n) h = rw (every_same p q n (λ i k. h i (omega arith)), h n (omega arith))

-- the test of it
pub matches_holds : (ws : List ℕ) (at : ℕ) (l : List ℕ) → matches ws at l ≡ true → Holds ws at l
unfolding Holds
matches_holds ws at l h i k = eqb-true (get_or ws (at + i) 0) (get_or l i 0) (every_at (λ (i : ℕ). eqb (get_or ws (at + i) 0) (get_or l i 0)) (length l) i h k)

pub holds_matches : (ws : List ℕ) (at : ℕ) (l : List ℕ) → Holds ws at l → matches ws at l ≡ true
unfolding Holds
holds_matches ws at l h =
    every_holds (λ (i : ℕ). eqb (get_or ws (at + i) 0) (get_or l i 0)) (length l) (λ i k. eq-eqb (get_or ws (at + i) 0) (get_or l i 0) (h i k))

module _ {A : Type 0} where
  -- one element more of a list that is filled in place
  pub listed_more : (f : ℕ → A) (gs : List A) (i : ℕ) → i < length gs → take i gs ≡ listed f i → take (i + 1) (set gs i (f i)) ≡ listed f (i + 1)
  unfolding listed
  listed_more f gs i h e = rw (add-one i) (take-suc-set gs i (f i) h ∙ ap (λ (l : List A). l ++ (f i ∷ [])) e)

  pub listed_whole : (f : ℕ → A) (gs : List A) (k n : ℕ) → k ≡ n → length gs ≡ n → take k gs ≡ listed f k → gs ≡ listed f n
  listed_whole f gs k n e l t = sym (take_all n gs (omega arith)) ∙ ap (λ (m : ℕ). take m gs) (sym e) ∙ t ∙ ap (listed f) e

  listed_take : (f : ℕ → A) (d : A) (rs : List A) (k : ℕ) → k ≤ length rs → ((i : ℕ) → i < k → f i ≡ get_or rs i d) → listed f k ≡ take k rs
  unfolding listed
  listed_take f d rs zero h e = refl
  listed_take f d rs (suc k) h e =
      ap (λ (l : List A). l ++ (f k ∷ [])) (listed_take f d rs k (omega arith) (λ i a. e i (omega arith)))
      ∙ ap (λ (x : A). take k rs ++ (x ∷ [])) (e k (omega arith))
      ∙ sym (take-suc rs k d (omega arith))

  -- a list whose elements are f's is listed
  pub listed_all : (f : ℕ → A) (d : A) (rs : List A) (k : ℕ) → length rs ≡ k → ((i : ℕ) → i < k → f i ≡ get_or rs i d) → listed f k ≡ rs
  listed_all f d rs k h e = listed_take f d rs k (omega arith) e ∙ take_all k rs (omega arith)

  pub listed_same : (f g : ℕ → A) (k : ℕ) → ((i : ℕ) → i < k → f i ≡ g i) → listed f k ≡ listed g k
  unfolding listed
  listed_same f g zero e = refl
  listed_same f g (suc k) e = rw (listed_same f g k (λ i a. e i (omega arith)), e k (omega arith))

  -- one element more
  pub listed_one : (f : ℕ → A) (k : ℕ) → listed f (k + 1) ≡ listed f k ++ (f k ∷ [])
  unfolding listed
  listed_one f k = rw (add-one k)

  pub listed_length : (f : ℕ → A) (k : ℕ) → length (listed f k) ≡ k
  unfolding listed
  listed_length f zero = refl
  listed_length f (suc k) = simp length-append (omega (arith, listed_length f k))

  pub listed_get : (f : ℕ → A) (d : A) (k i : ℕ) → i < k → get_or (listed f k) i d ≡ f i
  unfolding listed
  listed_get f d zero i h = absurd (let z : ⊥ = omega arith in z)
  listed_get f d (suc k) i h =
      elim (dec_lt i k) [
        | yes a ↦ get_or-append (listed f k) (f k ∷ []) d i (omega (arith, listed_length f k)) ∙ listed_get f d k i a
        | no a ↦
            let e : i ≡ k = omega arith in
            rw e (get_or_at (listed f k) (f k) [] d k (listed_length f k))
      ]

module _ {A : Type 0} (words : A → List ℕ) (d : A) (n : ℕ) (wide : (r : A) → length (words r) ≡ n) where
  pub many_length : (k : ℕ) (rs : List A) → length (many words d k rs) ≡ k * n
  unfolding many
  many_length zero rs = omega arith
  many_length (suc k) rs = simp length-append (omega (arith, many_length k rs, wide (get_or rs k d)))

  -- one record more is written
  pub many_more : (ws : List ℕ) (at k : ℕ) (rs : List A) → at + k * n + n ≤ length ws
      → put (put ws at (many words d k rs)) (at + k * n) (words (get_or rs k d)) ≡ put ws at (many words d (k + 1) rs)
  unfolding many
  many_more ws at k rs h =
      put_put ws at (at + k * n) (many words d k rs) (words (get_or rs k d)) (omega (arith, many_length k rs)) (omega (arith, wide (get_or rs k d)))
      ∙ rw (add-one k)

  pub many_holds : (ws : List ℕ) (at k : ℕ) (rs : List A) → Holds ws at (many words d k rs) → (i : ℕ) → i < k → Holds ws (at + i * n) (words (get_or rs i d))
  unfolding many
  many_holds ws at zero rs h i l = absurd (let z : ⊥ = omega arith in z)
  many_holds ws at (suc k) rs h i l =
      elim (dec_lt i k) [
        | yes a ↦ many_holds ws at k rs (holds_left ws at (many words d k rs) (words (get_or rs k d)) h) i a
        | no a ↦
            let e : i ≡ k = omega arith in
            rw (e, ← many_length k rs) (holds_right ws at (many words d k rs) (words (get_or rs k d)) h)
      ]

-- words that stand there already
pub put_kept : (ws : List ℕ) (at : ℕ) (l : List ℕ) → at + length l ≤ length ws → ((i : ℕ) → i < length l → get_or l i 0 ≡ get_or ws (at + i) 0) → put ws at l ≡ ws
put_kept ws at l h e = ext_get_or 0 (put ws at l) ws (put_length ws at l h) (λ i a. same i (dec_lt i at) (dec_lt i (at + length l)))
  where
    same : (i : ℕ) → Dec (i < at) → Dec (i < at + length l) → get_or (put ws at l) i 0 ≡ get_or ws i 0
    same i (yes a) b = put_low ws at l i (omega arith) a
    same i (no a) (yes b) =
        let q : i ≡ at + (i - at) = omega arith in
        rw q (put_read ws at l (i - at) (omega arith) (omega arith) ∙ e (i - at) (omega arith))
    same i (no a) (no b) = put_high ws at l i (omega arith) (omega arith)
