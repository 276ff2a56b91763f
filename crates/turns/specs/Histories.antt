-- What a history tells: the walk's counts, and the places that the code itself leads to.
-- Assumes nothing. A history has its latest event first.
use Rattle.std.specs.Prelude.{ℕ, ◌+◌, ◌≡◌, Bool, true, not}
use mathlib.Core.List.{List, [], ◌∷◌, ◌++◌, Memᴰ}
use Rattle.words.specs.Choice.{pick}
use Rattle.turns.specs.Grounds.{Way, to, table, on, jump, leave, Event, begun, stepped, looked, Ground}

abbrev pub one : Bool → ℕ
one t = pick t 1 0

module _ {P S A O : Type 0} where
  -- by cases
  abbrev pub on_event : {B : Type 0} → Event P S A O → (P → B) → (P → Bool → S → B) → (P → A → O → B) → B
  on_event (begun p) f g h = f p
  on_event (stepped p t s) f g h = g p t s
  on_event (looked p a o) f g h = h p a o

  -- the sum of what each event counts
  unfoldable pub total : (Event P S A O → ℕ) → List (Event P S A O) → ℕ
  total f [] = 0
  total f (x ∷ l) = f x + total f l

  -- "instructions stepped"
  abbrev pub steps : List (Event P S A O) → ℕ
  steps l = total (λ x. on_event x (λ p. 0) (λ p t s. 1) (λ p a o. 0)) l

  -- "Steps that found their word unvisited"
  abbrev pub first_visits : List (Event P S A O) → ℕ
  first_visits l = total (λ x. on_event x (λ p. 0) (λ p t s. one t) (λ p a o. 0)) l

  -- "blocks begun (unvisited words popped or jumped to)"
  abbrev pub blocks : List (Event P S A O) → ℕ
  blocks l = total (λ x. on_event x (λ p. 1) (λ p t s. 0) (λ p a o. 0)) l

  -- tables asked for
  abbrev pub tables : List (Event P S A O) → ℕ
  tables l = total (λ x. on_event x (λ p. 0) (λ p t s. 0) (λ p a o. 1)) l

  -- "tables read", by what tells a table that was
  abbrev pub tables_read : (O → Bool) → List (Event P S A O) → ℕ
  tables_read is_read l = total (λ x. on_event x (λ p. 0) (λ p t s. 0) (λ p a o. one (is_read o))) l

  -- "tables not read": refused or External
  abbrev pub tables_not_read : (O → Bool) → List (Event P S A O) → ℕ
  tables_not_read is_read l = total (λ x. on_event x (λ p. 0) (λ p t s. 0) (λ p a o. one (not (is_read o)))) l

  -- four numbers are a history's counts
  pub record Tally (is_read : O → Bool) (l : List (Event P S A O)) (n b r m : ℕ) : Type 0 where
    pub stepped : n ≡ steps l
    pub begun : b ≡ blocks l
    pub read : r ≡ tables_read is_read l
    pub not_read : m ≡ tables_not_read is_read l

  -- the earliest event first
  unfoldable pub in_order : List (Event P S A O) → List (Event P S A O)
  in_order [] = []
  in_order (x ∷ l) = in_order l ++ (x ∷ [])

-- where a word leads from a state, and with which: the next word of one that goes on, a jump's target, a way's, a table's entries
pub data LeadsTo {P S A O E M : Type 0} (g : Ground P S A O E M) (p : P) (s : S) : P → S → Type 0 where
  next_word : {t : S} → g.move p s ≡ on t → LeadsTo g p s (g.next p) t
  jumped : {q : P} {t : S} → g.move p s ≡ jump q t → LeadsTo g p s q t
  went : {q : P} {t : S} {ys : List (Way P S A)} → g.move p s ≡ leave ys → Memᴰ (to q t) ys → LeadsTo g p s q t
  listed : {q : P} {t : S} {a : A} {ys : List (Way P S A)} → g.move p s ≡ leave ys → Memᴰ (table a t) ys
      → Memᴰ q (g.listed (g.look a)) → LeadsTo g p s q t

-- a place is reached from the starts, with a state
pub data ReachedFrom {P S A O E M : Type 0} (g : Ground P S A O E M) (starts : List P) (s₀ : S) : P → S → Type 0 where
  start : {p : P} → Memᴰ p starts → ReachedFrom g starts s₀ p s₀
  further : {p q : P} {s t : S} → ReachedFrom g starts s₀ p s → g.is_word p ≡ true → LeadsTo g p s q t → ReachedFrom g starts s₀ q t
