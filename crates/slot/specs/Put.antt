-- Words written over a list of words, records one after the other, and lists read back number by number.
-- Assumes nothing.
use Rattle.std.specs.Prelude.{Bool, List, [], ◌∷◌, ◌++◌, ℕ, zero, suc, ◌+◌, eqb, length, get_or, take, drop}
use Rattle.search.specs.Every.{every}

-- the list with l written from at on
abbrev pub put : List ℕ → ℕ → List ℕ → List ℕ
put ws at l = take at ws ++ (l ++ drop (at + length l) ws)

-- whether the words from at on are those of l
abbrev pub matches : List ℕ → ℕ → List ℕ → Bool
matches ws at l = every (λ (i : ℕ). eqb (get_or ws (at + i) 0) (get_or l i 0)) (length l)

module _ {A : Type 0} where
  -- the words of the first k records of a list (the record d where there are fewer)
  unfoldable pub many : (A → List ℕ) → A → ℕ → List A → List ℕ
  many words d zero rs = []
  many words d (suc k) rs = many words d k rs ++ words (get_or rs k d)

  -- f 0, f 1, .., f (k - 1)
  unfoldable pub listed : (ℕ → A) → ℕ → List A
  listed f zero = []
  listed f (suc k) = listed f k ++ (f k ∷ [])
