-- Visited words counted a word at a time.
-- Assumes nothing.
use mathlib.Core.Path.{◌≡◌, refl, ap}
use mathlib.Core.Bool.{Bool}
use mathlib.Core.List.{List}
use Prim.Native.Nat.{ℕ, suc, ◌+◌}
use Rattle.words.specs.Choice.{pick}
use Rattle.visited.specs.Bits.{visited_at}
use Rattle.shown.specs.Counted.{visited_in}

module _ (ws : List ℕ) (base : ℕ) where
  pub none_counted : visited_in ws base 0 ≡ 0
  unfolding visited_in
  none_counted = refl

  -- one word more, by its bit
  pub one_more : (n : ℕ) (b : Bool) → visited_at ws (base + n) ≡ b → visited_in ws base (suc n) ≡ visited_in ws base n + pick b 1 0
  unfolding visited_in
  one_more n b e = ap (λ (t : Bool). visited_in ws base n + pick t 1 0) e
