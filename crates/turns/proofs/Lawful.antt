-- What the walk's laws ask of a ground: words are numbered in order below W, a waiting state keeps its place, no word asks too much.
-- Assumes nothing. proofs/SoundGround.antt shows it of every sound image.
use Prim.Native.Nat.{ℕ, ◌+◌, ◌≤◌, ◌<◌}
use mathlib.Core.Path.{◌≡◌}
use mathlib.Core.Bool.{true}
use mathlib.Core.List.{List, [], ◌∷◌}
use lib.ListN.{length}
use Rattle.turns.specs.Grounds.{Way, to, table, Ground, on_move}

module _ {P S A O E M : Type 0} (g : Ground P S A O E M) where
  -- how many places a way pushes at most
  abbrev pub width : Way P S A → ℕ
  width (to q s) = 1
  width (table a s) = length (g.listed (g.look a))

  unfoldable pub widths : List (Way P S A) → ℕ
  widths [] = 0
  widths (y ∷ ys) = width y + widths ys

  pub record Lawful : Type 0 where
    pub below : (p : P) → g.is_word p ≡ true → g.number p < g.words
    pub follows : (p : P) → g.is_word p ≡ true → g.is_word (g.next p) ≡ true → g.number (g.next p) ≡ g.number p + 1
    pub place_kept : (p : P) (s : S) → g.place (g.entry p s) ≡ p
    pub state_kept : (p : P) (s : S) → g.state (g.entry p s) ≡ s
    pub two : (p : P) (s : S) → on_move (g.move p s) (λ t. 0) (λ q t. 0) (length {A = Way P S A}) ≤ 2
    pub few : (p : P) (s : S) → on_move (g.move p s) (λ t. 0) (λ q t. 0) widths ≤ g.most
