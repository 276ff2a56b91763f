-- A run inside a block: turns that leave the stack alone, whatever it holds. The code of the walk takes many such turns at once.
-- Assumes nothing.
use Rattle.std.specs.Prelude.{ℕ, ◌≤◌, ◌≡◌, false, List, ◌++◌, length}
use Rattle.turns.specs.Grounds.{busy, Event, Ground, Pile, pile_of, conf}
use Rattle.turns.specs.Turns.{Reach, left_in}
use Rattle.turns.specs.Histories.{steps, blocks, tables}

-- more events, the latest first
abbrev pub tells : {P S A O E M : Type 0} → List (Event P S A O) → Pile P S A O E M → Pile P S A O E M
tells x k = pile_of k.stack k.full (x ++ k.log) k.lent

-- from the word at p with s and the map v to the word at p' with s' and v', by so many steps and blocks begun, and no table
pub record Going {P S A O E M : Type 0} (g : Ground P S A O E M) (p : P) (s : S) (v : List ℕ) (p' : P) (s' : S) (v' : List ℕ) (n b : ℕ) : Type 0 where
  pub extra : List (Event P S A O)
  pub goes : (k : Pile P S A O E M) → k.full ≡ false → Reach g (conf (busy p s) k v) (conf (busy p' s') (tells extra k) v')
  pub stepped : n ≡ steps extra
  pub begun : b ≡ blocks extra
  pub quiet : tables extra ≡ 0
  pub map_length : length v' ≡ length v
  pub less : left_in g (busy p' s') v' ≤ left_in g (busy p s) v
