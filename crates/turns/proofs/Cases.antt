-- A small walk that antt computes: eight words, a branch with a table, a jump, a run past the end, five slots or three.
-- Assumes nothing.
use Prim.Native.Nat.{ℕ, ◌+◌}
use mathlib.Core.Path.{◌≡◌, refl}
use mathlib.Core.Bool.{true}
use mathlib.Core.List.{List, [], ◌∷◌}
use lib.Dec.{eqb, ltb}
use Rattle.words.specs.Choice.{pick}
use Rattle.stack.specs.Sort.{insert_by, insert_all}
use Rattle.visited.specs.Bits.{cleared, ones_below}
use Rattle.turns.specs.Grounds.{to, table, Move, on, jump, leave, begun, stepped, looked, Ground, Conf}
use Rattle.turns.specs.Turns.{on_last, push_each, take_way, take_ways, run, walk_of, walk_from}
use Rattle.turns.specs.Histories.{total, steps, blocks, tables_read, tables_not_read, in_order}

-- a place is a word's number, a state a number that goes up; a waiting state is both
record Waiting : Type 0 where
  at : ℕ
  state : ℕ

-- word 1 leaves by 5, 3 and two tables, word 3 jumps to 6, word 5 ends its block, the others go on
move_at : ℕ → ℕ → Move ℕ ℕ ℕ
move_at p s =
    pick (eqb p 1) (leave (to 5 s ∷ to 3 (s + 10) ∷ table 0 (s + 20) ∷ table 1 (s + 30) ∷ []))
    (pick (eqb p 3) (jump 6 s) (pick (eqb p 5) (leave []) (on (s + 1))))

-- table 0 lists 3, 6 and 9, which is no word; table 1 is not read
list_of : ℕ → List ℕ
list_of a = pick (eqb a 0) (3 ∷ 6 ∷ 9 ∷ []) []

small : ℕ → Ground ℕ ℕ ℕ ℕ Waiting ℕ
unfolding move_at list_of
small slots = record {
  words = 8;
  slots = slots;
  most = 6;
  is_word = λ p. ltb p 8;
  number = λ p. p;
  next = λ p. p + 1;
  entry = λ p s. record { at = p; state = s };
  place = λ e. e.at;
  state = λ e. e.state;
  key = λ e. e.at;
  move = move_at;
  look = λ a. a;
  is_read = λ o. eqb o 0;
  listed = list_of;
  pushing = λ m n p s. m + 1;
  reading = λ m a o. m;
}

final : ℕ → Conf ℕ ℕ ℕ ℕ Waiting ℕ
unfolding small walk_of
final slots = walk_from (small slots) (0 ∷ []) 0 0 (0 ∷ [])

-- the highest pops first, of two at word 3 the later; the earlier is skipped
five_slots : in_order (final 5).pile.log
    ≡ begun 0 ∷ stepped 0 true 0 ∷ stepped 1 true 1 ∷ looked 1 0 0 ∷ looked 1 1 1
    ∷ begun 6 ∷ stepped 6 true 21 ∷ stepped 7 true 22 ∷ begun 5 ∷ stepped 5 true 1 ∷ begun 3 ∷ stepped 3 true 21 ∷ []
unfolding final in_order on_last push_each take_way take_ways run insert_by insert_all cleared ones_below
five_slots = refl

-- six steps, four blocks, a table read and one not; words 2 and 4 stay unvisited
five_counts : (steps (final 5).pile.log ≡ 6) × (blocks (final 5).pile.log ≡ 4) × (tables_read (λ o. eqb o 0) (final 5).pile.log ≡ 1)
    × (tables_not_read (λ o. eqb o 0) (final 5).pile.log ≡ 1) × ((final 5).vis ≡ 0b11101011 ∷ []) × ((final 5).pile.lent ≡ 5)
unfolding final total on_last push_each take_way take_ways run insert_by insert_all cleared ones_below
five_counts = (refl, refl, refl, refl, refl, refl)

-- three slots: the fourth push ends it, the second table is not looked at, and what waits stays in order
three_slots : in_order (final 3).pile.log ≡ begun 0 ∷ stepped 0 true 0 ∷ stepped 1 true 1 ∷ looked 1 0 0 ∷ []
unfolding final in_order on_last push_each take_way take_ways run insert_by insert_all cleared ones_below
three_slots = refl

three_held : ((final 3).pile.full ≡ true) × ((final 3).pile.stack ≡ record { at = 3; state = 11 } ∷ record { at = 3; state = 21 } ∷ record { at = 5; state = 1 } ∷ [])
unfolding final on_last push_each take_way take_ways run insert_by insert_all cleared ones_below
three_held = (refl, refl)
