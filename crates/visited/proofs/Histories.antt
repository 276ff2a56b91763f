-- The count of ones is the number of first visits in the history, where it began with a map cleared below n.
-- Assumes nothing.
use mathlib.Core.Path.{◌≡◌, refl, ap, ◌∙◌}
use mathlib.Core.Bool.{Bool, true, false, ◌||◌}
use mathlib.Core.List.{List, [], ◌∷◌}
use Prim.Native.Nat.{ℕ, ◌+◌, ◌*◌, ◌≤◌, ◌<◌}
use native.Mathlib.Omega.{arith}
use lib.Dec.{eqb, ltb}
use lib.ListN.{length}
use borrow.Author.Tests.{eqb-true, eqb-false, ltb-true}
use Rattle.words.specs.Choice.{pick}
use Rattle.search.proofs.EveryLaws.{and_left, and_right}
use Rattle.visited.specs.Bits.{bit_at, with_bit, cleared, ones_below}
use Rattle.visited.specs.History.{after, among, first_visits, all_below}
use Rattle.visited.proofs.BitLaws.{inserted_length, inserted_is_set, insert_changes_no_other}
use Rattle.visited.proofs.Clearing.{cleared_below, cleared_length}
use Rattle.visited.proofs.Visits.{first_visit_adds_one, visit_again_adds_nothing, cleared_counts_nothing}

pub after_length : (ws bs : List ℕ) → length (after ws bs) ≡ length ws
unfolding after
after_length ws [] = refl
after_length ws (b ∷ bs) = inserted_length (after ws bs) b ∙ after_length ws bs

-- a word's bit after a history: set if it is in the history, else as it was
bit_one_later : (ws bs : List ℕ) (c b : ℕ) → b < length ws * 32 → bit_at (after ws bs) b ≡ pick (among bs b) 1 (bit_at ws b)
    → (t : Bool) → eqb b c ≡ t → bit_at (with_bit (after ws bs) c) b ≡ pick (t || among bs b) 1 (bit_at ws b)
bit_one_later ws bs c b h ih true e =
    let q : b ≡ c = eqb-true b c e in
    ap (bit_at (with_bit (after ws bs) c)) q ∙ inserted_is_set (after ws bs) c (rw (after_length ws bs) (omega arith))
bit_one_later ws bs c b h ih false e = insert_changes_no_other (after ws bs) c b (eqb-false b c e) ∙ ih

pub bit_after_history : (ws bs : List ℕ) (b : ℕ) → b < length ws * 32 → bit_at (after ws bs) b ≡ pick (among bs b) 1 (bit_at ws b)
unfolding after among
bit_after_history ws [] b h = refl
bit_after_history ws (c ∷ bs) b h = bit_one_later ws bs c b h (bit_after_history ws bs b h) (eqb b c) refl

count_one_later : (ms : List ℕ) (b n f : ℕ) (t : Bool) → b < length ms * 32 → b < n → bit_at ms b ≡ pick t 1 0 → ones_below ms n ≡ f
    → ones_below (with_bit ms b) n ≡ f + pick t 0 1
count_one_later ms b n f true r h e ih = omega (arith, visit_again_adds_nothing ms b n e, ih)
count_one_later ms b n f false r h e ih = omega (arith, first_visit_adds_one ms b n r e h, ih)

pub count_is_first_visits : (ws : List ℕ) (n : ℕ) (bs : List ℕ) → n ≤ length ws * 32 → all_below n bs ≡ true
    → ones_below (after (cleared ws n) bs) n ≡ first_visits bs
unfolding after first_visits all_below
count_is_first_visits ws n [] r e = cleared_counts_nothing ws n n (omega arith)
count_is_first_visits ws n (b ∷ bs) r e =
    let h : b < n = ltb-true b n (and_left (ltb b n) (all_below n bs) e) in
    let long : length (after (cleared ws n) bs) ≡ length ws = after_length (cleared ws n) bs ∙ cleared_length ws n in
    let inside : b < length (cleared ws n) * 32 = rw (cleared_length ws n) (omega arith) in
    let bit : bit_at (after (cleared ws n) bs) b ≡ pick (among bs b) 1 0 =
    bit_after_history (cleared ws n) bs b inside ∙ ap (pick (among bs b) 1) (cleared_below ws n b h) in
    count_one_later (after (cleared ws n) bs) b n (first_visits bs) (among bs b) (omega arith) h bit
    (count_is_first_visits ws n bs r (and_right (ltb b n) (all_below n bs) e))
