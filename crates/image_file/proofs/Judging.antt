-- Where nothing is wrong, each check's test holds.
-- Assumes nothing.
use mathlib.Core.Path.{◌≡◌, refl}
use mathlib.Core.Bool.{Bool, true, false}
use mathlib.Core.List.{List}
use Prim.Native.Nat.{ℕ, ◌≤◌}
use native.Mathlib.Omega.{arith}
use lib.Dec.{leb}
use borrow.Author.Tests.{leb-true}
use Rattle.image_file.specs.declared.Wrong.{Wrong}
use Rattle.image_file.specs.declared.Wrong.TheVariants as wrong
use Rattle.std.specs.Prelude.{Ok, Err}
use Rattle.image_file.specs.Reading.{Check, head_word, checked, or_else, head_judged, flags_judged, length_judged, room_judged, judged}

pub left_fine : (a b : Check) → or_else a b ≡ Ok tt → a ≡ Ok tt
left_fine (Ok u) b e = refl
left_fine (Err f) b e = e

pub right_fine : (a b : Check) → or_else a b ≡ Ok tt → b ≡ Ok tt
right_fine (Ok u) b e = e
right_fine (Err f) b e = let z : ◌≡◌ {A = ℕ} 0 1 = cc in absurd (omega arith)

pub test_holds : (t : Bool) (w : Wrong) (at : ℕ) → checked t w at ≡ Ok tt → t ≡ true
test_holds true w at e = refl
test_holds false w at e = let z : ◌≡◌ {A = ℕ} 0 1 = cc in absurd (omega arith)

module _ (bs : List ℕ) (words starts : ℕ) (fine : judged bs words starts ≡ Ok tt) where
  tail_fine : or_else (length_judged bs) (room_judged bs words starts) ≡ Ok tt
  unfolding judged
  tail_fine = right_fine (or_else (head_judged bs) (flags_judged bs)) _ fine

  room_fine : room_judged bs words starts ≡ Ok tt
  room_fine = right_fine (length_judged bs) _ tail_fine

  pub words_fit : head_word bs 2 ≤ words
  words_fit = leb-true _ _ (test_holds _ _ _ (left_fine _ _ room_fine))

  pub starts_fit : head_word bs 3 ≤ starts
  starts_fit = leb-true _ _ (test_holds _ wrong.StartsRoom 12 (right_fine (checked (leb (head_word bs 2) words) wrong.WordsRoom 8) _ room_fine))
