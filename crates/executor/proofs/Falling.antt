-- Stepping a word brings down the calls that are left.
-- Assumes sound tables, a place that is a word of code, and a map with a bit for each word.
use Prim.Native.Nat.{ℕ, suc, ◌+◌, ◌*◌, ◌≤◌, ◌<◌}
use mathlib.Core.Path.{◌≡◌}
use mathlib.Core.Bool.{true, false}
use mathlib.Core.List.{List}
use native.Mathlib.Nat.{suc-mul}
use native.Mathlib.Omega.{arith}
use lib.ListN.{length}
use borrow.Author.Tests.{eqb-true, eqb-false, leb-true}
use Rattle.places.specs.declared.SectionAddress.{SectionAddress}
use Rattle.image.specs.Rules.{code_words, tables_sound}
use Rattle.lookups.specs.Code.{word_number}
use Rattle.lookups.proofs.WordNumbers.{word_number_below}
use Rattle.visited.specs.Bits.{bit_at, with_bit, has_room}
use Rattle.visited.proofs.BitLaws.{bit_is_digit}
use Rattle.visited.proofs.Counting.{ones_at_most}
use Rattle.visited.proofs.Visits.{first_visit_adds_one, visit_again_adds_nothing}
use Rattle.executor.specs.Judge.{is_word}
use Rattle.executor.specs.Next.{seen}
use Rattle.executor.specs.Calls.{unvisited, words_ahead}
use Rattle.executor.proofs.Judging.{word_in_code}
use Rattle.executor.proofs.Ahead.{ahead_few}

module _ (im v : List ℕ) (p : SectionAddress) (tables : tables_sound im ≡ true) (word : is_word im p ≡ true) (room : has_room v (code_words im) ≡ true) where
  abbrev b : ℕ
  b = word_number im p

  abbrev v' : List ℕ
  v' = with_bit v b

  below : b < code_words im
  below = word_number_below im p tables (word_in_code im p word)

  -- an unvisited word is one less
  one_less : seen im v p ≡ false → unvisited im v ≡ suc (unvisited im v')
  one_less new =
      let no = eqb-false (bit_at v b) 1 new in
      let bit : bit_at v b ≡ 0 = omega (arith, bit_is_digit v b) in
      let inside : b < length v * 32 = omega (arith, below, leb-true (code_words im) (length v * 32) room) in
      omega (arith, first_visit_adds_one v b (code_words im) inside bit below, ones_at_most v' (code_words im))

  pub new_falls : seen im v p ≡ false → unvisited im v' * (code_words im * 2 + 1) + words_ahead im p * 2 + 1 ≤ unvisited im v * (code_words im * 2 + 1)
  new_falls new = rw (one_less new, suc-mul (unvisited im v') (code_words im * 2 + 1)) (omega (arith, ahead_few im p tables word))

  -- a visited one changes nothing
  pub old_falls : seen im v p ≡ true → unvisited im v' ≡ unvisited im v
  old_falls old = omega (arith, visit_again_adds_nothing v b (code_words im) (eqb-true (bit_at v b) 1 old))
