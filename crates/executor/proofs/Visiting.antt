-- The visited words as a set of places: a stepped word is in it then, and every other word is as it was; no bit from W up changes.
-- Assumes a sound image and a map with a bit for each word.
use Prim.Native.Nat.{ℕ, ◌*◌, ◌≤◌, ◌<◌}
use mathlib.Core.Path.{◌≡◌, ap}
use mathlib.Core.Bool.{true}
use mathlib.Core.List.{List}
use native.Mathlib.Omega.{arith}
use lib.Dec.{eqb}
use lib.ListN.{length}
use borrow.Author.Tests.{eq-eqb, leb-true}
use Rattle.places.specs.declared.SectionAddress.{SectionAddress}
use Rattle.image.specs.Rules.{code_words, tables_sound}
use Rattle.lookups.specs.Code.{word_number}
use Rattle.lookups.proofs.CodeBytes.{fine_place}
use Rattle.lookups.proofs.WordNumbers.{word_number_below, word_numbers_differ}
use Rattle.visited.specs.Bits.{bit_at, with_bit, has_room}
use Rattle.visited.proofs.BitLaws.{inserted_is_set, insert_changes_no_other}
use Rattle.executor.specs.Judge.{is_word}
use Rattle.executor.specs.Next.{seen}
use Rattle.executor.proofs.Judging.{word_fine, word_in_code}

module _ (im v : List ℕ) (p : SectionAddress) (tables : tables_sound im ≡ true) (room : has_room v (code_words im) ≡ true) (word : is_word im p ≡ true) where
  below : word_number im p < code_words im
  below = word_number_below im p tables (word_in_code im p word)

  pub stepped_is_visited : seen im (with_bit v (word_number im p)) p ≡ true
  stepped_is_visited =
      let inside : word_number im p < length v * 32 = omega (arith, below, leb-true (code_words im) (length v * 32) room) in
      eq-eqb _ 1 (inserted_is_set v (word_number im p) inside)

  pub others_stay : (q : SectionAddress) → is_word im q ≡ true → (q ≡ p → ⊥) → seen im (with_bit v (word_number im p)) q ≡ seen im v q
  others_stay q other differ =
      let apart : word_number im q ≡ word_number im p → ⊥ =
      λ e. differ (word_numbers_differ im q p tables (word_in_code im q other) (word_in_code im p word) (fine_place im q (word_fine im q other)).1 (fine_place im p (word_fine im p word)).1 e) in
      ap (λ (b : ℕ). eqb b 1) (insert_changes_no_other v (word_number im p) (word_number im q) apart)

  pub high_bits_stay : (b : ℕ) → code_words im ≤ b → bit_at (with_bit v (word_number im p)) b ≡ bit_at v b
  high_bits_stay b l = insert_changes_no_other v (word_number im p) b (λ e. omega (arith, below))
