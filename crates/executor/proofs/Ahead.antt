-- The words from a place to its section's end, and what follows a word: another, or the end.
-- Assumes sound tables and a place that is a word of code.
use Prim.Native.Nat.{ℕ, ◌+◌, ◌%◌, ◌≤◌, ◌<◌}
use mathlib.Core.Path.{◌≡◌, refl}
use mathlib.Core.Bool.{Bool, true, false, ◌||◌}
use mathlib.Core.List.{List}
use native.Mathlib.Decide.{dec_lt}
use native.Mathlib.Nat.{mod-eq_of_lt}
use native.Mathlib.Omega.{arith}
use borrow.Author.Tests.{lt-ltb, le-leb, eq-eqb}
use Rattle.words.specs.Sums.{sum}
use Rattle.places.specs.Places.{moved}
use Rattle.places.specs.declared.SectionAddress.{SectionAddress}
use Rattle.image.specs.Layout.{sections, section_at}
use Rattle.image.specs.Rules.{end_of, code_words, tables_sound}
use Rattle.image.proofs.CodeWords.{words_ahead_lem, words_of_code}
use Rattle.lookups.proofs.CodeBytes.{fine_place}
use Rattle.lookups.proofs.SoundSections.{InCode, in_code_lem}
use Rattle.executor.specs.Judge.{is_word, is_end}
use Rattle.executor.specs.Calls.{words_ahead}
use Rattle.executor.proofs.Judging.{word_fine, word_in_code}

or_right : (a b : Bool) → b ≡ true → a || b ≡ true
or_right true b e = refl
or_right false b e = e

module _ (im : List ℕ) (p : SectionAddress) (tables : tables_sound im ≡ true) (word : is_word im p ≡ true) where
  there : InCode im p
  there = in_code_lem im p tables (word_in_code im p word)

  aligned : p.address % 4 ≡ 0
  aligned = (fine_place im p (word_fine im p word)).1

  -- the next word's address is no step round the end of the numbers
  next_within : p.address + 4 ≤ end_of (section_at im p.section)
  next_within = let c = there in omega (arith, aligned, c.place.upto, c.place.sound.code_address c.code, c.place.sound.code_size c.code)

  next_address : sum p.address 4 ≡ p.address + 4
  next_address = mod-eq_of_lt (omega (arith, next_within, there.place.sound.ends))

  pub ahead_some : 1 ≤ words_ahead im p
  ahead_some = omega (arith, next_within)

  pub ahead_next : words_ahead im (moved p 4) + 1 ≡ words_ahead im p
  ahead_next = rw next_address (omega (arith, next_within))

  pub ahead_few : words_ahead im p ≤ code_words im
  ahead_few =
      let c = there in
      omega (arith, c.place.from, words_of_code (section_at im p.section) c.code, words_ahead_lem im p.section (sections im) c.place.exists)

  -- after a word comes another, or the section's end
  pub word_or_end : is_word im (moved p 4) || is_end im (moved p 4) ≡ true
  word_or_end = rw next_address (by (dec_lt (p.address + 4) (end_of (section_at im p.section))))
    where
      after : SectionAddress
      after = record { section = p.section; address = p.address + 4 }

      by : Dec (p.address + 4 < end_of (section_at im p.section)) → is_word im after || is_end im after ≡ true
      by (yes l) =
          let c = there in
          let low : (section_at im p.section).address ≤ p.address + 4 = omega (arith, c.place.from) in
          let four : (p.address + 4) % 4 ≡ 0 = omega (arith, aligned) in
          rw (lt-ltb p.section (sections im) c.place.exists, eq-eqb _ _ c.code, le-leb (section_at im p.section).address (p.address + 4) low, lt-ltb (p.address + 4) (end_of (section_at im p.section)) l, eq-eqb ((p.address + 4) % 4) 0 four)
      by (no l) =
          let c = there in
          let end : p.address + 4 ≡ end_of (section_at im p.section) = omega (arith, next_within) in
          or_right (is_word im after) (is_end im after)
          (rw (lt-ltb p.section (sections im) c.place.exists, eq-eqb _ _ c.code, eq-eqb (p.address + 4) (end_of (section_at im p.section)) end))
