-- The words from a place of code to its section's end: their numbers, and their bytes in what `data_from` hands back.
-- Assumes a sound image and a place that is a word of code.
use Rattle.std.specs.Prelude.{Some}
use Prim.Native.Nat.{ℕ, suc, ◌+◌, ◌-◌, ◌*◌, ◌/◌, ◌%◌, ◌≤◌, ◌<◌}
use mathlib.Core.Path.{◌≡◌, ap, ◌∙◌}
use mathlib.Core.Bool.{true, false}
use mathlib.Core.List.{List}
use native.Mathlib.Omega.{arith}
use lib.ListN.{length, get_or, drop, length-take, length-drop}
use lib.Seq.{get_or-take, get_or-drop}
use lib.Dec.{ltb}
use borrow.Author.Tests.{lt-ltb, le-ltb, le-leb, eq-eqb, ne_eqb}
use Rattle.words.specs.Bytes.{be32}
use Rattle.places.specs.declared.SectionAddress.{SectionAddress}
use Rattle.places.specs.Places.{moved}
use Rattle.image.specs.Numbers.{code_kind, bss_kind}
use Rattle.image.specs.Layout.{sections, section_at}
use Rattle.image.specs.Rules.{end_of, sound}
use Rattle.image.proofs.SoundTables.{tables_of_sound, data_of_sound}
use Rattle.lookups.specs.Bytes.{offset_in, has_data, data_from, word_at}
use Rattle.lookups.specs.Code.{in_code, code_place, word_number}
use Rattle.lookups.proofs.SoundSections.{InCode, in_code_lem, HasData, has_data_lem}
use Rattle.turns.specs.Moves.{is_fine, word_of}
use Rattle.turns.proofs.SoundGround.{fine_place, next_address}

abbrev pub words_on : SectionAddress → ℕ → SectionAddress
words_on p k = record { section = p.section; address = p.address + k * 4 }

module _ (ws bs : List ℕ) (fine : sound ws (length bs) ≡ true) (p : SectionAddress) (word : is_fine (code_place ws p) ≡ true) where
  code_there : InCode ws p
  code_there = in_code_lem ws p (tables_of_sound ws (length bs) fine) (fine_place ws p word).0

  aligned_there : p.address % 4 ≡ 0
  aligned_there = (fine_place ws p word).1

  abbrev upto : ℕ
  upto = end_of (section_at ws p.section)

  pub below_end : p.address < upto
  below_end = code_there.place.upto

  -- whole words are left
  pub whole_words : (upto - p.address) / 4 * 4 ≡ upto - p.address
  whole_words =
      let c = code_there in
      omega (arith, aligned_there, c.place.upto, c.place.sound.code_address c.code, c.place.sound.code_size c.code)

  -- a place of the section is in code exactly below the section's end
  in_code_there : (a : ℕ) → p.address ≤ a → in_code ws (record { section = p.section; address = a }) ≡ ltb a upto
  in_code_there a l =
      let c = code_there in
      rw (lt-ltb p.section (sections ws) c.place.exists, eq-eqb _ code_kind c.code, le-leb (section_at ws p.section).address a (omega (arith, c.place.from)))

  has_data_there : has_data ws p ≡ true
  has_data_there =
      let c = code_there in
      let other : (section_at ws p.section).kind ≡ bss_kind → ⊥ = λ e. omega (arith, c.code) in
      rw (lt-ltb p.section (sections ws) c.place.exists, ne_eqb _ bss_kind other, le-leb (section_at ws p.section).address p.address c.place.from, lt-ltb p.address upto c.place.upto)

  pub word_there : (k : ℕ) → p.address + k * 4 < upto → is_fine (code_place ws (words_on p k)) ≡ true
  word_there k l =
      let a : (p.address + k * 4) % 4 ≡ 0 = omega (arith, aligned_there) in
      rw (in_code_there (p.address + k * 4) (omega arith), lt-ltb (p.address + k * 4) upto l, eq-eqb ((p.address + k * 4) % 4) 0 a)

  pub no_word_there : (k : ℕ) → upto ≤ p.address + k * 4 → is_fine (code_place ws (words_on p k)) ≡ false
  no_word_there k l = rw (in_code_there (p.address + k * 4) (omega arith), le-ltb (p.address + k * 4) upto l)

  pub number_there : (k : ℕ) → word_number ws (words_on p k) ≡ word_number ws p + k
  number_there k = omega (arith, code_there.place.from)

  pub next_there : (k : ℕ) → p.address + k * 4 < upto → moved (words_on p k) 4 ≡ words_on p (suc k)
  next_there k l =
      let c = in_code_lem ws (words_on p k) (tables_of_sound ws (length bs) fine) (fine_place ws (words_on p k) (word_there k l)).0 in
      let e : p.address + k * 4 + 4 ≡ p.address + suc k * 4 = omega arith in
      ap (λ (a : ℕ). record { section = p.section; address = a }) (next_address ws (words_on p k) c (fine_place ws (words_on p k) (word_there k l)).1 ∙ e)

  -- the bytes from p on are there to the section's end
  data_there : HasData ws (length bs) p
  data_there = has_data_lem ws (length bs) p (tables_of_sound ws (length bs) fine) (data_of_sound ws (length bs) fine) has_data_there

  pub code_length : length (data_from ws bs p) ≡ upto - p.address
  code_length = rw has_data_there (simp (length-take, length-drop) (omega (arith, data_there.inside, code_there.place.from, code_there.place.upto)))

  byte_there : (j : ℕ) → p.address + j < upto → get_or (data_from ws bs p) j 0 ≡ get_or bs (offset_in ws p.section p.address + j) 0
  byte_there j l = rw has_data_there (get_or-take (upto - p.address) (drop (offset_in ws p.section p.address) bs) j 0 (omega arith) ∙ get_or-drop _ bs j 0)

  -- byte i of word k
  byte_of_word : (k i : ℕ) → p.address + k * 4 < upto → i < 4
      → get_or (data_from ws bs p) (k * 4 + i) 0 ≡ get_or bs (offset_in ws p.section (p.address + k * 4) + i) 0
  byte_of_word k i l h =
      let c = code_there in
      let inside : p.address + (k * 4 + i) < upto =
      omega (arith, aligned_there, c.place.sound.code_address c.code, c.place.sound.code_size c.code) in
      let same : offset_in ws p.section p.address + (k * 4 + i) ≡ offset_in ws p.section (p.address + k * 4) + i = omega (arith, c.place.from) in
      byte_there (k * 4 + i) inside ∙ ap (λ (x : ℕ). get_or bs x 0) same

  no_byte_on : (x : ℕ) → get_or bs (x + 0) 0 ≡ get_or bs x 0
  no_byte_on x = let e : x + 0 ≡ x = omega arith in ap (λ (y : ℕ). get_or bs y 0) e

  first_of_word : (k : ℕ) → p.address + k * 4 < upto → get_or (data_from ws bs p) (k * 4) 0 ≡ get_or bs (offset_in ws p.section (p.address + k * 4)) 0
  first_of_word k l =
      let e : k * 4 ≡ k * 4 + 0 = omega arith in
      ap (λ (y : ℕ). get_or (data_from ws bs p) y 0) e ∙ byte_of_word k 0 l (omega arith) ∙ no_byte_on (offset_in ws p.section (p.address + k * 4))

  pub word_in_code : (k : ℕ) → p.address + k * 4 < upto → be32 (data_from ws bs p) (k * 4) ≡ word_of ws bs (words_on p k)
  word_in_code k l =
      omega (arith, first_of_word k l, byte_of_word k 1 l (omega arith), byte_of_word k 2 l (omega arith), byte_of_word k 3 l (omega arith))

  -- the walk's word is the one that lookups read
  pub word_is_read : word_at ws bs p ≡ Some (word_of ws bs p)
  word_is_read =
      let c = code_there in
      let four : 4 ≤ length (data_from ws bs p) =
      omega (arith, code_length, aligned_there, c.place.upto, c.place.sound.code_address c.code, c.place.sound.code_size c.code) in
      let here : p.address + 0 * 4 ≡ p.address = omega arith in
      rw (le-leb 4 (length (data_from ws bs p)) four)
      (ap Some (word_in_code 0 (omega (arith, c.place.upto)) ∙ ap (λ (a : ℕ). word_of ws bs (record { section = p.section; address = a })) here))
