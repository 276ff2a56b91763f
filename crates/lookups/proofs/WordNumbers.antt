-- The numbers of Code words: below W, one for each aligned place in code, the next for the next word.
-- Assumes nothing.
use mathlib.Core.Path.{◌≡◌, sym, ap, ap₂, ◌∙◌}
use mathlib.Core.Bool.{true}
use mathlib.Core.List.{List}
use Prim.Native.Nat.{ℕ, ◌+◌, ◌-◌, ◌/◌, ◌%◌, ◌≤◌, ◌<◌}
use native.Mathlib.Decide.{dec_lt}
use native.Mathlib.Omega.{arith}
use Rattle.places.specs.declared.SectionAddress.{SectionAddress}
use Rattle.image.specs.Layout.{sections, section_at}
use Rattle.image.specs.Rules.{words_of, words_before, code_words, tables_sound}
use Rattle.image.proofs.CodeWords.{words_ahead_lem, words_of_code}
use Rattle.lookups.specs.Code.{in_code, word_number}
use Rattle.lookups.proofs.SoundSections.{InCode, in_code_lem}

-- a word's number within its section is below the section's words
pub word_in_section : (ws : List ℕ) (p : SectionAddress) → InCode ws p
    → (p.address - (section_at ws p.section).address) / 4 < words_of (section_at ws p.section)
word_in_section ws p c = rw (words_of_code (section_at ws p.section) c.code) (omega (arith, c.place.sound.code_size c.code))

pub word_number_below : (ws : List ℕ) (p : SectionAddress) → tables_sound ws ≡ true → in_code ws p ≡ true → word_number ws p < code_words ws
word_number_below ws p t e =
    let c = in_code_lem ws p t e in
    omega (arith, word_in_section ws p c, words_ahead_lem ws p.section (sections ws) c.place.exists)

-- one number, one aligned place: two places in code with the same word number are the same word
section_below : (ws : List ℕ) (p q : SectionAddress) → InCode ws p → p.section < q.section → word_number ws p ≡ word_number ws q → ⊥
section_below ws p q c l e = omega (arith, word_in_section ws p c, words_ahead_lem ws p.section q.section l)

same_section : (ws : List ℕ) (p q : SectionAddress) → InCode ws p → InCode ws q → word_number ws p ≡ word_number ws q
    → Dec (p.section < q.section) → Dec (q.section < p.section) → p.section ≡ q.section
same_section ws p q c d e (yes l) m = absurd (section_below ws p q c l e)
same_section ws p q c d e (no l) (yes m) = absurd (section_below ws q p d m (sym e))
same_section ws p q c d e (no l) (no m) = omega arith

same_address : (b f a c : ℕ) → f % 4 ≡ 0 → a % 4 ≡ 0 → c % 4 ≡ 0 → f ≤ a → f ≤ c → b + (a - f) / 4 ≡ b + (c - f) / 4 → a ≡ c
same_address b f a c x y z l m e = omega arith

abbrev place : ℕ → ℕ → SectionAddress
place s a = record { section = s; address = a }

pub word_numbers_differ : (ws : List ℕ) (p q : SectionAddress) → tables_sound ws ≡ true → in_code ws p ≡ true → in_code ws q ≡ true
    → p.address % 4 ≡ 0 → q.address % 4 ≡ 0 → word_number ws p ≡ word_number ws q → p ≡ q
word_numbers_differ ws p q t x y f g e =
    let c = in_code_lem ws p t x in
    let d = in_code_lem ws q t y in
    let s = same_section ws p q c d e (dec_lt p.section q.section) (dec_lt q.section p.section) in
    let from : (section_at ws p.section).address ≤ q.address = rw s d.place.from in
    let n : word_number ws p ≡ words_before ws p.section + (q.address - (section_at ws p.section).address) / 4 = e ∙ ap (λ (i : ℕ). words_before ws i + (q.address - (section_at ws i).address) / 4) (sym s) in
    let a = same_address (words_before ws p.section) (section_at ws p.section).address p.address q.address (c.place.sound.code_address c.code) f g c.place.from from n in
    ap₂ place s a

-- the next word of a section has the next number
pub next_word_number : (ws : List ℕ) (p : SectionAddress) → tables_sound ws ≡ true → in_code ws p ≡ true
    → word_number ws (record { section = p.section; address = p.address + 4 }) ≡ word_number ws p + 1
next_word_number ws p t e = let c = in_code_lem ws p t e in omega (arith, c.place.from)
