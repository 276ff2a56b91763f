-- The numbering of Code words in section order: it grows section by section, and a word of a section has a number below W.
-- Assumes nothing.
use mathlib.Core.Path.{◌≡◌, refl, ap}
use mathlib.Core.Bool.{true}
use mathlib.Core.List.{List}
use Prim.Native.Nat.{ℕ, zero, suc, ◌+◌, ◌-◌, ◌/◌, ◌≤◌, ◌<◌}
use native.Mathlib.Nat.{not-suc-le-zero}
use native.Mathlib.Numerals.{add-one}
use native.Mathlib.Decide.{dec_lt}
use native.Mathlib.Omega.{arith}
use borrow.Author.Tests.{eq-eqb}
use Rattle.image.specs.declared.Section.{Section}
use Rattle.image.specs.Numbers.{max_code_words, code_kind}
use Rattle.image.specs.Layout.{sections, section_at}
use Rattle.image.specs.Rules.{holds, words_of, words_before, code_words}
use Rattle.image.proofs.SoundTables.{SoundTables}
use Rattle.image.proofs.Apart.{holds_says}
use Rattle.image.proofs.SectionLaws.{section_at_lem}

-- no words before the first section
pub words_none : (ws : List ℕ) → words_before ws 0 ≡ 0
unfolding words_before
words_none ws = refl

-- one section more
pub words_more : (ws : List ℕ) (i : ℕ) → words_before ws (i + 1) ≡ words_before ws i + words_of (section_at ws i)
unfolding words_before
words_more ws i = rw (add-one i)

-- the words of a section stand before the next one's
words_step : (ws : List ℕ) (i : ℕ) → words_before ws (suc i) ≡ words_before ws i + words_of (section_at ws i)
unfolding words_before
words_step ws i = refl

at_or_past : (ws : List ℕ) (i k : ℕ) → i < suc k → (i < k → words_before ws i + words_of (section_at ws i) ≤ words_before ws k) → Dec (i < k)
    → words_before ws i + words_of (section_at ws i) ≤ words_before ws (suc k)
at_or_past ws i k l f (yes d) = omega (arith, f d, words_step ws k)
at_or_past ws i k l f (no d) =
    let e : i ≡ k = omega arith in
    omega (arith, words_step ws k, ap (words_before ws) e, ap (λ (j : ℕ). words_of (section_at ws j)) e)

pub words_ahead_lem : (ws : List ℕ) (i k : ℕ) → i < k → words_before ws i + words_of (section_at ws i) ≤ words_before ws k
words_ahead_lem ws i zero l = absurd (not-suc-le-zero l)
words_ahead_lem ws i (suc k) l = at_or_past ws i k l (λ d. words_ahead_lem ws i k d) (dec_lt i k)

-- so the count grows with the section's number
pub words_grow : (ws : List ℕ) (i k : ℕ) → i ≤ k → words_before ws i ≤ words_before ws k
words_grow ws i k l =
    elim (dec_lt i k) [
      | yes d ↦ omega (arith, words_ahead_lem ws i k d)
      | no d ↦ let e : i ≡ k = omega arith in omega (arith, ap (words_before ws) e)
    ]

-- W is at most its limit, and so is every count before it
pub words_few : (ws : List ℕ) → SoundTables ws → (i : ℕ) → i ≤ sections ws → words_before ws i ≤ max_code_words
words_few ws t i l = omega (arith, words_grow ws i (sections ws) l)

-- a Code section has a word for every four bytes
pub words_of_code : (s : Section) → s.kind ≡ code_kind → words_of s ≡ s.size / 4
words_of_code s k = rw (eq-eqb s.kind code_kind k)

-- the number of a word in a Code section is below W, and below the next section's first
pub word_before_next : (ws : List ℕ) → SoundTables ws → (i a : ℕ) → i < sections ws → (section_at ws i).kind ≡ code_kind → holds (section_at ws i) a ≡ true
    → words_before ws i + (a - (section_at ws i).address) / 4 < words_before ws (i + 1)
word_before_next ws t i a l k h =
    let s = section_at_lem ws t i l in
    let w = holds_says (section_at ws i) a h in
    omega (arith, words_more ws i, words_of_code (section_at ws i) k, s.code_size k)

pub word_below : (ws : List ℕ) → SoundTables ws → (i a : ℕ) → i < sections ws → (section_at ws i).kind ≡ code_kind → holds (section_at ws i) a ≡ true
    → words_before ws i + (a - (section_at ws i).address) / 4 < code_words ws
word_below ws t i a l k h = omega (arith, word_before_next ws t i a l k h, words_grow ws (i + 1) (sections ws) (omega arith))
