-- What the words say once records are written into them: each record where the image looks for it, every other word as it was, and the same answer to every search.
-- Assumes nothing.
use mathlib.Core.Path.{◌≡◌, refl, ap, ◌∙◌}
use mathlib.Core.Bool.{Bool, true, false, ◌&&◌}
use mathlib.Core.List.{List, [], ◌∷◌, ◌++◌}
use mathlib.Core.Logic.{◌⊎◌, inl, ⊎_elim}
use Prim.Native.Nat.{ℕ, zero, suc, ◌+◌, ◌*◌, ◌<◌, ◌≤◌}
use native.Mathlib.Nat.{not-suc-le-zero, add-zero, le_of_suc-le-suc}
use native.Mathlib.Omega.{arith}
use lib.ListN.{length, set, length-set}
use lib.Seq.{sets, length-sets, get_or-set_same, get_or-set_other}
use Rattle.std.specs.Prelude.{Ok, Err, Option, Some}
use Rattle.words.specs.Choice.{pick}
use Rattle.search.specs.First.{first_from, first}
use Rattle.image.specs.declared.Section.{Section}
use Rattle.image.specs.Layout.{word, sections, section_at}
use Rattle.image.specs.Rules.{holds, has_elf, elf_index}
use Rattle.records.specs.Records.{nth_record, numbered, first_record, record_at, record_by_elf}
use Rattle.records.specs.Written.{few, roomy, fits, section_words, table_words, with_sections, written}
use Rattle.records.specs.declared.WriteError.{WriteError}
use Rattle.records.specs.declared.WriteError.TheVariants.{TooMany, NoRoom}
use Rattle.records.proofs.WrittenLaws.{fit_room}

-- ---- a run of stores, read
stored_below : (ws : List ℕ) (i : ℕ) (vs : List ℕ) (k : ℕ) → k < i → word (sets ws i vs) k ≡ word ws k
stored_below ws i [] k h = refl
stored_below ws i (v ∷ vs) k h = stored_below (set ws i v) (suc i) vs k (omega arith) ∙ get_or-set_other ws i k v 0 (λ e. omega arith)

stored_above : (ws : List ℕ) (i : ℕ) (vs : List ℕ) (k : ℕ) → i + length vs ≤ k → word (sets ws i vs) k ≡ word ws k
stored_above ws i [] k h = refl
stored_above ws i (v ∷ vs) k h = stored_above (set ws i v) (suc i) vs k (omega arith) ∙ get_or-set_other ws i k v 0 (λ e. omega arith)

stored_at : (ws : List ℕ) (i : ℕ) (vs : List ℕ) (k : ℕ) → i + length vs ≤ length ws → k < length vs → word (sets ws i vs) (i + k) ≡ word vs k
stored_at ws i [] k room h = absurd (not-suc-le-zero h)
stored_at ws i (v ∷ vs) zero room h =
    let l : i < length ws = omega arith in
    ap (word (sets (set ws i v) (suc i) vs)) (add-zero i) ∙ stored_below (set ws i v) (suc i) vs i (omega arith) ∙ get_or-set_same ws i v 0 l
stored_at ws i (v ∷ vs) (suc k) room h =
    let e : i + suc k ≡ suc i + k = omega arith in
    let r : suc i + length vs ≤ length (set ws i v) = simp length-set (omega arith) in
    ap (word (sets (set ws i v) (suc i) vs)) e ∙ stored_at (set ws i v) (suc i) vs k r (le_of_suc-le-suc h)

-- ---- the words of the records
table_length : (t : List Section) → length (table_words t) ≡ length t * 6
unfolding table_words
table_length [] = refl
table_length (s ∷ t) = let h = table_length t in omega arith

past_section : (s : Section) (vs : List ℕ) (k : ℕ) → word (section_words s ++ vs) (k + 6) ≡ word vs k
past_section s vs k =
    let e : k + 6 ≡ suc (suc (suc (suc (suc (suc k))))) = omega arith in
    rw e

-- six words from place k on, as a section
abbrev section_from : List ℕ → ℕ → Section
section_from vs k = record { address = word vs k; size = word vs (k + 1); kind = word vs (k + 2); elf = word vs (k + 3); place = word vs (k + 4); length = word vs (k + 5) }

-- two sections are equal where their words are
same_section : (s t : Section) → s.address ≡ t.address → s.size ≡ t.size → s.kind ≡ t.kind → s.elf ≡ t.elf → s.place ≡ t.place → s.length ≡ t.length → s ≡ t
same_section s t a b c d e f = λ i. record { address = a i; size = b i; kind = c i; elf = d i; place = e i; length = f i }

table_record : (t : List Section) (i : ℕ) → i < length t → section_from (table_words t) (i * 6) ≡ nth_record t i
unfolding table_words
table_record [] i h = absurd (not-suc-le-zero h)
table_record (s ∷ t) zero h = refl
table_record (s ∷ t) (suc i) h =
    same_section (section_from (table_words (s ∷ t)) (suc i * 6)) (section_from (table_words t) (i * 6))
    (next (suc i * 6) (i * 6) (omega arith)) (next (suc i * 6 + 1) (i * 6 + 1) (omega arith)) (next (suc i * 6 + 2) (i * 6 + 2) (omega arith))
    (next (suc i * 6 + 3) (i * 6 + 3) (omega arith)) (next (suc i * 6 + 4) (i * 6 + 4) (omega arith)) (next (suc i * 6 + 5) (i * 6 + 5) (omega arith))
    ∙ table_record t i (le_of_suc-le-suc h)
  where
    next : (k j : ℕ) → k ≡ j + 6 → word (section_words s ++ table_words t) k ≡ word (table_words t) j
    next k j e = ap (word (section_words s ++ table_words t)) e ∙ past_section s (table_words t) j

-- ---- the words that are written
record_stands : (ws : List ℕ) (t : List Section) (i : ℕ) → length t * 6 + 6 ≤ length ws → i < length t → section_at (sets ws 6 (table_words t)) i ≡ nth_record t i
record_stands ws t i room h =
    same_section (section_at (sets ws 6 (table_words t)) i) (section_from (table_words t) (i * 6))
    (reads (i * 6 + 6) (i * 6) (omega arith) (omega arith)) (reads (i * 6 + 7) (i * 6 + 1) (omega arith) (omega arith)) (reads (i * 6 + 8) (i * 6 + 2) (omega arith) (omega arith))
    (reads (i * 6 + 9) (i * 6 + 3) (omega arith) (omega arith)) (reads (i * 6 + 10) (i * 6 + 4) (omega arith) (omega arith)) (reads (i * 6 + 11) (i * 6 + 5) (omega arith) (omega arith))
    ∙ table_record t i h
  where
    reads : (k j : ℕ) → k ≡ 6 + j → j < length t * 6 → word (sets ws 6 (table_words t)) k ≡ word (table_words t) j
    reads k j e l =
        let n = table_length t in
        let r : 6 + length (table_words t) ≤ length ws = omega arith in
        let l' : j < length (table_words t) = omega arith in
        ap (word (sets ws 6 (table_words t))) e ∙ stored_at ws 6 (table_words t) j r l'

-- an answer of so many sections says that the records fit, and that it is all of them
pub answer_fits : (n m k : ℕ) → written n m ≡ Ok k → (fits n m ≡ true) × (k ≡ n)
answer_fits n m k e = by_case (few n) (roomy n m) e
  where
    by_case : (a b : Bool) → pick a (pick b (Ok n) (Err NoRoom)) (Err TooMany) ≡ Ok k → (a && b ≡ true) × (k ≡ n)
    by_case true true e = let h : k ≡ n = cc in (refl, h)
    by_case true false e = cc
    by_case false b e = cc

-- a refusal says that they don't
pub error_fits : (n m : ℕ) (r : WriteError) → written n m ≡ Err r → fits n m ≡ false
error_fits n m r e = by_case (few n) (roomy n m) e
  where
    by_case : (a b : Bool) → pick a (pick b (Ok n) (Err NoRoom)) (Err TooMany) ≡ Err r → a && b ≡ false
    by_case true true e = cc
    by_case true false e = refl
    by_case false true e = refl
    by_case false false e = refl

-- record i stands where the image looks for it
pub written_record : (ws : List ℕ) (t : List Section) (i : ℕ) → fits (length t) (length ws) ≡ true → i < length t → section_at (with_sections ws t) i ≡ nth_record t i
written_record ws t i ok h = rw ok (record_stands ws t i (fit_room (length t) (length ws) ok) h)

-- the words are as many as before
pub written_length : (ws : List ℕ) (t : List Section) → length (with_sections ws t) ≡ length ws
written_length ws t = by_case (fits (length t) (length ws))
  where
    by_case : (ok : Bool) → length (pick ok (sets ws 6 (table_words t)) ws) ≡ length ws
    by_case true = length-sets ws 6 (table_words t)
    by_case false = refl

-- every word of no record stays
pub other_words_stay : (ws : List ℕ) (t : List Section) (k : ℕ) → (k < 6) ⊎ (length t * 6 + 6 ≤ k) → word (with_sections ws t) k ≡ word ws k
other_words_stay ws t k h = by_case (fits (length t) (length ws))
  where
    by_case : (ok : Bool) → word (pick ok (sets ws 6 (table_words t)) ws) k ≡ word ws k
    by_case true = ⊎_elim (λ l. stored_below ws 6 (table_words t) k l) (λ l. let n = table_length t in let r : 6 + length (table_words t) ≤ k = omega arith in stored_above ws 6 (table_words t) k r) h
    by_case false = refl

-- where records are refused, every word stays
pub refused_words_stay : (ws : List ℕ) (t : List Section) → fits (length t) (length ws) ≡ false → with_sections ws t ≡ ws
refused_words_stay ws t e = rw e

-- ---- the searches
first_from_agrees : (p q : ℕ → Bool) (n m i : ℕ) → ((k : ℕ) → k < n → p k ≡ q k) → i + m ≤ n → first_from p m i ≡ first_from q m i
unfolding first_from
first_from_agrees p q n zero i same l = refl
first_from_agrees p q n (suc m) i same l =
    rw (same i (omega arith)) (ap (λ (d : Option ℕ). pick (q i) (Some i) d) (first_from_agrees p q n m (suc i) same (omega arith)))

-- a search through the words finds what it finds through the records, whatever the test
pub same_found : (p : Section → ℕ → Bool) (ws : List ℕ) (t : List Section) (v : ℕ) → fits (length t) (length ws) ≡ true
    → first (λ (i : ℕ). p (section_at (with_sections ws t) i) v) (length t) ≡ first_record p t v
same_found p ws t v ok =
    first_from_agrees (λ (i : ℕ). p (section_at (with_sections ws t) i) v) (λ (i : ℕ). p (nth_record t i) v) (length t) (length t) 0
    (λ k l. ap (λ (s : Section). p s v) (written_record ws t k ok l)) (omega arith)

-- by address
pub same_section_found : (ws : List ℕ) (t : List Section) (a : ℕ) → fits (length t) (length ws) ≡ true
    → first (λ (i : ℕ). holds (section_at (with_sections ws t) i) a) (length t) ≡ record_at t a
same_section_found ws t a ok = same_found holds ws t a ok

-- by elf number, as the image looks for it, where its head counts the records
pub same_elf_found : (ws : List ℕ) (t : List Section) (elf : ℕ) → fits (length t) (length ws) ≡ true → sections ws ≡ length t → elf_index (with_sections ws t) elf ≡ record_by_elf t elf
same_elf_found ws t elf ok n =
    ap (first (has_elf (with_sections ws t) elf)) (other_words_stay ws t 2 (inl (omega arith)) ∙ n) ∙ same_found numbered ws t elf ok
