-- Bytes laid one after the other, as the writer's loops meet them.
-- Assumes nothing.
use mathlib.Core.Path.{◌≡◌, refl, sym, ap, ap₂, ◌∙◌}
use mathlib.Core.Bool.{Bool, true, false}
use mathlib.Core.List.{List, [], ◌∷◌, ◌++◌}
use Prim.Native.Nat.{ℕ, zero, suc, ◌+◌, ◌-◌, ◌*◌, ◌≤◌, ◌<◌}
use native.Mathlib.Omega.{arith}
use lib.ListN.{length, length-append, drop, replicate, get_or, set, get_or-replicate, length-replicate}
use lib.Seq.{sets, length-sets, sets-eq, get_or-set_same, get_or-set_other, ext_get_or}
use native.Mathlib.Decide.{ℕ_discrete}
use Rattle.image.specs.Layout.{sections}
use Rattle.image.specs.Rules.{words_before, code_words}
use Rattle.image.proofs.CodeWords.{words_none, words_more}
use Rattle.varint.specs.Groups.{varint}
use Rattle.visited.specs.Bits.{visited_at}
use Rattle.report.specs.declared.Scan.{Scan}
use Rattle.report.specs.Runs.{Run, runs, runs_of, tab, words_at, runs_in}
use Rattle.report.specs.Bytes.{run_bytes, section_bytes, sections_bytes}
use Rattle.report.specs.Steps.{Laid, Turned, yet, closed_by}
use Rattle.report.proofs.RunLaws.{tab_end, tab_at, tab_next, tab_length, run_on, gap_on, run_end, last_run, no_run, no_bytes, run_bytes_lem, two_long, section_short, runs_after, count_step, count_last, closed_small}

-- what `varint::put` gives
abbrev pub Put : List ℕ → List ℕ → ℕ → ℕ → ℕ → Type 0
Put buf after at n r = (r ≡ at + length (varint n)) × (after ≡ sets buf at (varint n))

sets_append : (l : List ℕ) (i : ℕ) (xs ys : List ℕ) → sets l i (xs ++ ys) ≡ sets (sets l i xs) (i + length xs) ys
sets_append l i [] ys = let e : i + 0 ≡ i = omega arith in rw e
sets_append l i (x ∷ xs) ys =
    let e : i + suc (length xs) ≡ suc i + length xs = omega arith in
    rw e (sets_append _ (suc i) xs ys)

-- bytes, then more bytes
pub laid_append : (buf mid after : List ℕ) (at p r : ℕ) (xs ys : List ℕ) → Laid buf mid at xs p → Laid mid after p ys r → Laid buf after at (xs ++ ys) r
laid_append buf mid after at p r xs ys one two =
    record {
      place = rw (length-append xs ys) (omega (arith, one.place, two.place));
      bytes = two.bytes ∙ ap₂ (λ (l : List ℕ) (k : ℕ). sets l k ys) one.bytes one.place ∙ sym (sets_append buf at xs ys);
    }

pub laid_length : (buf after : List ℕ) (at r : ℕ) (xs : List ℕ) → Laid buf after at xs r → length after ≡ length buf
laid_length buf after at r xs h = ap length h.bytes ∙ length-sets buf at xs

pub laid_number : (buf mid : List ℕ) (at p m n : ℕ) → m ≡ n → Put buf mid at m p → Laid buf mid at (varint n) p
laid_number buf mid at p m n e (ep, em) =
    record {
      place = ep ∙ ap (λ (k : ℕ). at + length (varint k)) e;
      bytes = em ∙ ap (λ (k : ℕ). sets buf at (varint k)) e;
    }

-- two numbers, and what comes after them
two_laid : (buf mid after : List ℕ) (at p q m n : ℕ) (ys : List ℕ) → Put buf mid at m p → Put mid after p n q → sets after q ys ≡ sets buf at (varint m ++ varint n ++ ys)
two_laid buf mid after at p q m n ys (ep, em) (eq, ea) =
    let e : p + length (varint n) ≡ at + length (varint m ++ varint n) = rw (length-append (varint m) (varint n)) (omega arith) in
    ap₂ (λ (l : List ℕ) (k : ℕ). sets l k ys) (ea ∙ ap₂ (λ (l : List ℕ) (k : ℕ). sets l k (varint n)) em ep ∙ sym (sets_append buf at (varint m) (varint n))) (eq ∙ e)
    ∙ sym (sets_append buf at (varint m ++ varint n) ys)

-- one word of a scan: a visited one, one more of a gap, one that ends a run
module _ (buf : List ℕ) (s : Scan) where
  pub turned_run : Turned buf buf s (record { at = s.at; gap = s.gap; len = s.len + 1 }) true
  turned_run =
      record {
        long = refl;
        place = λ bs. ap (λ (rs : List Run). s.at + length (run_bytes rs)) (sym (run_on s.gap s.len bs));
        bytes = λ bs. ap (λ (rs : List Run). sets buf s.at (run_bytes rs)) (sym (run_on s.gap s.len bs));
        small = omega arith;
      }

  pub turned_gap : s.len ≡ 0 → Turned buf buf s (record { at = s.at; gap = s.gap + 1; len = s.len }) false
  turned_gap z =
      record {
        long = refl;
        place = λ bs. ap (λ (rs : List Run). s.at + length (run_bytes rs)) (sym (gap_on s.gap s.len bs z));
        bytes = λ bs. ap (λ (rs : List Run). sets buf s.at (run_bytes rs)) (sym (gap_on s.gap s.len bs z));
        small = omega arith;
      }

  pub turned_end : (mid after : List ℕ) (p q : ℕ) → (s.len ≡ 0 → ⊥) → Put buf mid s.at s.gap p → Put mid after p s.len q
      → Turned buf after s (record { at = q; gap = 1; len = 0 }) false
  turned_end mid after p q z one two =
      let e : (bs : List Bool) → yet s (false ∷ bs) ≡ varint s.gap ++ varint s.len ++ run_bytes (runs 1 0 bs) =
      λ bs. ap run_bytes (run_end s.gap s.len bs z) ∙ run_bytes_lem _ _ in
      record {
        long = ap length two.1 ∙ length-sets mid p (varint s.len) ∙ ap length one.1 ∙ length-sets buf s.at (varint s.gap);
        place = λ bs. rw (e bs, two_long s.gap s.len (run_bytes (runs 1 0 bs))) (omega arith);
        bytes = λ bs. rw (e bs) (two_laid buf mid after s.at p q s.gap s.len (run_bytes (runs 1 0 bs)) one two);
        small = omega arith;
      }

  -- the end of a scan: no run has begun, or one has
  pub finished_none : s.len ≡ 0 → Laid buf buf s.at (yet s []) s.at
  finished_none z = rw (no_run s.gap s.len z, no_bytes) (record { place = omega arith; bytes = refl })

  pub finished_one : (mid after : List ℕ) (p q : ℕ) → (s.len ≡ 0 → ⊥) → Put buf mid s.at s.gap p → Put mid after p s.len q → Laid buf after s.at (yet s []) q
  finished_one mid after p q z one two =
      let e : yet s [] ≡ varint s.gap ++ varint s.len ++ [] = ap run_bytes (last_run s.gap s.len z) ∙ run_bytes_lem _ _ ∙ rw no_bytes in
      record {
        place = rw (e, two_long s.gap s.len []) (omega arith);
        bytes = rw e (two_laid buf mid after s.at p q s.gap s.len [] one two);
      }

-- what holds at the head of the loop over a section's words
pub record Scanning (buf₀ buf ws : List ℕ) (at from words : ℕ) (s : Scan) (j : ℕ) : Type 0 where
  pub most : j ≤ words
  pub long : length buf ≡ length buf₀
  pub small : s.gap + s.len ≤ j
  pub place : s.at + length (yet s (tab (visited_at ws) (from + j) (words - j))) ≡ at + length (run_bytes (runs_of (tab (visited_at ws) from words)))
  pub bytes : sets buf s.at (yet s (tab (visited_at ws) (from + j) (words - j))) ≡ sets buf₀ at (run_bytes (runs_of (tab (visited_at ws) from words)))

pub scan_begins : (buf ws : List ℕ) (at from words : ℕ) → Scanning buf buf ws at from words (record { at = at; gap = 0; len = 0 }) 0
scan_begins buf ws at from words =
    let a : from + 0 ≡ from = omega arith in
    let b : words - 0 ≡ words = omega arith in
    record { most = omega arith; long = refl; small = omega arith; place = rw (a, b); bytes = rw (a, b) }

pub scan_goes_on : (buf₀ buf after ws : List ℕ) (at from words : ℕ) (s t : Scan) (j : ℕ) (v : Bool) → Scanning buf₀ buf ws at from words s j → j < words
    → v ≡ visited_at ws (from + j) → Turned buf after s t v → Scanning buf₀ after ws at from words t (j + 1)
scan_goes_on buf₀ buf after ws at from words s t j v h l e u =
    let rest : List Bool = tab (visited_at ws) (from + (j + 1)) (words - (j + 1)) in
    let bits : tab (visited_at ws) (from + j) (words - j) ≡ v ∷ rest = tab_at (visited_at ws) from words j l ∙ ap (λ (x : Bool). x ∷ rest) (sym e) in
    record {
      most = omega arith;
      long = u.long ∙ h.long;
      small = omega (arith, u.small, h.small);
      place = u.place rest ∙ ap (λ (bs : List Bool). s.at + length (yet s bs)) (sym bits) ∙ h.place;
      bytes = u.bytes rest ∙ ap (λ (bs : List Bool). sets buf s.at (yet s bs)) (sym bits) ∙ h.bytes;
    }

pub scan_ends : (buf₀ buf after ws : List ℕ) (at from words : ℕ) (s : Scan) (j r : ℕ) → Scanning buf₀ buf ws at from words s j → words ≤ j
    → Laid buf after s.at (yet s []) r → Laid buf₀ after at (run_bytes (runs_of (tab (visited_at ws) from words))) r
scan_ends buf₀ buf after ws at from words s j r h l u =
    let e : tab (visited_at ws) (from + j) (words - j) ≡ [] = tab_end (visited_at ws) (from + j) (words - j) (omega arith) in
    record {
      place = u.place ∙ ap (λ (bs : List Bool). s.at + length (yet s bs)) (sym e) ∙ h.place;
      bytes = u.bytes ∙ ap (λ (bs : List Bool). sets buf s.at (yet s bs)) (sym e) ∙ h.bytes;
    }

-- what holds at the head of the loop that counts runs
pub record Counting (ws : List ℕ) (from words n : ℕ) (before : Bool) (j : ℕ) : Type 0 where
  pub most : j ≤ words
  pub small : n ≤ j
  pub same : n + length (runs_after before (tab (visited_at ws) (from + j) (words - j))) ≡ length (runs_of (tab (visited_at ws) from words))

pub count_begins : (ws : List ℕ) (from words : ℕ) → Counting ws from words 0 false 0
count_begins ws from words =
    let a : from + 0 ≡ from = omega arith in
    let b : words - 0 ≡ words = omega arith in
    record { most = omega arith; small = omega arith; same = rw (a, b) (omega arith) }

pub count_goes_on : (ws : List ℕ) (from words n : ℕ) (before : Bool) (j : ℕ) (v : Bool) (k : ℕ) → Counting ws from words n before j → j < words
    → v ≡ visited_at ws (from + j) → k ≡ closed_by before v → Counting ws from words (n + k) v (j + 1)
count_goes_on ws from words n before j v k h l e c =
    let rest : List Bool = tab (visited_at ws) (from + (j + 1)) (words - (j + 1)) in
    let bits : tab (visited_at ws) (from + j) (words - j) ≡ v ∷ rest = tab_at (visited_at ws) from words j l ∙ ap (λ (x : Bool). x ∷ rest) (sym e) in
    let was : n + length (runs_after before (v ∷ rest)) ≡ length (runs_of (tab (visited_at ws) from words)) = ap (λ (bs : List Bool). n + length (runs_after before bs)) (sym bits) ∙ h.same in
    record {
      most = omega arith;
      small = omega (arith, h.small, c, closed_small before v);
      same = omega (arith, was, c, count_step before v rest);
    }

pub count_ends : (ws : List ℕ) (from words n : ℕ) (before : Bool) (j k : ℕ) → Counting ws from words n before j → words ≤ j → k ≡ closed_by before false
    → n + k ≡ length (runs_of (tab (visited_at ws) from words))
count_ends ws from words n before j k h l c =
    let e : tab (visited_at ws) (from + j) (words - j) ≡ [] = tab_end (visited_at ws) (from + j) (words - j) (omega arith) in
    let was : n + length (runs_after before []) ≡ length (runs_of (tab (visited_at ws) from words)) = ap (λ (bs : List Bool). n + length (runs_after before bs)) (sym e) ∙ h.same in
    omega (arith, was, c, count_last before)

-- the words of the sections before number i grow with i
pub words_grow : (im : List ℕ) (i k : ℕ) → words_before im i ≤ words_before im (i + k)
words_grow im i zero = let e : i + 0 ≡ i = omega arith in rw e (omega arith)
words_grow im i (suc k) =
    let e : i + suc k ≡ i + k + 1 = omega arith in
    rw (e, words_more im (i + k)) (omega (arith, words_grow im i k))

pub words_within : (im : List ℕ) (i : ℕ) → i < sections im → words_before im i + words_at im i ≤ code_words im
words_within im i l =
    let e : i + 1 + (sections im - (i + 1)) ≡ sections im = omega arith in
    let g : words_before im (i + 1) ≤ code_words im = rw e at (words_grow im (i + 1) (sections im - (i + 1))) in
    omega (arith, words_more im i, g)

-- the bytes of sections, one at a time
pub sections_nil : sections_bytes [] ≡ []
unfolding sections_bytes
sections_nil = refl

pub sections_cons : (rs : List Run) (rss : List (List Run)) → sections_bytes (rs ∷ rss) ≡ section_bytes rs ++ sections_bytes rss
unfolding sections_bytes
sections_cons rs rss = refl

-- the sections from number i on
abbrev pub sections_from : List ℕ → List ℕ → ℕ → List ℕ
sections_from im ws i = sections_bytes (tab (runs_in im ws) i (sections im - i))

next_section : (im ws : List ℕ) (i : ℕ) → i < sections im → sections_from im ws i ≡ section_bytes (runs_in im ws i) ++ sections_from im ws (i + 1)
next_section im ws i l = ap sections_bytes (tab_next (runs_in im ws) (sections im) i l) ∙ sections_cons _ _

-- what holds at the head of the loop over the sections
pub record LaidSoFar (buf₀ buf im ws : List ℕ) (at p b i : ℕ) : Type 0 where
  pub most : i ≤ sections im
  pub long : length buf ≡ length buf₀
  pub words : b ≡ words_before im i
  pub place : p + length (sections_from im ws i) ≡ at + length (sections_from im ws 0)
  pub bytes : sets buf p (sections_from im ws i) ≡ sets buf₀ at (sections_from im ws 0)

pub sections_begin : (buf im ws : List ℕ) (at : ℕ) → LaidSoFar buf buf im ws at at 0 0
sections_begin buf im ws at = record { most = omega arith; long = refl; words = sym (words_none im); place = refl; bytes = refl }

-- from the first section on: all of them
pub from_first : (im ws : List ℕ) → sections_from im ws 0 ≡ sections_bytes (tab (runs_in im ws) 0 (sections im))
from_first im ws = let e : sections im - 0 ≡ sections im = omega arith in rw e

module _ (buf₀ buf im ws : List ℕ) (at p b i : ℕ) (h : LaidSoFar buf₀ buf im ws at p b i) (l : i < sections im) where
  section_inside : b + words_at im i ≤ code_words im
  section_inside = omega (arith, h.words, words_within im i l)

  section_place : p + length (section_bytes (runs_in im ws i)) ≤ at + length (sections_from im ws 0)
  section_place = omega (arith, h.place, ap length (next_section im ws i l) ∙ length-append (section_bytes (runs_in im ws i)) (sections_from im ws (i + 1)))

  pub section_room : (c : ℕ) → c ≡ words_at im i
      → (b + c ≤ code_words im) × (p + length (section_bytes (runs_of (tab (visited_at ws) b c))) ≤ at + length (sections_bytes (tab (runs_in im ws) 0 (sections im))))
  section_room c ec =
      let here : section_bytes (runs_of (tab (visited_at ws) b c)) ≡ section_bytes (runs_in im ws i) =
      ap₂ (λ (x y : ℕ). section_bytes (runs_of (tab (visited_at ws) x y))) h.words ec in
      (omega (arith, section_inside, ec), omega (arith, ap length here, section_place, ap length (from_first im ws)))

  pub section_laid : (after : List ℕ) (c q : ℕ) → c ≡ words_at im i → Laid buf after p (section_bytes (runs_of (tab (visited_at ws) b c))) q
      → LaidSoFar buf₀ after im ws at q (b + c) (i + 1)
  section_laid after c q ec u =
      let here : section_bytes (runs_of (tab (visited_at ws) b c)) ≡ section_bytes (runs_in im ws i) =
      ap₂ (λ (x y : ℕ). section_bytes (runs_of (tab (visited_at ws) x y))) h.words ec in
      let split : sections_from im ws i ≡ section_bytes (runs_of (tab (visited_at ws) b c)) ++ sections_from im ws (i + 1) =
      next_section im ws i l ∙ ap (λ (xs : List ℕ). xs ++ sections_from im ws (i + 1)) (sym here) in
      record {
        most = omega arith;
        long = laid_length buf after p q _ u ∙ h.long;
        words = omega (arith, h.words, ec, words_more im i);
        place = omega (arith, u.place, h.place, ap length split ∙ length-append (section_bytes (runs_of (tab (visited_at ws) b c))) (sections_from im ws (i + 1)));
        bytes =
            ap₂ (λ (m : List ℕ) (k : ℕ). sets m k (sections_from im ws (i + 1))) u.bytes u.place
            ∙ sym (sets_append buf p (section_bytes (runs_of (tab (visited_at ws) b c))) (sections_from im ws (i + 1)))
            ∙ ap (sets buf p) (sym split) ∙ h.bytes;
      }

pub sections_end : (buf₀ buf im ws : List ℕ) (at p b i : ℕ) → LaidSoFar buf₀ buf im ws at p b i → sections im ≤ i
    → Laid buf₀ buf at (sections_bytes (tab (runs_in im ws) 0 (sections im))) p
sections_end buf₀ buf im ws at p b i h l =
    let e : sections_from im ws i ≡ [] = ap sections_bytes (tab_end (runs_in im ws) i (sections im - i) (omega arith)) ∙ sections_nil in
    rw (← from_first im ws)
    (record {
      place = omega (arith, h.place, ap length e);
      bytes = ap (sets buf p) (sym e) ∙ h.bytes;
    })

-- how long the sections can be
sections_short : (im ws : List ℕ) (i k : ℕ) → length (sections_bytes (tab (runs_in im ws) i k)) + 10 * words_before im i ≤ 10 * words_before im (i + k) + 15 * k
unfolding tab
sections_short im ws i zero = let e : i + 0 ≡ i = omega arith in rw (e, sections_nil) (omega arith)
sections_short im ws i (suc k) =
    let e : i + suc k ≡ i + 1 + k = omega arith in
    rw (sections_cons (runs_in im ws i) (tab (runs_in im ws) (i + 1) k), length-append (section_bytes (runs_in im ws i)) (sections_bytes (tab (runs_in im ws) (i + 1) k)), e)
    (omega (arith, section_short (tab (visited_at ws) (words_before im i) (words_at im i)), tab_length (visited_at ws) (words_before im i) (words_at im i), words_more im i, sections_short im ws (i + 1) k))

pub report_short : (im ws : List ℕ) → length (sections_bytes (tab (runs_in im ws) 0 (sections im))) ≤ 10 * code_words im + 15 * sections im
report_short im ws =
    let e : 0 + sections im ≡ sections im = omega arith in
    omega (arith, sections_short im ws 0 (sections im), ap (words_before im) e)

-- a buffer that is cleared from its start on
abbrev pub ZeroTo : List ℕ → ℕ → Type 0
ZeroTo l i = (k : ℕ) → k < i → get_or l k 0 ≡ 0

pub zero_one_more : (l : List ℕ) (i : ℕ) → i < length l → ZeroTo l i → ZeroTo (set l i 0) (i + 1)
zero_one_more l i h z k q =
    elim (ℕ_discrete k i) [
      | yes e ↦ rw e (get_or-set_same l i 0 0 h)
      | no n ↦ get_or-set_other l i k 0 0 n ∙ z k (omega arith)
    ]

pub zero_whole : (l : List ℕ) (n : ℕ) → length l ≡ n → ZeroTo l n → l ≡ replicate n 0
zero_whole l n e z =
    ext_get_or 0 l (replicate n 0) (e ∙ sym (length-replicate n 0)) (λ i h. z i (omega arith) ∙ sym (get_or-replicate n i 0 0 (omega arith)))

-- a report that fits stands at the start, and what was past it stays
pub laid_at_start : (buf xs : List ℕ) → length xs ≤ length buf → sets buf 0 xs ≡ xs ++ drop (length xs) buf
laid_at_start buf xs h =
    let e : 0 + length xs ≡ length xs = omega arith in
    sets-eq xs buf 0 (omega arith) ∙ ap (λ (k : ℕ). xs ++ drop k buf) e
