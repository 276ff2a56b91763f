-- Reading, a part at a time, as the reader's loops meet it.
-- Assumes nothing.
use mathlib.Core.Path.{◌≡◌, refl, sym, ap, ap₂, ◌∙◌}
use mathlib.Core.Bool.{Bool, true, false, ◌&&◌}
use mathlib.Core.List.{List, [], ◌∷◌}
use Prim.Native.Nat.{ℕ, zero, suc, ◌+◌, ◌-◌, ◌≤◌, ◌<◌}
use native.Mathlib.Omega.{arith}
use lib.ListN.{length}
use lib.Dec.{leb}
use borrow.Author.Tests.{leb-true, le-leb, eq-eqb, ne_eqb}
use Rattle.words.specs.Choice.{pick}
use Rattle.search.proofs.EveryLaws.{and_left, and_right}
use Rattle.image.specs.Layout.{sections}
use Rattle.image.specs.Rules.{words_before, code_words}
use Rattle.image.proofs.CodeWords.{words_none, words_more}
use Rattle.varint.specs.Groups.{Read, number_at}
use Rattle.visited.specs.Bits.{with_run}
use Rattle.std.specs.Prelude.{Option, Some, None}
use Rattle.report.specs.declared.Found.{Found}
use Rattle.report.specs.Runs.{Run, words_at}
use Rattle.report.specs.Reading.{Place, found, on_number, on_run, on_place, run_fits, run_at, Parsed, after, lost, read_runs, read_section, AllParsed, all_lost, after_section, and_on, read_sections, head_at, at_end, whole, read_report}
use Rattle.report.specs.Marks.{with_runs, with_sections}
use Rattle.report.proofs.Laying.{words_within}

no_next : {g l e : ℕ} → ◌≡◌ {A = Option Found} None (found g l e) → ⊥
no_next h = let z : ◌≡◌ {A = ℕ} 0 1 = cc in omega arith

-- a run that was found has its parts
run_parts : Option Found → ℕ × ℕ × ℕ
run_parts (Some r) = (r.gap, r.len, r.end)
run_parts None = (0, 0, 0)

same_found : {x y f g l e : ℕ} → found x y f ≡ found g l e → (x ≡ g) × (y ≡ l) × (f ≡ e)
unfolding run_parts
same_found h = (ap (λ (r : Option Found). (run_parts r).0) h, ap (λ (r : Option Found). (run_parts r).1) h, ap (λ (r : Option Found). (run_parts r).2) h)

-- what a run that was found tells
pub record RunTold (s : List ℕ) (least left at g l e : ℕ) : Type 0 where
  pub mid : ℕ
  pub gap : number_at s at ≡ Some (g, mid)
  pub len : number_at s mid ≡ Some (l, e)
  pub apart : least ≤ g
  pub some : 1 ≤ l
  pub inside : g + l ≤ left

module _ (s : List ℕ) (least left at g l e : ℕ) where
  by_fit : (x d y f : ℕ) → number_at s at ≡ Some (x, d) → number_at s d ≡ Some (y, f) → (t : Bool) → run_fits least left x y ≡ t
      → pick t (found x y f) None ≡ found g l e → RunTold s least left at g l e
  by_fit x d y f n m false w h = absurd (no_next h)
  by_fit x d y f n m true w h =
      let same : (x ≡ g) × (y ≡ l) × (f ≡ e) = same_found h in
      let ex : x ≡ g = same.0 in
      let ey : y ≡ l = same.1 in
      let ef : f ≡ e = same.2 in
      let first : leb least x && leb 1 y ≡ true = and_left (leb least x && leb 1 y) (leb (x + y) left) w in
      let a : least ≤ x = leb-true least x (and_left (leb least x) (leb 1 y) first) in
      let b : 1 ≤ y = leb-true 1 y (and_right (leb least x) (leb 1 y) first) in
      let i : x + y ≤ left = leb-true (x + y) left (and_right (leb least x && leb 1 y) (leb (x + y) left) w) in
      record {
        mid = d;
        gap = n ∙ ap (λ (k : ℕ). Some (k, d)) ex;
        len = m ∙ ap₂ (λ (i k : ℕ). Some (i, k)) ey ef;
        apart = omega arith;
        some = omega arith;
        inside = omega arith;
      }

  by_length : (x d : ℕ) → number_at s at ≡ Some (x, d) → (r : Read) → number_at s d ≡ r
      → on_number r (λ y f. pick (run_fits least left x y) (found x y f) None) None ≡ found g l e → RunTold s least left at g l e
  by_length x d n None m h = absurd (no_next h)
  by_length x d n (Some (y, f)) m h = by_fit x d y f n m (run_fits least left x y) refl h

  by_gap : (r : Read) → number_at s at ≡ r
      → on_number r (λ x d. on_number (number_at s d) (λ y f. pick (run_fits least left x y) (found x y f) None) None) None ≡ found g l e
      → RunTold s least left at g l e
  by_gap None n h = absurd (no_next h)
  by_gap (Some (x, d)) n h = by_length x d n (number_at s d) refl h

  pub run_told : run_at s least left at ≡ found g l e → RunTold s least left at g l e
  run_told h = by_gap (number_at s at) refl h

  -- and where all of that holds, the run is found
  pub run_found : RunTold s least left at g l e → run_at s least left at ≡ found g l e
  run_found t =
      rw (t.gap, t.len, le-leb least g t.apart, le-leb 1 l t.some, le-leb (g + l) left t.inside)

-- the run at a place, as the code comes to it
module _ (s : List ℕ) (least left at : ℕ) where
  pub run_no_gap : number_at s at ≡ None → None ≡ run_at s least left at
  run_no_gap n = sym (rw n)

  pub run_no_length : (g d : ℕ) → number_at s at ≡ Some (g, d) → number_at s d ≡ None → None ≡ run_at s least left at
  run_no_length g d n m = sym (rw (n, m))

  pub run_judged : (g d l e : ℕ) (t : Bool) → number_at s at ≡ Some (g, d) → number_at s d ≡ Some (l, e) → run_fits least left g l ≡ t
      → pick t (found g l e) None ≡ run_at s least left at
  run_judged g d l e t n m f = sym (rw (n, m, f))

-- the runs of a section, one at a time
pub runs_done : (s : List ℕ) (k least left at : ℕ) → k ≡ 0 → read_runs s k least left at ≡ record { runs = []; end = Some at }
unfolding read_runs
runs_done s k least left at h = rw h

pub runs_more : (s : List ℕ) (k least left at g l e : ℕ) → 0 < k → run_at s least left at ≡ found g l e
    → read_runs s k least left at ≡ after g l (read_runs s (k - 1) 1 (left - g - l) e)
unfolding read_runs
runs_more s zero least left at g l e h r = absurd (omega arith)
runs_more s (suc k) least left at g l e h r =
    let one : suc k - 1 ≡ k = omega arith in
    ap (λ (f : Option Found). on_run f (λ g l e. after g l (read_runs s k 1 (left - g - l) e)) lost) r ∙ ap (λ (i : ℕ). after g l (read_runs s i 1 (left - g - l) e)) (sym one)

pub runs_lost : (s : List ℕ) (k least left at : ℕ) → 0 < k → run_at s least left at ≡ None → read_runs s k least left at ≡ lost
unfolding read_runs
runs_lost s zero least left at h r = absurd (omega arith)
runs_lost s (suc k) least left at h r = ap (λ (f : Option Found). on_run f (λ g l e. after g l (read_runs s k 1 (left - g - l) e)) lost) r

pub marks_none : (ws : List ℕ) (b : ℕ) → with_runs ws b [] ≡ ws
unfolding with_runs
marks_none ws b = refl

pub marks_more : (ws : List ℕ) (b : ℕ) (r : Run) (rs : List Run) → with_runs ws b (r ∷ rs) ≡ with_runs (with_run ws (b + r.gap) r.len) (b + r.gap + r.len) rs
unfolding with_runs
marks_more ws b r rs = refl

-- what holds at the head of the loop over a section's runs: the words from c on are left
pub record ReadSoFar (s : List ℕ) (k words at : ℕ) (map₀ : List ℕ) (b p least : ℕ) (map : List ℕ) (c j : ℕ) : Type 0 where
  pub most : j ≤ k
  pub ends : c ≤ b + words
  pub place : (read_runs s (k - j) least (b + words - c) p).end ≡ (read_runs s k 0 words at).end
  pub marks : with_runs map c (read_runs s (k - j) least (b + words - c) p).runs ≡ with_runs map₀ b (read_runs s k 0 words at).runs

pub reading_begins : (s : List ℕ) (k words at : ℕ) (map : List ℕ) (b : ℕ) → ReadSoFar s k words at map b at 0 map b 0
reading_begins s k words at map b =
    let e : k - 0 ≡ k = omega arith in
    let n : b + words - b ≡ words = omega arith in
    record { most = omega arith; ends = omega arith; place = rw (e, n); marks = rw (e, n) }

module _ (s : List ℕ) (k words at : ℕ) (map₀ : List ℕ) (b p least : ℕ) (map : List ℕ) (c j : ℕ) (h : ReadSoFar s k words at map₀ b p least map c j) where
  pub run_inside : (g l e : ℕ) → run_at s least (b + words - c) p ≡ found g l e → c + g + l ≤ b + words
  run_inside g l e r =
      let t : RunTold s least (b + words - c) p g l e = run_told s least (b + words - c) p g l e r in
      omega (arith, h.ends, t.inside)

  pub run_read : (g l e : ℕ) (next : List ℕ) → j < k → run_at s least (b + words - c) p ≡ found g l e → next ≡ with_run map (c + g) l
      → ReadSoFar s k words at map₀ b e 1 next (c + g + l) (j + 1)
  run_read g l e next q r m =
      let y : k - j - 1 ≡ k - (j + 1) = omega arith in
      let n : b + words - c - g - l ≡ b + words - (c + g + l) = omega arith in
      let x : Parsed = read_runs s (k - (j + 1)) 1 (b + words - (c + g + l)) e in
      let on : read_runs s (k - j) least (b + words - c) p ≡ after g l x =
      runs_more s (k - j) least (b + words - c) p g l e (omega arith) r ∙ ap₂ (λ (i left : ℕ). after g l (read_runs s i 1 left e)) y n in
      record {
        most = omega arith;
        ends = run_inside g l e r;
        place = ap (λ (z : Parsed). z.end) (sym on) ∙ h.place;
        marks =
            ap (λ (w : List ℕ). with_runs w (c + g + l) x.runs) m ∙ sym (marks_more map c (record { gap = g; len = l }) x.runs)
            ∙ ap (λ (z : Parsed). with_runs map c z.runs) (sym on) ∙ h.marks;
      }

  pub run_lost : j < k → run_at s least (b + words - c) p ≡ None → (None ≡ (read_runs s k 0 words at).end) × (map ≡ with_runs map₀ b (read_runs s k 0 words at).runs)
  run_lost q r =
      let e : lost ≡ read_runs s (k - j) least (b + words - c) p = sym (runs_lost s (k - j) least (b + words - c) p (omega arith) r) in (
        ap (λ (z : Parsed). z.end) e ∙ h.place,
        sym (marks_none map c) ∙ ap (λ (z : Parsed). with_runs map c z.runs) e ∙ h.marks,
      )

  pub runs_read : k ≤ j → (Some p ≡ (read_runs s k 0 words at).end) × (map ≡ with_runs map₀ b (read_runs s k 0 words at).runs)
  runs_read q =
      let none : Parsed = record { runs = []; end = Some p } in
      let e : none ≡ read_runs s (k - j) least (b + words - c) p = sym (runs_done s (k - j) least (b + words - c) p (omega arith)) in (
        ap (λ (z : Parsed). z.end) e ∙ h.place,
        sym (marks_none map c) ∙ ap (λ (z : Parsed). with_runs map c z.runs) e ∙ h.marks,
      )

-- a section, by its run count
module _ (s : List ℕ) (words at : ℕ) where
  by_count : Read → Parsed
  by_count r = on_number r (λ k e. read_runs s k 0 words e) lost

  pub section_counted : (k e : ℕ) → number_at s at ≡ Some (k, e) → read_section s words at ≡ read_runs s k 0 words e
  unfolding by_count
  section_counted k e h = ap by_count h

  pub section_uncounted : number_at s at ≡ None → read_section s words at ≡ lost
  unfolding by_count
  section_uncounted h = ap by_count h

-- a section read is as what it is known to read as
pub section_as : (s : List ℕ) (words at : ℕ) (ws : List ℕ) (b : ℕ) (x : Parsed) (r : Place) (m : List ℕ) → read_section s words at ≡ x
    → (r ≡ x.end) × (m ≡ with_runs ws b x.runs) → (r ≡ (read_section s words at).end) × (m ≡ with_runs ws b (read_section s words at).runs)
section_as s words at ws b x r m e p = (p.0 ∙ ap (λ (z : Parsed). z.end) (sym e), p.1 ∙ ap (λ (z : Parsed). with_runs ws b z.runs) (sym e))

-- the sections, one at a time
pub sections_done : (im s : List ℕ) (k i at : ℕ) → k ≡ 0 → read_sections im s k i at ≡ record { runs = []; end = Some at }
unfolding read_sections
sections_done im s k i at h = rw h

pub sections_more : (im s : List ℕ) (k i at : ℕ) → 0 < k → read_sections im s k i at ≡ and_on (read_section s (words_at im i) at) (read_sections im s (k - 1) (i + 1))
unfolding read_sections
sections_more im s zero i at h = absurd (omega arith)
sections_more im s (suc k) i at h = let one : suc k - 1 ≡ k = omega arith in rw one

pub and_on_at : (p : Parsed) (f : ℕ → AllParsed) (e : ℕ) → p.end ≡ Some e → and_on p f ≡ after_section p.runs (f e)
and_on_at p f e h = ap (λ (q : Place). on_place q (λ e. after_section p.runs (f e)) (all_lost (p.runs ∷ []))) h

pub and_on_lost : (p : Parsed) (f : ℕ → AllParsed) → p.end ≡ None → and_on p f ≡ all_lost (p.runs ∷ [])
and_on_lost p f h = ap (λ (q : Place). on_place q (λ e. after_section p.runs (f e)) (all_lost (p.runs ∷ []))) h

pub section_marks_none : (im ws : List ℕ) (i : ℕ) → with_sections im ws i [] ≡ ws
unfolding with_sections
section_marks_none im ws i = refl

pub section_marks_more : (im ws : List ℕ) (i : ℕ) (rs : List Run) (rss : List (List Run))
    → with_sections im ws i (rs ∷ rss) ≡ with_sections im (with_runs ws (words_before im i) rs) (i + 1) rss
unfolding with_sections
section_marks_more im ws i rs rss = refl

-- what holds at the head of the loop over the sections
pub record SectionsSoFar (im s : List ℕ) (at : ℕ) (map₀ map : List ℕ) (p b i : ℕ) : Type 0 where
  pub most : i ≤ sections im
  pub words : b ≡ words_before im i
  pub place : (read_sections im s (sections im - i) i p).end ≡ (read_sections im s (sections im) 0 at).end
  pub marks : with_sections im map i (read_sections im s (sections im - i) i p).runs ≡ with_sections im map₀ 0 (read_sections im s (sections im) 0 at).runs

pub sections_begin : (im s : List ℕ) (at : ℕ) (map : List ℕ) → SectionsSoFar im s at map map at 0 0
sections_begin im s at map =
    let e : sections im - 0 ≡ sections im = omega arith in
    record { most = omega arith; words = sym (words_none im); place = rw e; marks = rw e }

module _ (im s : List ℕ) (at : ℕ) (map₀ map : List ℕ) (p b i : ℕ) (h : SectionsSoFar im s at map₀ map p b i) where
  pub section_inside : i < sections im → b + words_at im i ≤ code_words im
  section_inside l = omega (arith, h.words, words_within im i l)

  step : i < sections im → read_sections im s (sections im - i) i p ≡ and_on (read_section s (words_at im i) p) (read_sections im s (sections im - (i + 1)) (i + 1))
  step l =
      let y : sections im - i - 1 ≡ sections im - (i + 1) = omega arith in
      sections_more im s (sections im - i) i p (omega arith) ∙ ap (λ (k : ℕ). and_on (read_section s (words_at im i) p) (read_sections im s k (i + 1))) y

  pub section_read : (c e : ℕ) (next : List ℕ) → i < sections im → c ≡ words_at im i → Some e ≡ (read_section s c p).end → next ≡ with_runs map b (read_section s c p).runs
      → SectionsSoFar im s at map₀ next e (b + c) (i + 1)
  section_read c e next l ec q m =
      let x : Parsed = read_section s (words_at im i) p in
      let y : AllParsed = read_sections im s (sections im - (i + 1)) (i + 1) e in
      let end : x.end ≡ Some e = ap (λ (k : ℕ). (read_section s k p).end) (sym ec) ∙ sym q in
      let on : read_sections im s (sections im - i) i p ≡ after_section x.runs y =
      step l ∙ and_on_at x (read_sections im s (sections im - (i + 1)) (i + 1)) e end in
      let marked : next ≡ with_runs map (words_before im i) x.runs =
      m ∙ ap₂ (λ (d k : ℕ). with_runs map d (read_section s k p).runs) h.words ec in
      record {
        most = omega arith;
        words = omega (arith, h.words, ec, words_more im i);
        place = ap (λ (z : AllParsed). z.end) (sym on) ∙ h.place;
        marks =
            ap (λ (w : List ℕ). with_sections im w (i + 1) y.runs) marked ∙ sym (section_marks_more im map i x.runs y.runs)
            ∙ ap (λ (z : AllParsed). with_sections im map i z.runs) (sym on) ∙ h.marks;
      }

  pub section_lost : (c : ℕ) (next : List ℕ) → i < sections im → c ≡ words_at im i → None ≡ (read_section s c p).end → next ≡ with_runs map b (read_section s c p).runs
      → (None ≡ (read_sections im s (sections im) 0 at).end) × (next ≡ with_sections im map₀ 0 (read_sections im s (sections im) 0 at).runs)
  section_lost c next l ec q m =
      let x : Parsed = read_section s (words_at im i) p in
      let end : x.end ≡ None = ap (λ (k : ℕ). (read_section s k p).end) (sym ec) ∙ sym q in
      let on : read_sections im s (sections im - i) i p ≡ all_lost (x.runs ∷ []) =
      step l ∙ and_on_lost x (read_sections im s (sections im - (i + 1)) (i + 1)) end in
      let marked : next ≡ with_runs map (words_before im i) x.runs =
      m ∙ ap₂ (λ (d k : ℕ). with_runs map d (read_section s k p).runs) h.words ec in (
        ap (λ (z : AllParsed). z.end) (sym on) ∙ h.place,
        marked ∙ sym (section_marks_none im _ (i + 1)) ∙ sym (section_marks_more im map i x.runs [])
            ∙ ap (λ (z : AllParsed). with_sections im map i z.runs) (sym on) ∙ h.marks,
      )

  pub sections_read : sections im ≤ i → (Some p ≡ (read_sections im s (sections im) 0 at).end) × (map ≡ with_sections im map₀ 0 (read_sections im s (sections im) 0 at).runs)
  sections_read l =
      let none : AllParsed = record { runs = []; end = Some p } in
      let e : none ≡ read_sections im s (sections im - i) i p = sym (sections_done im s (sections im - i) i p (omega arith)) in (
        ap (λ (z : AllParsed). z.end) e ∙ h.place,
        sym (section_marks_none im map i) ∙ ap (λ (z : AllParsed). with_sections im map i z.runs) e ∙ h.marks,
      )

-- the head, as the code comes to it
module _ (s : List ℕ) (n : ℕ) where
  pub head_no_version : number_at s 0 ≡ None → None ≡ head_at s n
  head_no_version p = sym (rw p)

  pub head_other_version : (v d : ℕ) → number_at s 0 ≡ Some (v, d) → (v ≡ 1 → ⊥) → None ≡ head_at s n
  head_other_version v d p q = sym (rw (p, ne_eqb v 1 q))

  pub head_no_count : (v d : ℕ) → number_at s 0 ≡ Some (v, d) → v ≡ 1 → number_at s d ≡ None → None ≡ head_at s n
  head_no_count v d p q r = sym (rw (p, eq-eqb v 1 q, r))

  pub head_other_count : (v d m e : ℕ) → number_at s 0 ≡ Some (v, d) → v ≡ 1 → number_at s d ≡ Some (m, e) → (m ≡ n → ⊥) → None ≡ head_at s n
  head_other_count v d m e p q r w = sym (rw (p, eq-eqb v 1 q, r, ne_eqb m n w))

  pub head_right : (v d m e : ℕ) → number_at s 0 ≡ Some (v, d) → v ≡ 1 → number_at s d ≡ Some (m, e) → m ≡ n → Some e ≡ head_at s n
  head_right v d m e p q r w = sym (rw (p, eq-eqb v 1 q, r, eq-eqb m n w))

-- the whole report, by its head and its end
module _ (im s : List ℕ) where
  by_head : Place → AllParsed
  by_head p = on_place p (λ e. whole s (read_sections im s (sections im) 0 e)) (all_lost [])

  pub no_head : head_at s (sections im) ≡ None → read_report im s ≡ all_lost []
  unfolding read_report by_head
  no_head h = ap by_head h

  pub head_read : (e : ℕ) → head_at s (sections im) ≡ Some e → read_report im s ≡ whole s (read_sections im s (sections im) 0 e)
  unfolding read_report by_head
  head_read e h = ap by_head h

lost_end : (s : List ℕ) (p : Place) → p ≡ None → at_end s p ≡ None
lost_end s p h = ap (at_end s) h

early_end : (s : List ℕ) (p : Place) (e : ℕ) → p ≡ Some e → (e ≡ length s → ⊥) → at_end s p ≡ None
early_end s p e h n = ap (at_end s) h ∙ rw (ne_eqb e (length s) n)

pub right_end : (s : List ℕ) (p : Place) (e : ℕ) → p ≡ Some e → e ≡ length s → at_end s p ≡ Some e
right_end s p e h n = ap (at_end s) h ∙ rw (eq-eqb e (length s) n)

-- what reading a whole report answers and leaves
abbrev pub ReadWhole : List ℕ → List ℕ → List ℕ → Place → List ℕ → Type 0
ReadWhole im s ws r m = (r ≡ (read_report im s).end) × (m ≡ with_sections im ws 0 (read_report im s).runs)

module _ (im s ws : List ℕ) where
  report_as : (x : AllParsed) (r : Place) (m : List ℕ) → read_report im s ≡ x → r ≡ x.end → m ≡ with_sections im ws 0 x.runs → ReadWhole im s ws r m
  report_as x r m e p q = (p ∙ ap (λ (z : AllParsed). z.end) (sym e), q ∙ ap (λ (z : AllParsed). with_sections im ws 0 z.runs) (sym e))

  pub whole_no_head : head_at s (sections im) ≡ None → ReadWhole im s ws None ws
  whole_no_head h = report_as (all_lost []) None ws (no_head im s h) refl (sym (section_marks_none im ws 0))

  module _ (d : ℕ) (h : head_at s (sections im) ≡ Some d) (m : List ℕ) where
    abbrev body : AllParsed
    body = read_sections im s (sections im) 0 d

    pub whole_lost : None ≡ body.end → m ≡ with_sections im ws 0 body.runs → ReadWhole im s ws None m
    whole_lost e q = report_as (whole s body) None m (head_read im s d h) (sym (lost_end s body.end (sym e))) q

    pub whole_early : (f : ℕ) → Some f ≡ body.end → (f ≡ length s → ⊥) → m ≡ with_sections im ws 0 body.runs → ReadWhole im s ws None m
    whole_early f e n q = report_as (whole s body) None m (head_read im s d h) (sym (early_end s body.end f (sym e) n)) q

    pub whole_read : (f : ℕ) → Some f ≡ body.end → f ≡ length s → m ≡ with_sections im ws 0 body.runs → ReadWhole im s ws (Some f) m
    whole_read f e n q = report_as (whole s body) (Some f) m (head_read im s d h) (sym (right_end s body.end f (sym e) n)) q
