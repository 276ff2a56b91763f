-- What reads as runs is the bytes of those runs, and the runs fit.
-- Assumes nothing.
use mathlib.Core.Path.{◌≡◌, refl, sym, ap, ◌∙◌, subst}
use mathlib.Core.Bool.{Bool, true, false}
use mathlib.Core.List.{List, [], ◌∷◌, ◌++◌}
use Prim.Native.Nat.{ℕ, zero, suc, ◌+◌, ◌-◌, ◌≤◌}
use native.Mathlib.Omega.{arith}
use lib.ListN.{length, length-append}
use lib.Dec.{eqb}
use borrow.Author.Tests.{eqb-true}
use Rattle.words.specs.Choice.{pick}
use Rattle.image.specs.Layout.{sections}
use Rattle.varint.specs.Groups.{Read, varint, number_at}
use Rattle.varint.proofs.Stands.{Stands, Bytes, Told, read_tells}
use Rattle.std.specs.Prelude.{Option, Some, None}
use Rattle.report.specs.declared.Found.{Found}
use Rattle.report.specs.Runs.{Run, run, words_at}
use Rattle.report.specs.Bytes.{run_bytes, section_bytes, sections_bytes, report_bytes}
use Rattle.report.specs.Reading.{Place, on_number, run_at, Parsed, after, read_runs, read_section, AllParsed, after_section, read_sections, head_at, at_end, whole, read_report}
use Rattle.report.proofs.RunLaws.{no_bytes, run_bytes_lem}
use Rattle.report.proofs.Laying.{sections_nil, sections_cons}
use Rattle.report.proofs.ReadLaws.{RunTold, run_told, runs_done, runs_more, runs_lost, section_counted, section_uncounted, sections_done, sections_more, and_on_at, and_on_lost, no_head, head_read}
use Rattle.report.proofs.Standing.{stands_inside, stands_join, stands_whole}
use Rattle.report.proofs.Fitting.{Fits, AllFit}

no_place : {e : ℕ} → ◌≡◌ {A = Place} None (Some e) → ⊥
no_place h = let z : ◌≡◌ {A = ℕ} 0 1 = cc in omega arith

-- what runs tell that were read from a place to another
pub record RunsTold (s : List ℕ) (k least left at : ℕ) (rs : List Run) (e : ℕ) : Type 0 where
  pub count : k ≡ length rs
  pub stands : Stands s at (run_bytes rs)
  pub next : e ≡ at + length (run_bytes rs)
  pub fits : Fits least left rs

pub record SectionTold (s : List ℕ) (words at : ℕ) (rs : List Run) (e : ℕ) : Type 0 where
  pub stands : Stands s at (section_bytes rs)
  pub next : e ≡ at + length (section_bytes rs)
  pub fits : Fits 0 words rs

pub record AllTold (im s : List ℕ) (k i at : ℕ) (rss : List (List Run)) (e : ℕ) : Type 0 where
  pub count : k ≡ length rss
  pub stands : Stands s at (sections_bytes rss)
  pub next : e ≡ at + length (sections_bytes rss)
  pub fits : AllFit im i rss

pub record HeadTold (s : List ℕ) (n e : ℕ) : Type 0 where
  pub stands : Stands s 0 (varint 1 ++ varint n)
  pub next : e ≡ length (varint 1 ++ varint n)

module _ (s : List ℕ) (bytes : Bytes s) where
  -- one run before others
  run_before : (k least left at g l f : ℕ) (rs : List Run) (e : ℕ) → RunTold s least left at g l f → RunsTold s k 1 (left - g - l) f rs e
      → RunsTold s (suc k) least left at (run g l ∷ rs) e
  run_before k least left at g l f rs e t h =
      let one : Told s 4 at g t.mid = read_tells s g at t.mid bytes t.gap in
      let two : Told s 4 t.mid l f = read_tells s l t.mid f bytes t.len in
      let b : run_bytes (run g l ∷ rs) ≡ varint g ++ varint l ++ run_bytes rs = run_bytes_lem (run g l) rs in
      let n : length (varint g ++ varint l) ≡ length (varint g) + length (varint l) = length-append (varint g) (varint l) in
      let place : f ≡ at + length (varint g ++ varint l) = omega (arith, one.next, two.next) in
      let first : Stands s at (varint g ++ varint l) = stands_join s at (varint g) (varint l) one.stands (subst (λ (p : ℕ). Stands s p (varint l)) one.next two.stands) in
      record {
        count = ap suc h.count;
        stands = rw b (stands_join s at (varint g ++ varint l) (run_bytes rs) first (subst (λ (p : ℕ). Stands s p (run_bytes rs)) place h.stands));
        next = rw (b, length-append (varint g ++ varint l) (run_bytes rs)) (omega (arith, h.next));
        fits = (t.apart, t.some, t.inside, h.fits);
      }

  run_within : (least left at g l f : ℕ) → RunTold s least left at g l f → f ≤ length s
  run_within least left at g l f t =
      let two : Told s 4 t.mid l f = read_tells s l t.mid f bytes t.len in
      omega (arith, two.next, stands_inside s t.mid (varint l) two.stands)

  abbrev RunsTell : ℕ → ℕ → ℕ → ℕ → Parsed → Type 0
  RunsTell k least left at x = (e : ℕ) → x.end ≡ Some e → RunsTold s k least left at x.runs e

  runs_by : (k least left at : ℕ) → ((left f : ℕ) → f ≤ length s → RunsTell k 1 left f (read_runs s k 1 left f))
      → (r : Option Found) → run_at s least left at ≡ r → RunsTell (suc k) least left at (read_runs s (suc k) least left at)
  runs_by k least left at ih None p =
      subst (RunsTell (suc k) least left at) (sym (runs_lost s (suc k) least left at (omega arith) p)) (λ e q. absurd (no_place q))
  runs_by k least left at ih (Some r) p =
      let g : ℕ = r.gap in
      let l : ℕ = r.len in
      let f : ℕ = r.end in
      let one : suc k - 1 ≡ k = omega arith in
      let t : RunTold s least left at g l f = run_told s least left at g l f p in
      let on : after g l (read_runs s k 1 (left - g - l) f) ≡ read_runs s (suc k) least left at =
      ap (λ (i : ℕ). after g l (read_runs s i 1 (left - g - l) f)) (sym one) ∙ sym (runs_more s (suc k) least left at g l f (omega arith) p) in
      subst (RunsTell (suc k) least left at) on
      (λ e q. run_before k least left at g l f (read_runs s k 1 (left - g - l) f).runs e t (ih (left - g - l) f (run_within least left at g l f t) e q))

  no_runs_told : (least left at : ℕ) → at ≤ length s → RunsTell 0 least left at (record { runs = []; end = Some at })
  no_runs_told least left at l e q =
      let w : at ≡ e = cc in
      record { count = refl; stands = rw no_bytes l; next = rw no_bytes (omega arith); fits = omega arith }

  runs_tell : (k least left at : ℕ) → at ≤ length s → RunsTell k least left at (read_runs s k least left at)
  runs_tell zero least left at l = subst (RunsTell 0 least left at) (sym (runs_done s 0 least left at refl)) (no_runs_told least left at l)
  runs_tell (suc k) least left at l = runs_by k least left at (λ left f m. runs_tell k 1 left f m) (run_at s least left at) refl

  -- a section
  abbrev SectionTells : ℕ → ℕ → Parsed → Type 0
  SectionTells words at x = (e : ℕ) → x.end ≡ Some e → SectionTold s words at x.runs e

  section_by : (words at : ℕ) (r : Read) → number_at s at ≡ r → SectionTells words at (read_section s words at)
  section_by words at None p = subst (SectionTells words at) (sym (section_uncounted s words at p)) (λ e q. absurd (no_place q))
  section_by words at (Some (k, f)) p =
      let one : Told s 4 at k f = read_tells s k at f bytes p in
      let within : f ≤ length s = omega (arith, one.next, stands_inside s at (varint k) one.stands) in
      subst (SectionTells words at) (sym (section_counted s words at k f p)) (λ e q. counted k f one e (runs_tell k 0 words f within e q))
    where
      counted : (k f : ℕ) → Told s 4 at k f → (e : ℕ) → RunsTold s k 0 words f (read_runs s k 0 words f).runs e → SectionTold s words at (read_runs s k 0 words f).runs e
      counted k f one e h =
          let rs : List Run = (read_runs s k 0 words f).runs in
          let head : Stands s at (varint (length rs)) = subst (λ (i : ℕ). Stands s at (varint i)) h.count one.stands in
          let place : f ≡ at + length (varint (length rs)) = one.next ∙ ap (λ (i : ℕ). at + length (varint i)) h.count in
          record {
            stands = stands_join s at (varint (length rs)) (run_bytes rs) head (subst (λ (q : ℕ). Stands s q (run_bytes rs)) place h.stands);
            next = rw (length-append (varint (length rs)) (run_bytes rs)) (omega (arith, h.next));
            fits = h.fits;
          }

  section_tells : (words at : ℕ) → SectionTells words at (read_section s words at)
  section_tells words at = section_by words at (number_at s at) refl

  -- all sections
  abbrev AllTell : List ℕ → ℕ → ℕ → ℕ → AllParsed → Type 0
  AllTell im k i at x = (e : ℕ) → x.end ≡ Some e → AllTold im s k i at x.runs e

  section_before : (im : List ℕ) (k i at f : ℕ) (rs : List Run) (rss : List (List Run)) (e : ℕ) → SectionTold s (words_at im i) at rs f → AllTold im s k (i + 1) f rss e
      → AllTold im s (suc k) i at (rs ∷ rss) e
  section_before im k i at f rs rss e t h =
      let b : sections_bytes (rs ∷ rss) ≡ section_bytes rs ++ sections_bytes rss = sections_cons rs rss in
      record {
        count = ap suc h.count;
        stands = rw b (stands_join s at (section_bytes rs) (sections_bytes rss) t.stands (subst (λ (p : ℕ). Stands s p (sections_bytes rss)) t.next h.stands));
        next = rw (b, length-append (section_bytes rs) (sections_bytes rss)) (omega (arith, h.next, t.next));
        fits = (t.fits, h.fits);
      }

  sections_by : (im : List ℕ) (k i at : ℕ) → ((f : ℕ) → f ≤ length s → AllTell im k (i + 1) f (read_sections im s k (i + 1) f))
      → (p : Place) → (read_section s (words_at im i) at).end ≡ p → AllTell im (suc k) i at (read_sections im s (suc k) i at)
  sections_by im k i at ih None q =
      subst (AllTell im (suc k) i at) (sym (sections_more im s (suc k) i at (omega arith) ∙ and_on_lost _ _ q)) (λ e w. absurd (no_place w))
  sections_by im k i at ih (Some f) q =
      let one : suc k - 1 ≡ k = omega arith in
      let t : SectionTold s (words_at im i) at (read_section s (words_at im i) at).runs f = section_tells (words_at im i) at f q in
      let within : f ≤ length s = omega (arith, t.next, stands_inside s at (section_bytes (read_section s (words_at im i) at).runs) t.stands) in
      let on : after_section (read_section s (words_at im i) at).runs (read_sections im s k (i + 1) f) ≡ read_sections im s (suc k) i at =
      ap (λ (j : ℕ). after_section (read_section s (words_at im i) at).runs (read_sections im s j (i + 1) f)) (sym one)
      ∙ sym (sections_more im s (suc k) i at (omega arith) ∙ and_on_at (read_section s (words_at im i) at) (read_sections im s (suc k - 1) (i + 1)) f q) in
      subst (AllTell im (suc k) i at) on
      (λ e w. section_before im k i at f (read_section s (words_at im i) at).runs (read_sections im s k (i + 1) f).runs e t (ih f within e w))

  no_sections_told : (im : List ℕ) (i at : ℕ) → at ≤ length s → AllTell im 0 i at (record { runs = []; end = Some at })
  no_sections_told im i at l e q =
      let w : at ≡ e = cc in
      record { count = refl; stands = rw sections_nil l; next = rw sections_nil (omega arith); fits = omega arith }

  sections_tell : (im : List ℕ) (k i at : ℕ) → at ≤ length s → AllTell im k i at (read_sections im s k i at)
  sections_tell im zero i at l = subst (AllTell im 0 i at) (sym (sections_done im s 0 i at refl)) (no_sections_told im i at l)
  sections_tell im (suc k) i at l = sections_by im k i at (λ f m. sections_tell im k (i + 1) f m) (read_section s (words_at im i) at).end refl

  -- the head
  by_count : (n d m f e : ℕ) → number_at s 0 ≡ Some (1, d) → number_at s d ≡ Some (m, f) → (t : Bool) → eqb m n ≡ t → pick t (Some f) None ≡ Some e → HeadTold s n e
  by_count n d m f e p q false w h = absurd (no_place h)
  by_count n d m f e p q true w h =
      let mn : m ≡ n = eqb-true m n w in
      let fe : f ≡ e = cc in
      let one : Told s 4 0 1 d = read_tells s 1 0 d bytes p in
      let two : Told s 4 d m f = read_tells s m d f bytes q in
      record {
        stands = stands_join s 0 (varint 1) (varint n) one.stands (subst (λ (k : ℕ). Stands s k (varint n)) one.next (subst (λ (k : ℕ). Stands s d (varint k)) mn two.stands));
        next = rw (length-append (varint 1) (varint n)) (omega (arith, one.next, two.next, ap (λ (k : ℕ). length (varint k)) mn));
      }

  by_version : (n v d e : ℕ) → number_at s 0 ≡ Some (v, d) → (t : Bool) → eqb v 1 ≡ t → (r : Read) → number_at s d ≡ r
      → pick t (on_number r (λ m f. pick (eqb m n) (Some f) None) None) None ≡ Some e → HeadTold s n e
  by_version n v d e p false w r q h = absurd (no_place h)
  by_version n v d e p true w None q h = absurd (no_place h)
  by_version n v d e p true w (Some (m, f)) q h = by_count n d m f e (p ∙ ap (λ (k : ℕ). Some (k, d)) (eqb-true v 1 w)) q (eqb m n) refl h

  head_by : (n e : ℕ) (r : Read) → number_at s 0 ≡ r
      → on_number r (λ v d. pick (eqb v 1) (on_number (number_at s d) (λ m f. pick (eqb m n) (Some f) None) None) None) None ≡ Some e → HeadTold s n e
  head_by n e None p h = absurd (no_place h)
  head_by n e (Some (v, d)) p h = by_version n v d e p (eqb v 1) refl (number_at s d) refl h

  head_tells : (n e : ℕ) → head_at s n ≡ Some e → HeadTold s n e
  head_tells n e h = head_by n e (number_at s 0) refl h

  -- the whole
  end_told : (p : Place) (e : ℕ) → at_end s p ≡ Some e → (p ≡ Some e) × (e ≡ length s)
  end_told None e h = absurd (no_place h)
  end_told (Some f) e h = go (eqb f (length s)) refl h
    where
      go : (t : Bool) → eqb f (length s) ≡ t → pick t (Some f) None ≡ Some e → (Some f ≡ Some e) × (e ≡ length s)
      go false w h = absurd (no_place h)
      go true w h =
          let q : f ≡ e = cc in
          (h, sym q ∙ eqb-true f (length s) w)

  pub record ReportTold (im : List ℕ) (rss : List (List Run)) : Type 0 where
    pub bytes_are : s ≡ report_bytes rss
    pub count : length rss ≡ sections im
    pub fits : AllFit im 0 rss

  abbrev ReportTells : List ℕ → AllParsed → Type 0
  ReportTells im x = (e : ℕ) → x.end ≡ Some e → ReportTold im x.runs

  whole_told : (im : List ℕ) (d : ℕ) → HeadTold s (sections im) d → ReportTells im (whole s (read_sections im s (sections im) 0 d))
  whole_told im d one e q =
      let n : ℕ = sections im in
      let rss : List (List Run) = (read_sections im s n 0 d).runs in
      let ends : ((read_sections im s n 0 d).end ≡ Some e) × (e ≡ length s) = end_told (read_sections im s n 0 d).end e q in
      let within : d ≤ length s = omega (arith, one.next, stands_inside s 0 (varint 1 ++ varint n) one.stands) in
      let two : AllTold im s n 0 d rss e = sections_tell im n 0 d within e ends.0 in
      let front : List ℕ = varint 1 ++ varint (length rss) in
      let head : Stands s 0 front = subst (λ (k : ℕ). Stands s 0 (varint 1 ++ varint k)) two.count one.stands in
      let place : d ≡ 0 + length front = one.next ∙ ap (λ (k : ℕ). length (varint 1 ++ varint k)) two.count ∙ omega arith in
      let all : Stands s 0 (front ++ sections_bytes rss) = stands_join s 0 front (sections_bytes rss) head (subst (λ (k : ℕ). Stands s k (sections_bytes rss)) place two.stands) in
      let long : length (front ++ sections_bytes rss) ≡ length s = rw (length-append front (sections_bytes rss)) (omega (arith, place, two.next, ends.1)) in
      record { bytes_are = stands_whole s (front ++ sections_bytes rss) all long; count = sym two.count; fits = two.fits }

  report_by : (im : List ℕ) (p : Place) → head_at s (sections im) ≡ p → ReportTells im (read_report im s)
  report_by im None h = subst (ReportTells im) (sym (no_head im s h)) (λ e q. absurd (no_place q))
  report_by im (Some d) h = subst (ReportTells im) (sym (head_read im s d h)) (whole_told im d (head_tells (sections im) d h))

  pub report_tells : (im : List ℕ) (e : ℕ) → (read_report im s).end ≡ Some e → ReportTold im (read_report im s).runs
  report_tells im e h = report_by im (head_at s (sections im)) refl e h
