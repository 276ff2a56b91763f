-- The bytes of runs that fit read as those runs.
-- Assumes nothing.
use mathlib.Core.Path.{◌≡◌, refl, sym, ap, ◌∙◌}
use mathlib.Core.List.{List, [], ◌∷◌, ◌++◌}
use Prim.Native.Nat.{ℕ, suc, ◌+◌, ◌-◌, ◌^◌, ◌≤◌, ◌<◌}
use native.Mathlib.Omega.{arith}
use lib.ListN.{length, length-append}
use borrow.Author.Tests.{eq-eqb}
use Rattle.image.specs.Layout.{sections}
use Rattle.image.specs.Rules.{code_words}
use Rattle.varint.specs.Groups.{varint, number_at}
use Rattle.varint.proofs.Stands.{Stands, reads}
use Rattle.std.specs.Prelude.{Some}
use Rattle.report.specs.Runs.{Run, words_at}
use Rattle.report.specs.Bytes.{run_bytes, section_bytes, sections_bytes, report_bytes}
use Rattle.report.specs.Reading.{Place, Parsed, after, read_runs, read_section, AllParsed, after_section, read_sections, head_at, whole, read_report}
use Rattle.report.proofs.RunLaws.{no_bytes, run_bytes_lem}
use Rattle.report.proofs.Laying.{words_within, sections_nil, sections_cons}
use Rattle.report.proofs.ReadLaws.{RunTold, run_found, runs_done, runs_more, section_counted, sections_done, sections_more, and_on_at, head_read, right_end}
use Rattle.report.proofs.Standing.{stands_split, stands_self}
use Rattle.report.proofs.Fitting.{Fits, AllFit, fitting_few}

-- what is read whole, to a place
abbrev pub read_to : List Run → ℕ → Parsed
read_to rs e = record { runs = rs; end = Some e }

abbrev pub all_read_to : List (List Run) → ℕ → AllParsed
all_read_to rss e = record { runs = rss; end = Some e }

module _ (s : List ℕ) where
  runs_forth : (rs : List Run) (least left at : ℕ) → Fits least left rs → left < 2 ^ 32 → Stands s at (run_bytes rs)
      → read_runs s (length rs) least left at ≡ read_to rs (at + length (run_bytes rs))
  runs_forth [] least left at h small st = runs_done s 0 least left at refl ∙ ap (read_to []) (rw no_bytes (omega arith))
  runs_forth (r ∷ rs) least left at h small st =
      let g : ℕ = r.gap in
      let l : ℕ = r.len in
      let e : run_bytes (r ∷ rs) ≡ varint g ++ varint l ++ run_bytes rs = run_bytes_lem r rs in
      let f : ℕ = at + length (varint g ++ varint l) in
      let w : Stands s at (varint g ++ varint l) × Stands s f (run_bytes rs) = stands_split s at (varint g ++ varint l) (run_bytes rs) (rw e at st) in
      let v : Stands s at (varint g) × Stands s (at + length (varint g)) (varint l) = stands_split s at (varint g) (varint l) w.0 in
      let n : length (varint g ++ varint l) ≡ length (varint g) + length (varint l) = length-append (varint g) (varint l) in
      let place : at + length (varint g) + length (varint l) ≡ f = omega arith in
      let t : RunTold s least left at g l f =
      record {
        mid = at + length (varint g);
        gap = reads s g at (omega arith) v.0;
        len = reads s l (at + length (varint g)) (omega arith) v.1 ∙ ap (λ (k : ℕ). Some (l, k)) place;
        apart = h.0;
        some = h.1;
        inside = h.2;
      } in
      let one : suc (length rs) - 1 ≡ length rs = omega arith in
      let all : length (varint g ++ varint l ++ run_bytes rs) ≡ length (varint g ++ varint l) + length (run_bytes rs) = length-append (varint g ++ varint l) (run_bytes rs) in
      runs_more s (suc (length rs)) least left at g l f (omega arith) (run_found s least left at g l f t)
      ∙ ap (λ (k : ℕ). after g l (read_runs s k 1 (left - g - l) f)) one
      ∙ ap (after g l) (runs_forth rs 1 (left - g - l) f h.3 (omega arith) w.1)
      ∙ ap (read_to (r ∷ rs)) (rw e (omega arith))

  section_forth : (rs : List Run) (words at : ℕ) → Fits 0 words rs → words < 2 ^ 32 → Stands s at (section_bytes rs)
      → read_section s words at ≡ read_to rs (at + length (section_bytes rs))
  section_forth rs words at h small st =
      let k : ℕ = length rs in
      let w : Stands s at (varint k) × Stands s (at + length (varint k)) (run_bytes rs) = stands_split s at (varint k) (run_bytes rs) st in
      section_counted s words at k (at + length (varint k)) (reads s k at (omega (arith, fitting_few 0 words rs h)) w.0)
      ∙ runs_forth rs 0 words (at + length (varint k)) h small w.1
      ∙ ap (read_to rs) (rw (length-append (varint k) (run_bytes rs)) (omega arith))

  sections_forth : (im : List ℕ) (rss : List (List Run)) (i at : ℕ) → AllFit im i rss → i + length rss ≤ sections im → code_words im < 2 ^ 32
      → Stands s at (sections_bytes rss) → read_sections im s (length rss) i at ≡ all_read_to rss (at + length (sections_bytes rss))
  sections_forth im [] i at h n small st = sections_done im s 0 i at refl ∙ ap (all_read_to []) (rw sections_nil (omega arith))
  sections_forth im (rs ∷ rss) i at h n small st =
      let b : sections_bytes (rs ∷ rss) ≡ section_bytes rs ++ sections_bytes rss = sections_cons rs rss in
      let f : ℕ = at + length (section_bytes rs) in
      let w : Stands s at (section_bytes rs) × Stands s f (sections_bytes rss) = stands_split s at (section_bytes rs) (sections_bytes rss) (rw b at st) in
      let one : suc (length rss) - 1 ≡ length rss = omega arith in
      let words : words_at im i < 2 ^ 32 = omega (arith, words_within im i (omega arith)) in
      let here : read_section s (words_at im i) at ≡ read_to rs f = section_forth rs (words_at im i) at h.0 words w.0 in
      let all : length (section_bytes rs ++ sections_bytes rss) ≡ length (section_bytes rs) + length (sections_bytes rss) = length-append (section_bytes rs) (sections_bytes rss) in
      sections_more im s (suc (length rss)) i at (omega arith)
      ∙ and_on_at (read_section s (words_at im i) at) (read_sections im s (suc (length rss) - 1) (i + 1)) f (ap (λ (p : Parsed). p.end) here)
      ∙ ap (λ (p : Parsed). after_section p.runs (read_sections im s (suc (length rss) - 1) (i + 1) f)) here
      ∙ ap (λ (k : ℕ). after_section rs (read_sections im s k (i + 1) f)) one
      ∙ ap (after_section rs) (sections_forth im rss (i + 1) f h.1 (omega arith) small w.1)
      ∙ ap (all_read_to (rs ∷ rss)) (rw b (omega arith))

-- a report reads as its runs, to its end
pub report_forth : (im : List ℕ) (rss : List (List Run)) → AllFit im 0 rss → length rss ≡ sections im → sections im < 2 ^ 32 → code_words im < 2 ^ 32
    → read_report im (report_bytes rss) ≡ all_read_to rss (length (report_bytes rss))
report_forth im rss h n few small =
    let s : List ℕ = report_bytes rss in
    let front : List ℕ = varint 1 ++ varint (length rss) in
    let w : Stands s 0 front × Stands s (0 + length front) (sections_bytes rss) = stands_split s 0 front (sections_bytes rss) (stands_self s) in
    let v : Stands s 0 (varint 1) × Stands s (0 + length (varint 1)) (varint (length rss)) = stands_split s 0 (varint 1) (varint (length rss)) w.0 in
    let m : length front ≡ length (varint 1) + length (varint (length rss)) = length-append (varint 1) (varint (length rss)) in
    let f : ℕ = 0 + length front in
    let place : 0 + length (varint 1) + length (varint (length rss)) ≡ f = omega arith in
    let first : number_at s 0 ≡ Some (1, 0 + length (varint 1)) = reads s 1 0 (omega arith) v.0 in
    let second : number_at s (0 + length (varint 1)) ≡ Some (length rss, f) = reads s (length rss) (0 + length (varint 1)) (omega arith) v.1 ∙ ap (λ (k : ℕ). Some (length rss, k)) place in
    let head : head_at s (sections im) ≡ Some f = rw (first, second, eq-eqb (length rss) (sections im) n) in
    let long : f + length (sections_bytes rss) ≡ length s =
    let q : length s ≡ length front + length (sections_bytes rss) = length-append front (sections_bytes rss) in omega arith in
    let all : read_sections im s (sections im) 0 f ≡ all_read_to rss (length s) =
    ap (λ (k : ℕ). read_sections im s k 0 f) (sym n) ∙ sections_forth s im rss 0 f h (omega arith) small w.1 ∙ ap (all_read_to rss) long in
    head_read im s f head ∙ ap (whole s) all ∙ ap (λ (p : Place). record { runs = rss; end = p }) (right_end s (Some (length s)) (length s) refl refl)
