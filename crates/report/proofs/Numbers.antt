-- A report is a row of numbers, each in its shortest form.
-- Assumes nothing.
use mathlib.Core.Path.{◌≡◌, refl, sym, ap, ◌∙◌}
use mathlib.Core.Bool.{true}
use mathlib.Core.List.{List, [], ◌∷◌, ◌++◌, append_assoc}
use Prim.Native.Nat.{ℕ, ◌+◌, ◌-◌, ◌^◌, ◌≤◌, ◌<◌}
use native.Mathlib.Omega.{arith}
use lib.ListN.{length}
use Rattle.image.specs.Layout.{sections}
use Rattle.image.specs.Laid as image
use Rattle.image.specs.Rules.{sound, code_words}
use Rattle.varint.specs.Groups.{varint}
use Rattle.varint.specs.Value.{value_of, marked}
use Rattle.varint.proofs.Shortest.{varint_value, varint_marked, varint_shortest}
use Rattle.report.specs.Runs.{Run, words_at, runs_in, all_runs}
use Rattle.report.specs.Bytes.{run_bytes, sections_bytes, report_bytes, report_of}
use Rattle.report.proofs.RunLaws.{tab_length, no_bytes, run_bytes_lem}
use Rattle.report.proofs.Laying.{words_within, sections_nil, sections_cons}
use Rattle.report.proofs.Fitting.{Fits, AllFit, fitting_few, map_runs_fit}
use Rattle.report.proofs.Answering.{tables_there}

-- numbers, one after the other
abbrev pub varints : List ℕ → List ℕ
varints [] = []
varints (n ∷ ns) = varint n ++ varints ns

-- the numbers of runs, of sections, of a report
abbrev pub run_numbers : List Run → List ℕ
run_numbers [] = []
run_numbers (r ∷ rs) = r.gap ∷ r.len ∷ run_numbers rs

abbrev pub section_numbers : List (List Run) → List ℕ
section_numbers [] = []
section_numbers (rs ∷ rss) = length rs ∷ run_numbers rs ++ section_numbers rss

abbrev pub report_numbers : List (List Run) → List ℕ
report_numbers rss = 1 ∷ length rss ∷ section_numbers rss

varints_append : (ns ms : List ℕ) → varints (ns ++ ms) ≡ varints ns ++ varints ms
varints_append [] ms = refl
varints_append (n ∷ ns) ms = ap (λ (l : List ℕ). varint n ++ l) (varints_append ns ms) ∙ sym (append_assoc (varint n) (varints ns) (varints ms))

runs_are_numbers : (rs : List Run) → run_bytes rs ≡ varints (run_numbers rs)
runs_are_numbers [] = no_bytes
runs_are_numbers (r ∷ rs) =
    run_bytes_lem r rs ∙ append_assoc (varint r.gap) (varint r.len) (run_bytes rs)
    ∙ ap (λ (l : List ℕ). varint r.gap ++ (varint r.len ++ l)) (runs_are_numbers rs)

sections_are_numbers : (rss : List (List Run)) → sections_bytes rss ≡ varints (section_numbers rss)
sections_are_numbers [] = sections_nil
sections_are_numbers (rs ∷ rss) =
    sections_cons rs rss ∙ append_assoc (varint (length rs)) (run_bytes rs) (sections_bytes rss)
    ∙ ap (λ (l : List ℕ). varint (length rs) ++ (l ++ sections_bytes rss)) (runs_are_numbers rs)
    ∙ ap (λ (l : List ℕ). varint (length rs) ++ (varints (run_numbers rs) ++ l)) (sections_are_numbers rss)
    ∙ ap (λ (l : List ℕ). varint (length rs) ++ l) (sym (varints_append (run_numbers rs) (section_numbers rss)))

pub report_is_numbers : (rss : List (List Run)) → report_bytes rss ≡ varints (report_numbers rss)
report_is_numbers rss =
    append_assoc (varint 1) (varint (length rss)) (sections_bytes rss)
    ∙ ap (λ (l : List ℕ). varint 1 ++ (varint (length rss) ++ l)) (sections_are_numbers rss)

-- a number below 2^32 whose groups stand for it, have their top bits right and are as few as can be
pub record Shortest (n : ℕ) : Type 0 where
  pub value : value_of (varint n) ≡ n
  pub top_bits : marked (varint n) ≡ true
  pub fewest : (bs : List ℕ) → value_of bs ≡ n → 1 ≤ length bs → length (varint n) ≤ length bs

abbrev pub AllShortest : List ℕ → Type 0
AllShortest [] = 0 ≤ 0
AllShortest (n ∷ ns) = Shortest n × AllShortest ns

shortest : (n : ℕ) → n < 2 ^ 32 → Shortest n
shortest n h = record { value = varint_value n h; top_bits = varint_marked n h; fewest = λ bs v l. varint_shortest n bs h v l }

all_shortest_append : (ns ms : List ℕ) → AllShortest ns → AllShortest ms → AllShortest (ns ++ ms)
all_shortest_append [] ms h k = k
all_shortest_append (n ∷ ns) ms h k = (h.0, all_shortest_append ns ms h.1 k)

runs_shortest : (least left : ℕ) (rs : List Run) → left < 2 ^ 32 → Fits least left rs → AllShortest (run_numbers rs)
runs_shortest least left [] h fit = omega arith
runs_shortest least left (r ∷ rs) h fit = (
  shortest r.gap (omega (arith, fit.2)),
  (shortest r.len (omega (arith, fit.2)), runs_shortest 1 (left - r.gap - r.len) rs (omega arith) fit.3),
)

sections_shortest : (im : List ℕ) (i : ℕ) (rss : List (List Run)) → i + length rss ≤ sections im → code_words im < 2 ^ 32 → AllFit im i rss → AllShortest (section_numbers rss)
sections_shortest im i [] n h fit = omega arith
sections_shortest im i (rs ∷ rss) n h fit =
    let few : words_at im i < 2 ^ 32 = omega (arith, words_within im i (omega arith)) in (
      shortest (length rs) (omega (arith, fitting_few 0 (words_at im i) rs fit.0)),
      all_shortest_append (run_numbers rs) (section_numbers rss) (runs_shortest 0 (words_at im i) rs few fit.0) (sections_shortest im (i + 1) rss (omega arith) h fit.1),
    )

-- every number of a report of a sound image is in shortest form
pub every_number_shortest : (im : List ℕ) (n : ℕ) (ws : List ℕ) → sound im n ≡ true
    → (report_of im ws ≡ varints (report_numbers (all_runs im ws))) × AllShortest (report_numbers (all_runs im ws))
every_number_shortest im n ws e =
    let t : image.Laid im × (code_words im < 2 ^ 31) = tables_there im n e in
    let count : length (all_runs im ws) ≡ sections im = tab_length (runs_in im ws) 0 (sections im) in (
      report_is_numbers (all_runs im ws),
      (
        shortest 1 (omega arith),
        (
          shortest (length (all_runs im ws)) (omega (arith, t.0.few_sections)),
          sections_shortest im 0 (all_runs im ws) (omega arith) (omega arith) (map_runs_fit im ws 0 (sections im)),
        ),
      ),
    )
