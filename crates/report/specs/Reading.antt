-- What reads as a report of an image: a part at a time, with the place after it, or None where no report goes on so.
-- Assumes nothing.
use Rattle.std.specs.Prelude.{ℕ, zero, suc, ◌+◌, ◌-◌, Bool, ◌&&◌, List, [], ◌∷◌, length, eqb, leb, Option, Some, None}
use Rattle.words.specs.Choice.{pick}
use Rattle.image.specs.Layout.{sections}
use Rattle.varint.specs.Groups.{Read, number_at}
use Rattle.report.specs.declared.Found.{Found}
use Rattle.report.specs.Runs.{Run, run, words_at}

-- a place, or none; a run that was found
abbrev pub Place : Type 0
Place = Option ℕ

abbrev pub found : ℕ → ℕ → ℕ → Option Found
found g l e = Some (record { gap = g; len = l; end = e })

-- by cases on a number, a run, a place
abbrev pub on_number : {A : Type 0} → Read → (ℕ → ℕ → A) → A → A
on_number (Some (n, e)) f z = f n e
on_number None f z = z

abbrev pub on_run : {A : Type 0} → Option Found → (ℕ → ℕ → ℕ → A) → A → A
on_run (Some r) f z = f r.gap r.len r.end
on_run None f z = z

abbrev pub on_place : {A : Type 0} → Place → (ℕ → A) → A → A
on_place (Some e) f z = f e
on_place None f z = z

-- a run that may stand there: the gap is no less than the least, there is a word in it, it lies in the words that are left
abbrev pub run_fits : ℕ → ℕ → ℕ → ℕ → Bool
run_fits least left g l = leb least g && leb 1 l && leb (g + l) left

-- the run at a place: its gap, its length, and the place after it
abbrev pub run_at : List ℕ → ℕ → ℕ → ℕ → Option Found
run_at s least left at =
    on_number (number_at s at) (λ g d. on_number (number_at s d) (λ l e. pick (run_fits least left g l) (found g l e) None) None) None

-- the runs of a section that read, and the place after them
pub record Parsed : Type 0 where
  pub runs : List Run
  pub end : Place

-- a run before those
abbrev pub after : ℕ → ℕ → Parsed → Parsed
after g l p = record { runs = run g l ∷ p.runs; end = p.end }

abbrev pub lost : Parsed
lost = record { runs = []; end = None }

-- k runs in the words that are left; the gap of each but a section's first is at least 1
unfoldable pub read_runs : List ℕ → ℕ → ℕ → ℕ → ℕ → Parsed
read_runs s zero least left at = record { runs = []; end = Some at }
read_runs s (suc k) least left at = on_run (run_at s least left at) (λ g l e. after g l (read_runs s k 1 (left - g - l) e)) lost

-- a section of so many words: the run count, then its runs
abbrev pub read_section : List ℕ → ℕ → ℕ → Parsed
read_section s words at = on_number (number_at s at) (λ k e. read_runs s k 0 words e) lost

-- the runs of sections that read, the last one in part where it is None, and the place after them
pub record AllParsed : Type 0 where
  pub runs : List (List Run)
  pub end : Place

abbrev pub all_lost : List (List Run) → AllParsed
all_lost rss = record { runs = rss; end = None }

-- a section before those
abbrev pub after_section : List Run → AllParsed → AllParsed
after_section rs p = record { runs = rs ∷ p.runs; end = p.end }

abbrev pub and_on : Parsed → (ℕ → AllParsed) → AllParsed
and_on p f = on_place p.end (λ e. after_section p.runs (f e)) (all_lost (p.runs ∷ []))

-- k sections from number i on
unfoldable pub read_sections : List ℕ → List ℕ → ℕ → ℕ → ℕ → AllParsed
read_sections im s zero i at = record { runs = []; end = Some at }
read_sections im s (suc k) i at = and_on (read_section s (words_at im i) at) (read_sections im s k (i + 1))

-- version 1 and the section count
abbrev pub head_at : List ℕ → ℕ → Place
head_at s n =
    on_number (number_at s 0) (λ v d. pick (eqb v 1) (on_number (number_at s d) (λ m e. pick (eqb m n) (Some e) None) None) None) None

-- nothing stands after the end
abbrev pub at_end : List ℕ → Place → Place
at_end s p = on_place p (λ e. pick (eqb e (length s)) (Some e) None) None

abbrev pub whole : List ℕ → AllParsed → AllParsed
whole s p = record { runs = p.runs; end = at_end s p.end }

-- a report of an image
unfoldable pub read_report : List ℕ → List ℕ → AllParsed
read_report im s = on_place (head_at s (sections im)) (λ e. whole s (read_sections im s (sections im) 0 e)) (all_lost [])
