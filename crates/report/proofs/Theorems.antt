-- What is promised of reports: reading what was written gives the same bits; one report for one set of bits; 13 exactly
-- for what is no report of the image. The definitions are those that the contracts of the two entry points cite.
-- Assumes nothing.
use mathlib.Core.Path.{◌≡◌, refl, sym, ap, ap₂, ◌∙◌}
use mathlib.Core.Bool.{Bool, true, false}
use mathlib.Core.List.{List, ◌∷◌}
use Prim.Native.Nat.{ℕ, zero, suc, ◌+◌, ◌*◌, ◌^◌, ◌≤◌, ◌<◌}
use native.Mathlib.Omega.{arith}
use lib.ListN.{length}
use lib.Dec.{eqb}
use borrow.Author.Tests.{leb-true}
use Rattle.words.specs.Choice.{pick}
use Rattle.image.specs.Layout.{sections}
use Rattle.image.specs.Rules.{sound, words_before, code_words}
use Rattle.image.proofs.CodeWords.{words_none}
use Rattle.image.specs.Laid as image
use Rattle.varint.proofs.Stands.{Bytes}
use Rattle.visited.specs.Bits.{bit_at, visited_at, has_room}
use Rattle.std.specs.Prelude.{Some, None, Result, Ok, Err, ⊤}
use Rattle.report.specs.declared.ReadError.{ReadError}
use Rattle.report.specs.declared.ReadError.TheVariants as read
use Rattle.report.specs.Runs.{Run, runs_of, tab, words_at, runs_in, all_runs}
use Rattle.report.specs.Bytes.{report_bytes, report_of}
use Rattle.report.specs.Reading.{Place, AllParsed, on_place, read_report}
use Rattle.report.specs.Marks.{map_of}
use Rattle.report.specs.Answers.{read_answer, read_leaves}
use Rattle.report.proofs.RunLaws.{tab_length}
use Rattle.report.proofs.Laying.{words_within}
use Rattle.report.proofs.Answering.{tables_there, read_no_report, read_done}
use Rattle.report.proofs.Fitting.{AllFit, map_runs_fit}
use Rattle.report.proofs.Forth.{all_read_to, report_forth}
use Rattle.report.proofs.Back.{ReportTold, report_tells}
use Rattle.report.proofs.Marking.{MapTold, map_told, shown_all, map_shows, all_same, visited_is_bit}

-- a report of an image reads as its runs
pub report_reads : (im ws : List ℕ) (n : ℕ) → sound im n ≡ true → read_report im (report_of im ws) ≡ all_read_to (all_runs im ws) (length (report_of im ws))
report_reads im ws n e =
    let t : image.Laid im × (code_words im < 2 ^ 31) = tables_there im n e in
    report_forth im (all_runs im ws) (map_runs_fit im ws 0 (sections im)) (tab_length (runs_in im ws) 0 (sections im)) (omega (arith, t.0.few_sections)) (omega arith)

-- what was written for one map and is read into another: the first one's bits below W, the other's from W up
pub record Carried (im ws vs : List ℕ) (r : Result ⊤ ReadError) (after : List ℕ) : Type 0 where
  pub accepted : r ≡ Ok tt
  pub below : (j : ℕ) → j < code_words im → bit_at after j ≡ bit_at ws j
  pub above : (j : ℕ) → code_words im ≤ j → bit_at after j ≡ bit_at vs j

pub read_of_written : (im : List ℕ) (n : ℕ) (ws vs : List ℕ) → sound im n ≡ true → has_room vs (code_words im) ≡ true
    → Carried im ws vs (read_answer im n (report_of im ws) vs) (read_leaves im n (report_of im ws) vs)
read_of_written im n ws vs e h =
    let rss : List (List Run) = all_runs im ws in
    let s : List ℕ = report_of im ws in
    let m : List ℕ = map_of im vs rss in
    let x : read_report im s ≡ all_read_to rss (length s) = report_reads im ws n e in
    let gives = read_done im n s vs e h (length s) (ap (λ (p : AllParsed). p.end) (sym x)) in
    let left : read_leaves im n s vs ≡ m = sym gives.1 ∙ ap (λ (p : AllParsed). map_of im vs p.runs) x in
    let count : length rss ≡ sections im = tab_length (runs_in im ws) 0 (sections im) in
    let fit : AllFit im 0 rss = map_runs_fit im ws 0 (sections im) in
    let told : MapTold im vs rss = map_told im vs rss fit count (leb-true (code_words im) (length vs * 32) h) in
    record {
      accepted = sym gives.0;
      below = λ j l.
          ap (λ (y : List ℕ). bit_at y j) left
          ∙ visited_is_bit m ws j (all_same im m ws 0 rss fit told.shows (map_shows im ws 0 (sections im)) j (omega (arith, words_none im))
          (let q : 0 + length rss ≡ sections im = omega arith in omega (arith, ap (words_before im) q)));
      above = λ j l. ap (λ (y : List ℕ). bit_at y j) left ∙ told.keeps_rest j l;
    }

-- bytes that were read
pub record Accepted (im : List ℕ) (n : ℕ) (s vs : List ℕ) : Type 0 where
  pub sound_image : sound im n ≡ true
  pub room : has_room vs (code_words im) ≡ true
  pub place : ℕ
  pub to_end : (read_report im s).end ≡ Some place

by_answer : (im : List ℕ) (n : ℕ) (s vs : List ℕ) (a b : Bool) (p : Place) → sound im n ≡ a → has_room vs (code_words im) ≡ b → (read_report im s).end ≡ p
    → ◌≡◌ {A = Result ⊤ ReadError} (pick a (pick b (on_place p (λ e. Ok tt) (Err read.NoReport)) (Err read.SmallMap)) (Err read.BrokenImage)) (Ok tt) → Accepted im n s vs
by_answer im n s vs false b p ea eb ep h = let z : ◌≡◌ {A = ℕ} 0 1 = cc in absurd (omega arith)
by_answer im n s vs true false p ea eb ep h = let z : ◌≡◌ {A = ℕ} 0 1 = cc in absurd (omega arith)
by_answer im n s vs true true None ea eb ep h = let z : ◌≡◌ {A = ℕ} 0 1 = cc in absurd (omega arith)
by_answer im n s vs true true (Some e) ea eb ep h = record { sound_image = ea; room = eb; place = e; to_end = ep }

pub accepted : (im : List ℕ) (n : ℕ) (s vs : List ℕ) → read_answer im n s vs ≡ Ok tt → Accepted im n s vs
accepted im n s vs h = by_answer im n s vs (sound im n) (has_room vs (code_words im)) (read_report im s).end refl refl refl h

-- what was read is the report of the map that reading left
pub read_is_report : (im : List ℕ) (n : ℕ) (s vs : List ℕ) → Bytes s → read_answer im n s vs ≡ Ok tt → s ≡ report_of im (read_leaves im n s vs)
read_is_report im n s vs bytes h =
    let a : Accepted im n s vs = accepted im n s vs h in
    let rss : List (List Run) = (read_report im s).runs in
    let m : List ℕ = map_of im vs rss in
    let gives = read_done im n s vs a.sound_image a.room a.place (sym a.to_end) in
    let told : ReportTold s bytes im rss = report_tells s bytes im a.place a.to_end in
    let map : MapTold im vs rss = map_told im vs rss told.fits told.count (leb-true (code_words im) (length vs * 32) a.room) in
    let same : all_runs im m ≡ rss = ap (tab (runs_in im m) 0) (sym told.count) ∙ shown_all im m 0 rss told.fits map.shows in
    told.bytes_are ∙ ap report_bytes (sym same) ∙ ap (report_of im) gives.1

-- maps with the same bits below W have the same report
tab_same : {A : Type 0} (f g : ℕ → A) (b k : ℕ) → ((i : ℕ) → b ≤ i → i < b + k → f i ≡ g i) → tab f b k ≡ tab g b k
unfolding tab
tab_same f g b zero h = refl
tab_same f g b (suc k) h = ap₂ ◌∷◌ (h b (omega arith) (omega arith)) (tab_same f g (b + 1) k (λ i p q. h i (omega arith) (omega arith)))

pub same_bits_same_report : (im ws vs : List ℕ) → ((j : ℕ) → j < code_words im → bit_at ws j ≡ bit_at vs j) → report_of im ws ≡ report_of im vs
same_bits_same_report im ws vs h =
    ap report_bytes
    (tab_same (runs_in im ws) (runs_in im vs) 0 (sections im)
    (λ i p q. ap runs_of (tab_same (visited_at ws) (visited_at vs) (words_before im i) (words_at im i)
    (λ j l r. ap (λ (x : ℕ). eqb x 1) (h j (omega (arith, words_within im i (omega arith))))))))

-- two reports of one image that read to the same bits are the same bytes
pub one_report : (im : List ℕ) (n : ℕ) (s t vs us : List ℕ) → Bytes s → Bytes t → read_answer im n s vs ≡ Ok tt → read_answer im n t us ≡ Ok tt
    → ((j : ℕ) → j < code_words im → bit_at (read_leaves im n s vs) j ≡ bit_at (read_leaves im n t us) j) → s ≡ t
one_report im n s t vs us bs bt hs ht same =
    read_is_report im n s vs bs hs ∙ same_bits_same_report im (read_leaves im n s vs) (read_leaves im n t us) same ∙ sym (read_is_report im n t us bt ht)

-- 13 is given for no report of the image
judged_no_report : (im : List ℕ) (n : ℕ) (s vs : List ℕ) (a b : Bool) (p : Place)
    → ◌≡◌ {A = Result ⊤ ReadError} (pick a (pick b (on_place p (λ e. Ok tt) (Err read.NoReport)) (Err read.SmallMap)) (Err read.BrokenImage)) (Err read.NoReport) → (a ≡ true) × (p ≡ None)
judged_no_report im n s vs false b p h = let z : ◌≡◌ {A = ℕ} 0 1 = cc in absurd (omega arith)
judged_no_report im n s vs true false p h = let z : ◌≡◌ {A = ℕ} 0 1 = cc in absurd (omega arith)
judged_no_report im n s vs true true None h = (refl, refl)
judged_no_report im n s vs true true (Some e) h = let z : ◌≡◌ {A = ℕ} 0 1 = cc in absurd (omega arith)

pub thirteen_is_no_report : (im : List ℕ) (n : ℕ) (s vs : List ℕ) → read_answer im n s vs ≡ Err read.NoReport → (ws : List ℕ) → s ≡ report_of im ws → ⊥
thirteen_is_no_report im n s vs h ws e =
    let j : (sound im n ≡ true) × ((read_report im s).end ≡ None) = judged_no_report im n s vs (sound im n) (has_room vs (code_words im)) (read_report im s).end h in
    let x : read_report im s ≡ all_read_to (all_runs im ws) (length (report_of im ws)) = ap (read_report im) e ∙ report_reads im ws n j.0 in
    let q : Some (length (report_of im ws)) ≡ None = ap (λ (p : AllParsed). p.end) (sym x) ∙ j.1 in
    let z : ◌≡◌ {A = ℕ} 0 1 = cc in
    omega arith

-- and what is no report of the image is given 13
by_place : (im : List ℕ) (n : ℕ) (s vs : List ℕ) → Bytes s → sound im n ≡ true → has_room vs (code_words im) ≡ true → ((ws : List ℕ) → s ≡ report_of im ws → ⊥)
    → (p : Place) → (read_report im s).end ≡ p → read_answer im n s vs ≡ Err read.NoReport
by_place im n s vs bytes e h other None q = sym (read_no_report im n s vs e h (sym q)).0
by_place im n s vs bytes e h other (Some d) q = absurd (other (read_leaves im n s vs) (read_is_report im n s vs bytes (sym (read_done im n s vs e h d (sym q)).0)))

pub no_report_is_thirteen : (im : List ℕ) (n : ℕ) (s vs : List ℕ) → Bytes s → sound im n ≡ true → has_room vs (code_words im) ≡ true
    → ((ws : List ℕ) → s ≡ report_of im ws → ⊥) → read_answer im n s vs ≡ Err read.NoReport
no_report_is_thirteen im n s vs bytes e h other = by_place im n s vs bytes e h other (read_report im s).end refl
