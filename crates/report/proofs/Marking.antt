-- A map in which runs were marked shows these runs, and its other bits are as they were.
-- Assumes nothing.
use mathlib.Core.Path.{◌≡◌, refl, sym, ap, ◌∙◌, subst}
use mathlib.Core.Bool.{Bool, true, false}
use mathlib.Core.List.{List, [], ◌∷◌}
use Prim.Native.Nat.{ℕ, zero, suc, ◌+◌, ◌-◌, ◌*◌, ◌≤◌, ◌<◌}
use native.Mathlib.Decide.{dec_lt}
use native.Mathlib.Omega.{arith}
use lib.ListN.{length}
use lib.Dec.{eqb}
use borrow.Author.Tests.{eqb-true, eqb-false}
use Rattle.image.specs.Layout.{sections}
use Rattle.image.specs.Rules.{words_before, code_words}
use Rattle.image.proofs.CodeWords.{words_more}
use Rattle.visited.specs.Bits.{bit_at, visited_at, with_run, cleared}
use Rattle.visited.proofs.BitLaws.{bit_is_digit, run_length, run_is_set, run_changes_no_other}
use Rattle.visited.proofs.Clearing.{cleared_length, cleared_below, cleared_keeps_rest}
use Rattle.report.specs.Runs.{Run, tab, words_at, runs_in}
use Rattle.report.specs.Marks.{with_runs, with_sections, map_of}
use Rattle.report.proofs.Laying.{words_within}
use Rattle.report.proofs.ReadLaws.{marks_none, marks_more, section_marks_none, section_marks_more}
use Rattle.report.proofs.Fitting.{Fits, AllFit}
use Rattle.report.proofs.Showing.{Shows, shown_runs, runs_shown, shown_same, shown_along}

-- the runs of a section
pub marks_length : (ws : List ℕ) (b : ℕ) (rs : List Run) → length (with_runs ws b rs) ≡ length ws
marks_length ws b [] = ap length (marks_none ws b)
marks_length ws b (r ∷ rs) = ap length (marks_more ws b r rs) ∙ marks_length (with_run ws (b + r.gap) r.len) (b + r.gap + r.len) rs ∙ run_length ws (b + r.gap) r.len

-- a bit before them, and one past them
marks_before : (ws : List ℕ) (b : ℕ) (rs : List Run) (i : ℕ) → i < b → bit_at (with_runs ws b rs) i ≡ bit_at ws i
marks_before ws b [] i h = ap (λ (m : List ℕ). bit_at m i) (marks_none ws b)
marks_before ws b (r ∷ rs) i h =
    ap (λ (m : List ℕ). bit_at m i) (marks_more ws b r rs)
    ∙ marks_before (with_run ws (b + r.gap) r.len) (b + r.gap + r.len) rs i (omega arith)
    ∙ run_changes_no_other ws (b + r.gap) r.len i (λ l. absurd (omega arith))

marks_past : (ws : List ℕ) (least b left : ℕ) (rs : List Run) (i : ℕ) → Fits least left rs → b + left ≤ i → bit_at (with_runs ws b rs) i ≡ bit_at ws i
marks_past ws least b left [] i fit h = ap (λ (m : List ℕ). bit_at m i) (marks_none ws b)
marks_past ws least b left (r ∷ rs) i fit h =
    ap (λ (m : List ℕ). bit_at m i) (marks_more ws b r rs)
    ∙ marks_past (with_run ws (b + r.gap) r.len) 1 (b + r.gap + r.len) (left - r.gap - r.len) rs i fit.3 (omega (arith, fit.2))
    ∙ run_changes_no_other ws (b + r.gap) r.len i (λ l. omega (arith, fit.2))

-- no bit is set from a up to b
abbrev Clear : List ℕ → ℕ → ℕ → Type 0
Clear ws a b = (i : ℕ) → a ≤ i → i < b → bit_at ws i ≡ 0

marks_shown : (ws : List ℕ) (least b left : ℕ) (rs : List Run) → Fits least left rs → Clear ws b (b + left) → b + left ≤ length ws * 32
    → Shows (visited_at (with_runs ws b rs)) b left rs
marks_shown ws least b left [] fit clear room = λ i p q. ap (λ (m : List ℕ). visited_at m i) (marks_none ws b) ∙ ap (λ (n : ℕ). eqb n 1) (clear i p q)
marks_shown ws least b left (r ∷ rs) fit clear room =
    let c : ℕ = b + r.gap in
    let m : List ℕ = with_run ws c r.len in
    let d : ℕ = c + r.len in
    let rest : ℕ = left - r.gap - r.len in
    let whole : with_runs ws b (r ∷ rs) ≡ with_runs m d rs = marks_more ws b r rs in
    subst (λ (z : List ℕ). Shows (visited_at z) b left (r ∷ rs)) (sym whole) (
      (λ i p q. ap (λ (n : ℕ). eqb n 1) (marks_before m d rs i (omega arith) ∙ run_changes_no_other ws c r.len i (λ l. absurd (omega arith)) ∙ clear i p (omega (arith, fit.2)))),
      (λ i p q. ap (λ (n : ℕ). eqb n 1) (marks_before m d rs i q ∙ run_is_set ws c r.len i p q (omega (arith, fit.2)))),
      marks_shown m 1 d rest rs fit.3 (λ i p q. run_changes_no_other ws c r.len i (λ l. p) ∙ clear i (omega arith) (omega (arith, fit.2))) (omega (arith, run_length ws c r.len, fit.2)),
    )

-- the sections from number i on show their runs
abbrev pub AllShow : (ℕ → Bool) → List ℕ → ℕ → List (List Run) → Type 0
AllShow f im i [] = 0 ≤ 0
AllShow f im i (rs ∷ rss) = Shows f (words_before im i) (words_at im i) rs × AllShow f im (i + 1) rss

sections_before : (im ws : List ℕ) (i : ℕ) (rss : List (List Run)) (j : ℕ) → j < words_before im i → bit_at (with_sections im ws i rss) j ≡ bit_at ws j
sections_before im ws i [] j h = ap (λ (m : List ℕ). bit_at m j) (section_marks_none im ws i)
sections_before im ws i (rs ∷ rss) j h =
    ap (λ (m : List ℕ). bit_at m j) (section_marks_more im ws i rs rss)
    ∙ sections_before im (with_runs ws (words_before im i) rs) (i + 1) rss j (omega (arith, words_more im i))
    ∙ marks_before ws (words_before im i) rs j h

sections_past : (im ws : List ℕ) (i : ℕ) (rss : List (List Run)) (j : ℕ) → AllFit im i rss → i + length rss ≤ sections im → code_words im ≤ j
    → bit_at (with_sections im ws i rss) j ≡ bit_at ws j
sections_past im ws i [] j fit n h = ap (λ (m : List ℕ). bit_at m j) (section_marks_none im ws i)
sections_past im ws i (rs ∷ rss) j fit n h =
    ap (λ (m : List ℕ). bit_at m j) (section_marks_more im ws i rs rss)
    ∙ sections_past im (with_runs ws (words_before im i) rs) (i + 1) rss j fit.1 (omega arith) h
    ∙ marks_past ws 0 (words_before im i) (words_at im i) rs j fit.0 (omega (arith, words_within im i (omega arith)))

sections_shown : (im ws : List ℕ) (i : ℕ) (rss : List (List Run)) → AllFit im i rss → i + length rss ≤ sections im → Clear ws (words_before im i) (code_words im)
    → code_words im ≤ length ws * 32 → AllShow (visited_at (with_sections im ws i rss)) im i rss
sections_shown im ws i [] fit n clear room = omega arith
sections_shown im ws i (rs ∷ rss) fit n clear room =
    let b : ℕ = words_before im i in
    let k : ℕ = words_at im i in
    let m : List ℕ = with_runs ws b rs in
    let within : b + k ≤ code_words im = words_within im i (omega arith) in
    let whole : with_sections im ws i (rs ∷ rss) ≡ with_sections im m (i + 1) rss = section_marks_more im ws i rs rss in
    let first : Shows (visited_at m) b k rs = marks_shown ws 0 b k rs fit.0 (λ j p q. clear j p (omega arith)) (omega arith) in
    subst (λ (z : List ℕ). AllShow (visited_at z) im i (rs ∷ rss)) (sym whole) (
      shown_along (visited_at m) (visited_at (with_sections im m (i + 1) rss)) 0 b k rs fit.0
          (λ j p q. ap (λ (n : ℕ). eqb n 1) (sections_before im m (i + 1) rss j (omega (arith, words_more im i)))) first,
      sections_shown im m (i + 1) rss fit.1 (omega arith)
          (λ j p q. marks_past ws 0 b k rs j fit.0 (omega (arith, words_more im i)) ∙ clear j (omega (arith, words_more im i)) q)
          (omega (arith, marks_length ws b rs)),
    )

-- sections that show runs have just these
pub shown_all : (im ws : List ℕ) (i : ℕ) (rss : List (List Run)) → AllFit im i rss → AllShow (visited_at ws) im i rss → tab (runs_in im ws) i (length rss) ≡ rss
unfolding tab
shown_all im ws i [] fit sh = refl
shown_all im ws i (rs ∷ rss) fit sh =
    rw (shown_runs (visited_at ws) 0 (words_before im i) (words_at im i) rs fit.0 sh.0, shown_all im ws (i + 1) rss fit.1 sh.1)

-- the runs of a map are shown by it
pub map_shows : (im ws : List ℕ) (i k : ℕ) → AllShow (visited_at ws) im i (tab (runs_in im ws) i k)
unfolding tab
map_shows im ws i zero = omega arith
map_shows im ws i (suc k) = (runs_shown (visited_at ws) (words_before im i) (words_at im i), map_shows im ws (i + 1) k)

-- sections that show the same runs have the same words visited
pub all_same : (im ws vs : List ℕ) (i : ℕ) (rss : List (List Run)) → AllFit im i rss → AllShow (visited_at ws) im i rss → AllShow (visited_at vs) im i rss
    → (j : ℕ) → words_before im i ≤ j → j < words_before im (i + length rss) → visited_at ws j ≡ visited_at vs j
all_same im ws vs i [] fit sw sv j p q = let e : i + 0 ≡ i = omega arith in absurd (omega (arith, ap (words_before im) e))
all_same im ws vs i (rs ∷ rss) fit sw sv j p q =
    elim (dec_lt j (words_before im i + words_at im i)) [
      | yes l ↦ shown_same (visited_at ws) (visited_at vs) 0 (words_before im i) (words_at im i) rs fit.0 sw.0 sv.0 j p l
      | no l ↦
          let e : i + suc (length rss) ≡ i + 1 + length rss = omega arith in
          all_same im ws vs (i + 1) rss fit.1 sw.1 sv.1 j (omega (arith, words_more im i)) (omega (arith, ap (words_before im) e))
    ]

-- the map after reading
pub record MapTold (im ws : List ℕ) (rss : List (List Run)) : Type 0 where
  pub shows : AllShow (visited_at (map_of im ws rss)) im 0 rss
  pub keeps_rest : (j : ℕ) → code_words im ≤ j → bit_at (map_of im ws rss) j ≡ bit_at ws j

pub map_told : (im ws : List ℕ) (rss : List (List Run)) → AllFit im 0 rss → length rss ≡ sections im → code_words im ≤ length ws * 32 → MapTold im ws rss
map_told im ws rss fit n room =
    let w : ℕ = code_words im in
    record {
      shows = sections_shown im (cleared ws w) 0 rss fit (omega arith) (λ j p q. cleared_below ws w j q) (omega (arith, cleared_length ws w));
      keeps_rest = λ j h. sections_past im (cleared ws w) 0 rss j fit (omega arith) h ∙ cleared_keeps_rest ws w j h;
    }

-- a bit is known by whether it is 1
by_digits : (x y : ℕ) → x < 2 → y < 2 → (t : Bool) → eqb x 1 ≡ t → eqb y 1 ≡ t → x ≡ y
by_digits x y h l true e f = eqb-true x 1 e ∙ sym (eqb-true y 1 f)
by_digits x y h l false e f =
    let a = eqb-false x 1 e in
    let b = eqb-false y 1 f in
    omega arith

pub visited_is_bit : (ws vs : List ℕ) (j : ℕ) → visited_at ws j ≡ visited_at vs j → bit_at ws j ≡ bit_at vs j
visited_is_bit ws vs j e = by_digits (bit_at ws j) (bit_at vs j) (bit_is_digit ws j) (bit_is_digit vs j) (visited_at vs j) e refl
