-- Words that show runs: those of a gap are not visited, those of a run are. They have just these runs, and runs show just
-- these words.
-- Assumes nothing.
use mathlib.Core.Path.{◌≡◌, refl, sym, ap, ap₂, ◌∙◌}
use mathlib.Core.Bool.{Bool, true, false}
use mathlib.Core.List.{List, [], ◌∷◌}
use Prim.Native.Nat.{ℕ, zero, suc, ◌+◌, ◌-◌, ◌≤◌, ◌<◌}
use native.Mathlib.Decide.{dec_lt, ℕ_discrete}
use native.Mathlib.Omega.{arith}
use Rattle.report.specs.Runs.{Run, run, runs, runs_of, tab}
use Rattle.report.proofs.RunLaws.{tab_step, tab_end, run_on, gap_on, run_end, last_run, no_run}
use Rattle.report.proofs.Fitting.{Fits}

-- f is v at each number from a up to b
abbrev pub Are : (ℕ → Bool) → Bool → ℕ → ℕ → Type 0
Are f v a b = (i : ℕ) → a ≤ i → i < b → f i ≡ v

-- the words from b on show runs, in the words that are left
abbrev pub Shows : (ℕ → Bool) → ℕ → ℕ → List Run → Type 0
Shows f b left [] = Are f false b (b + left)
Shows f b left (r ∷ rs) =
    Are f false b (b + r.gap) × Are f true (b + r.gap) (b + r.gap + r.len) × Shows f (b + r.gap + r.len) (left - r.gap - r.len) rs

-- a gap is passed, and a run
gap_passed : (f : ℕ → Bool) (n m b g : ℕ) → Are f false b (b + n) → runs g 0 (tab f b (n + m)) ≡ runs (g + n) 0 (tab f (b + n) m)
gap_passed f zero m b g h =
    let x : 0 + m ≡ m = omega arith in
    let y : g + 0 ≡ g = omega arith in
    let z : b + 0 ≡ b = omega arith in
    rw (x, y, z)
gap_passed f (suc n) m b g h =
    let x : suc n + m - 1 ≡ n + m = omega arith in
    let y : g + 1 + n ≡ g + suc n = omega arith in
    let z : b + 1 + n ≡ b + suc n = omega arith in
    ap (runs g 0) (tab_step f b (suc n + m) (omega arith))
    ∙ ap₂ (λ (v : Bool) (k : ℕ). runs g 0 (v ∷ tab f (b + 1) k)) (h b (omega arith) (omega arith)) x
    ∙ gap_on g 0 (tab f (b + 1) (n + m)) refl
    ∙ gap_passed f n m (b + 1) (g + 1) (λ i p q. h i (omega arith) (omega arith))
    ∙ ap₂ (λ (j k : ℕ). runs j 0 (tab f k m)) y z

run_passed : (f : ℕ → Bool) (n m b g l : ℕ) → Are f true b (b + n) → runs g l (tab f b (n + m)) ≡ runs g (l + n) (tab f (b + n) m)
run_passed f zero m b g l h =
    let x : 0 + m ≡ m = omega arith in
    let y : l + 0 ≡ l = omega arith in
    let z : b + 0 ≡ b = omega arith in
    rw (x, y, z)
run_passed f (suc n) m b g l h =
    let x : suc n + m - 1 ≡ n + m = omega arith in
    let y : l + 1 + n ≡ l + suc n = omega arith in
    let z : b + 1 + n ≡ b + suc n = omega arith in
    ap (runs g l) (tab_step f b (suc n + m) (omega arith))
    ∙ ap₂ (λ (v : Bool) (k : ℕ). runs g l (v ∷ tab f (b + 1) k)) (h b (omega arith) (omega arith)) x
    ∙ run_on g l (tab f (b + 1) (n + m))
    ∙ run_passed f n m (b + 1) g (l + 1) (λ i p q. h i (omega arith) (omega arith))
    ∙ ap₂ (λ (j k : ℕ). runs g j (tab f k m)) y z

-- a run is closed by a word that is not visited, or by the end
run_closed : (f : ℕ → Bool) (c m g l : ℕ) → (l ≡ 0 → ⊥) → (0 < m → f c ≡ false) → runs g l (tab f c m) ≡ run g l ∷ runs_of (tab f c m)
run_closed f c m g l z h =
    elim (dec_lt 0 m) [
      | yes q ↦
          let first : tab f c m ≡ false ∷ tab f (c + 1) (m - 1) = tab_step f c m q ∙ ap (λ (v : Bool). v ∷ tab f (c + 1) (m - 1)) (h q) in
          let one : 0 + 1 ≡ 1 = omega arith in
          rw first (run_end g l (tab f (c + 1) (m - 1)) z ∙ ap (λ (rs : List Run). run g l ∷ rs) (sym (gap_on 0 0 (tab f (c + 1) (m - 1)) refl)))
      | no q ↦ rw (tab_end f c m (omega arith)) (last_run g l z ∙ ap (λ (rs : List Run). run g l ∷ rs) (sym (no_run 0 0 refl)))
    ]

-- after a run the next word is of a gap
gap_next : (f : ℕ → Bool) (c left : ℕ) (rs : List Run) → Fits 1 left rs → Shows f c left rs → 0 < left → f c ≡ false
gap_next f c left [] fit sh h = sh c (omega arith) (omega arith)
gap_next f c left (r ∷ rs) fit sh h = sh.0 c (omega arith) (omega (arith, fit.0))

-- words that show runs have just these
pub shown_runs : (f : ℕ → Bool) (least b left : ℕ) (rs : List Run) → Fits least left rs → Shows f b left rs → runs_of (tab f b left) ≡ rs
shown_runs f least b left [] fit sh =
    let x : left + 0 ≡ left = omega arith in
    ap (λ (k : ℕ). runs_of (tab f b k)) (sym x) ∙ gap_passed f left 0 b 0 sh ∙ ap (runs (0 + left) 0) (tab_end f (b + left) 0 refl) ∙ no_run (0 + left) 0 refl
shown_runs f least b left (r ∷ rs) fit sh =
    let g : ℕ = r.gap in
    let l : ℕ = r.len in
    let rest : ℕ = left - g - l in
    let x : g + (l + rest) ≡ left = omega (arith, fit.2) in
    let y : 0 + g ≡ g = omega arith in
    let z : 0 + l ≡ l = omega arith in
    ap (λ (k : ℕ). runs_of (tab f b k)) (sym x)
    ∙ gap_passed f g (l + rest) b 0 sh.0
    ∙ ap (λ (k : ℕ). runs k 0 (tab f (b + g) (l + rest))) y
    ∙ run_passed f l rest (b + g) g 0 sh.1
    ∙ ap (λ (k : ℕ). runs g k (tab f (b + g + l) rest)) z
    ∙ run_closed f (b + g + l) rest g l (λ q. omega (arith, fit.1)) (gap_next f (b + g + l) rest rs fit.3 sh.2)
    ∙ ap (λ (qs : List Run). r ∷ qs) (shown_runs f 1 (b + g + l) rest rs fit.3 sh.2)

-- one word more
pub are_one_more : (f : ℕ → Bool) (v : Bool) (a c : ℕ) → f c ≡ v → Are f v a c → Are f v a (c + 1)
are_one_more f v a c w h i p q =
    elim (dec_lt i c) [
      | yes t ↦ h i p t
      | no t ↦ let z : i ≡ c = omega arith in ap f z ∙ w
    ]

-- g words not visited and then l visited stand from b up to c, and k more come
abbrev Passed : (ℕ → Bool) → ℕ → ℕ → ℕ → ℕ → ℕ → ℕ → Type 0
Passed f b g l c left k = (c ≡ b + g + l) × (left ≡ g + l + k) × Are f false b (b + g) × Are f true (b + g) c

module _ (f : ℕ → Bool) (k : ℕ) (ih : (b g l c left : ℕ) → Passed f b g l c left k → Shows f b left (runs g l (tab f c k))) where
  word_shown : (b g l c left : ℕ) → Passed f b g l c left (suc k) → (v : Bool) → f c ≡ v → Shows f b left (runs g l (v ∷ tab f (c + 1) k))
  word_shown b g l c left (e, n, h, r) true w =
      rw (run_on g l (tab f (c + 1) k)) (ih b g (l + 1) (c + 1) left (omega arith, omega arith, h, are_one_more f true (b + g) c w r))
  word_shown b g l c left (e, n, h, r) false w =
      elim (ℕ_discrete l 0) [
        | yes z ↦
            let x : b + g ≡ c = omega arith in
            let y : c + 1 ≡ b + (g + 1) = omega arith in
            let longer : Are f false b (b + (g + 1)) = λ i p q. are_one_more f false b c w (λ j s t. h j s (omega arith)) i p (omega arith) in
            rw (gap_on g l (tab f (c + 1) k) z) (ih b (g + 1) l (c + 1) left (omega arith, omega arith, longer, λ i p q. absurd (omega arith)))
        | no z ↦
            let one : Are f false c (c + 1) = are_one_more f false c c w (λ j s t. absurd (omega arith)) in
            rw (run_end g l (tab f (c + 1) k) z) (
              h,
              (λ i p q. r i p (omega arith)),
              rw (← e) (ih c 1 0 (c + 1) (left - g - l) (omega arith, omega arith, one, λ i p q. absurd (omega arith))),
            )
      ]

passed_shown : (f : ℕ → Bool) (k b g l c left : ℕ) → Passed f b g l c left k → Shows f b left (runs g l (tab f c k))
passed_shown f zero b g l c left (e, n, h, r) =
    rw (tab_end f c 0 refl)
    (elim (ℕ_discrete l 0) [
      | yes z ↦ rw (no_run g l z) (λ i p q. h i p (omega arith))
      | no z ↦ rw (last_run g l z) (h, (λ i p q. r i p (omega arith)), λ i p q. absurd (omega arith))
    ])
passed_shown f (suc k) b g l c left (e, n, h, r) =
    let x : suc k - 1 ≡ k = omega arith in
    let first : tab f c (suc k) ≡ f c ∷ tab f (c + 1) k = tab_step f c (suc k) (omega arith) ∙ ap (λ (j : ℕ). f c ∷ tab f (c + 1) j) x in
    rw first (word_shown f k (λ b g l c left q. passed_shown f k b g l c left q) b g l c left (e, n, h, r) (f c) refl)

-- words show their runs
pub runs_shown : (f : ℕ → Bool) (b left : ℕ) → Shows f b left (runs_of (tab f b left))
runs_shown f b left = passed_shown f left b 0 0 b left (omega arith, omega arith, (λ i p q. absurd (omega arith)), λ i p q. absurd (omega arith))

-- words that show the same runs are the same
pub shown_same : (f g : ℕ → Bool) (least b left : ℕ) (rs : List Run) → Fits least left rs → Shows f b left rs → Shows g b left rs
    → (i : ℕ) → b ≤ i → i < b + left → f i ≡ g i
shown_same f g least b left [] fit sf sg i p q = sf i p q ∙ sym (sg i p q)
shown_same f g least b left (r ∷ rs) fit sf sg i p q =
    elim (dec_lt i (b + r.gap)) [
      | yes s ↦ sf.0 i p s ∙ sym (sg.0 i p s)
      | no s ↦ elim (dec_lt i (b + r.gap + r.len)) [
        | yes t ↦ sf.1 i (omega arith) t ∙ sym (sg.1 i (omega arith) t)
        | no t ↦ shown_same f g 1 (b + r.gap + r.len) (left - r.gap - r.len) rs fit.3 sf.2 sg.2 i (omega arith) (omega (arith, fit.2))
      ]
    ]

-- what words show, the same words show
pub shown_along : (f g : ℕ → Bool) (least b left : ℕ) (rs : List Run) → Fits least left rs → ((i : ℕ) → b ≤ i → i < b + left → g i ≡ f i)
    → Shows f b left rs → Shows g b left rs
shown_along f g least b left [] fit same sh = λ i p q. same i p q ∙ sh i p q
shown_along f g least b left (r ∷ rs) fit same sh = (
  (λ i p q. same i p (omega (arith, fit.2)) ∙ sh.0 i p q),
  (λ i p q. same i (omega arith) (omega (arith, fit.2)) ∙ sh.1 i p q),
  shown_along f g 1 (b + r.gap + r.len) (left - r.gap - r.len) rs fit.3 (λ i p q. same i (omega arith) (omega (arith, fit.2))) sh.2,
)
