-- Runs that may stand in the words that are left: those that reading accepts, and those that a map has.
-- Assumes nothing.
use mathlib.Core.Path.{◌≡◌}
use mathlib.Core.Bool.{Bool, true, false}
use mathlib.Core.List.{List, [], ◌∷◌}
use Prim.Native.Nat.{ℕ, zero, suc, ◌+◌, ◌-◌, ◌≤◌}
use native.Mathlib.Omega.{arith}
use lib.ListN.{length}
use Rattle.visited.specs.Bits.{visited_at}
use Rattle.image.specs.Rules.{words_before}
use Rattle.report.specs.Runs.{Run, runs, tab, words_at, runs_in}
use Rattle.report.proofs.RunLaws.{tab_length}

-- each gap is no less than the least, which is 1 after the first; each run has a word; all lie in the words that are left
abbrev pub Fits : ℕ → ℕ → List Run → Type 0
Fits least left [] = 0 ≤ 0
Fits least left (r ∷ rs) = (least ≤ r.gap) × (1 ≤ r.len) × (r.gap + r.len ≤ left) × Fits 1 (left - r.gap - r.len) rs

-- the runs of sections from number i on
abbrev pub AllFit : List ℕ → ℕ → List (List Run) → Type 0
AllFit im i [] = 0 ≤ 0
AllFit im i (rs ∷ rss) = Fits 0 (words_at im i) rs × AllFit im (i + 1) rss

-- no more runs than words
pub fitting_few : (least left : ℕ) (rs : List Run) → Fits least left rs → length rs ≤ left
fitting_few least left [] h = omega arith
fitting_few least left (r ∷ rs) h = omega (arith, h.1, h.2, fitting_few 1 (left - r.gap - r.len) rs h.3)

-- the runs of words fit
runs_fit : (bs : List Bool) (g l least left : ℕ) → left ≡ g + l + length bs → least ≤ g → Fits least left (runs g l bs)
unfolding runs
runs_fit [] g zero least left n a = omega arith
runs_fit [] g (suc l) least left n a = (a, omega arith, omega arith, omega arith)
runs_fit (true ∷ bs) g zero least left n a = runs_fit bs g 1 least left (omega arith) a
runs_fit (true ∷ bs) g (suc l) least left n a = runs_fit bs g (suc (suc l)) least left (omega arith) a
runs_fit (false ∷ bs) g zero least left n a = runs_fit bs (suc g) zero least left (omega arith) (omega arith)
runs_fit (false ∷ bs) g (suc l) least left n a =
    (a, omega arith, omega arith, runs_fit bs 1 zero 1 (left - g - suc l) (omega arith) (omega arith))

-- those of a map do
pub map_runs_fit : (im ws : List ℕ) (i k : ℕ) → AllFit im i (tab (runs_in im ws) i k)
unfolding tab
map_runs_fit im ws i zero = omega arith
map_runs_fit im ws i (suc k) = (
  runs_fit (tab (visited_at ws) (words_before im i) (words_at im i)) 0 0 0 (words_at im i) (omega (arith, tab_length (visited_at ws) (words_before im i) (words_at im i))) (omega arith),
  map_runs_fit im ws (i + 1) k,
)
