-- The runs of words, a word at a time; how many there are, and how many bytes they take.
-- Assumes nothing.
use mathlib.Core.Path.{◌≡◌, refl, sym, ap, ap₂, ◌∙◌}
use mathlib.Core.Bool.{Bool, true, false}
use mathlib.Core.List.{List, [], ◌∷◌, ◌++◌}
use Prim.Native.Nat.{ℕ, zero, suc, ◌+◌, ◌-◌, ◌*◌, ◌≤◌, ◌<◌}
use native.Mathlib.Omega.{arith}
use native.Mathlib.Numerals.{add-one}
use lib.ListN.{length, length-append}
use Rattle.varint.specs.Groups.{varint}
use Rattle.varint.proofs.GroupLaws.{groups_short}
use Rattle.report.specs.Runs.{Run, run, runs, runs_of, tab}
use Rattle.report.specs.Bytes.{run_bytes, section_bytes}
use Rattle.report.specs.Steps.{closed_by}

-- f at k numbers from i on, one at a time
pub tab_step : {A : Type 0} (f : ℕ → A) (i k : ℕ) → 0 < k → tab f i k ≡ f i ∷ tab f (i + 1) (k - 1)
unfolding tab
tab_step f i zero h = absurd (omega arith)
tab_step f i (suc k) h = let e : suc k - 1 ≡ k = omega arith in rw e

pub tab_end : {A : Type 0} (f : ℕ → A) (i k : ℕ) → k ≡ 0 → tab f i k ≡ []
unfolding tab
tab_end f i k h = rw h

pub tab_at : {A : Type 0} (f : ℕ → A) (i k j : ℕ) → j < k → tab f (i + j) (k - j) ≡ f (i + j) ∷ tab f (i + (j + 1)) (k - (j + 1))
tab_at f i k j h =
    let a : i + j + 1 ≡ i + (j + 1) = omega arith in
    let b : k - j - 1 ≡ k - (j + 1) = omega arith in
    tab_step f (i + j) (k - j) (omega arith) ∙ ap₂ (λ (x y : ℕ). f (i + j) ∷ tab f x y) a b

pub tab_next : {A : Type 0} (f : ℕ → A) (k j : ℕ) → j < k → tab f j (k - j) ≡ f j ∷ tab f (j + 1) (k - (j + 1))
tab_next f k j h =
    let b : k - j - 1 ≡ k - (j + 1) = omega arith in
    tab_step f j (k - j) (omega arith) ∙ ap (λ (y : ℕ). f j ∷ tab f (j + 1) y) b

pub tab_length : {A : Type 0} (f : ℕ → A) (i k : ℕ) → length (tab f i k) ≡ k
unfolding tab
tab_length f i zero = refl
tab_length f i (suc k) = ap suc (tab_length f (i + 1) k)

-- runs, a word at a time
pub run_on : (g l : ℕ) (bs : List Bool) → runs g l (true ∷ bs) ≡ runs g (l + 1) bs
unfolding runs
run_on g zero bs = refl
run_on g (suc l) bs = ap (λ (k : ℕ). runs g k bs) (sym (add-one (suc l)))

pub gap_on : (g l : ℕ) (bs : List Bool) → l ≡ 0 → runs g l (false ∷ bs) ≡ runs (g + 1) l bs
unfolding runs
gap_on g l bs z = rw z (ap (λ (k : ℕ). runs k 0 bs) (sym (add-one g)))

pub run_end : (g l : ℕ) (bs : List Bool) → (l ≡ 0 → ⊥) → runs g l (false ∷ bs) ≡ run g l ∷ runs 1 0 bs
unfolding runs
run_end g zero bs z = absurd (z refl)
run_end g (suc l) bs z = refl

pub last_run : (g l : ℕ) → (l ≡ 0 → ⊥) → runs g l [] ≡ run g l ∷ []
unfolding runs
last_run g zero z = absurd (z refl)
last_run g (suc l) z = refl

pub no_run : (g l : ℕ) → l ≡ 0 → runs g l [] ≡ []
unfolding runs
no_run g l z = rw z

-- their bytes
pub no_bytes : run_bytes [] ≡ []
unfolding run_bytes
no_bytes = refl

pub run_bytes_lem : (r : Run) (rs : List Run) → run_bytes (r ∷ rs) ≡ varint r.gap ++ varint r.len ++ run_bytes rs
unfolding run_bytes
run_bytes_lem r rs = refl

pub two_long : (m n : ℕ) (ys : List ℕ) → length (varint m ++ varint n ++ ys) ≡ length (varint m) + length (varint n) + length ys
two_long m n ys = rw (length-append (varint m ++ varint n) ys, length-append (varint m) (varint n))

-- at most one run more than there are words, of at most ten bytes each
runs_few : (g l : ℕ) (bs : List Bool) → length (runs g l bs) ≤ length bs + 1
unfolding runs
runs_few g zero [] = omega arith
runs_few g (suc l) [] = omega arith
runs_few g zero (false ∷ bs) = omega (arith, runs_few (suc g) zero bs)
runs_few g (suc l) (false ∷ bs) = omega (arith, runs_few 1 zero bs)
runs_few g zero (true ∷ bs) = omega (arith, runs_few g 1 bs)
runs_few g (suc l) (true ∷ bs) = omega (arith, runs_few g (suc (suc l)) bs)

run_bytes_short : (rs : List Run) → length (run_bytes rs) ≤ 10 * length rs
unfolding run_bytes
run_bytes_short [] = omega arith
run_bytes_short (r ∷ rs) =
    rw (two_long r.gap r.len (run_bytes rs))
    (omega (arith, groups_short 4 r.gap, groups_short 4 r.len, run_bytes_short rs))

pub section_short : (bs : List Bool) → length (section_bytes (runs_of bs)) ≤ 10 * length bs + 15
section_short bs =
    rw (length-append (varint (length (runs_of bs))) (run_bytes (runs_of bs)))
    (omega (arith, groups_short 4 (length (runs_of bs)), runs_few 0 0 bs, run_bytes_short (runs_of bs)))

-- how many runs there are does not depend on the gap, nor on how long the first is
same_count : (g l : ℕ) (bs : List Bool) → (length (runs g 0 bs) ≡ length (runs 0 0 bs)) × (length (runs g (suc l) bs) ≡ length (runs 0 1 bs))
unfolding runs
same_count g l [] = (refl, refl)
same_count g l (false ∷ bs) = ((same_count (suc g) l bs).0 ∙ sym (same_count 1 l bs).0, refl)
same_count g l (true ∷ bs) = ((same_count g 0 bs).1, (same_count g (suc l) bs).1 ∙ sym (same_count 0 1 bs).1)

-- the runs of the words to come, where the word before them was visited or not
abbrev pub runs_after : Bool → List Bool → List Run
runs_after true bs = runs 0 1 bs
runs_after false bs = runs 0 0 bs

pub count_step : (before v : Bool) (bs : List Bool) → length (runs_after before (v ∷ bs)) ≡ closed_by before v + length (runs_after v bs)
unfolding runs
count_step false false bs = (same_count 1 0 bs).0 ∙ omega arith
count_step false true bs = omega arith
count_step true false bs = omega (arith, (same_count 1 0 bs).0)
count_step true true bs = (same_count 0 1 bs).1 ∙ omega arith

pub count_last : (before : Bool) → length (runs_after before []) ≡ closed_by before false
unfolding runs
count_last false = refl
count_last true = refl

pub closed_small : (before v : Bool) → closed_by before v ≤ 1
closed_small true true = omega arith
closed_small true false = omega arith
closed_small false v = omega arith
