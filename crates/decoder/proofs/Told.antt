-- What a word must be that decodes to an operation, and what a word with given opcodes decodes to.
-- A fact about the rows is computed once over the table; the laws here tell it of any word. Assumes nothing.
use mathlib.Core.Path.{◌≡◌, refl, sym, ap, ap₂, ◌∙◌, subst}
use mathlib.Core.Bool.{Bool, true, false, not, ◌&&◌, ◌||◌}
use mathlib.Core.List.{List, [], ◌∷◌}
use Prim.Native.Nat.{ℕ, ◌≤◌}
use native.Mathlib.Omega.{arith}
use borrow.Author.Tests.{eq-eqb, le-ltb}
use lib.Dec.{T, eqb, ltb, eqb→eq}
use lib.ListN.{get_or}
use Rattle.words.specs.Choice.{pick}
use Rattle.words.specs.Word.{field}
use Rattle.words.proofs.Tests.{both, both_left, both_right}
use Rattle.decoder.specs.Ops.{number_of, names}
use Rattle.decoder.specs.Table.{Row, rows, none, fits, first}
use Rattle.decoder.specs.Decode.{has_extended, extended_in, row_of, decoded}
use Rattle.decoder.specs.declared.Op.{Op}
use Rattle.decoder.specs.declared.Op.TheVariants.{Illegal}
use Rattle.decoder.proofs.Names.{named}

-- an operation is told by its number
pub same_number : (a b : Op) → number_of a ≡ number_of b → a ≡ b
same_number a b e = sym (named a) ∙ ap (λ (n : ℕ). get_or names n Illegal) e ∙ named b

-- the row of a word with given opcodes, which computes where they are numerals
pub row_of_lem : (w p x : ℕ) → field w 0 5 ≡ p → extended_in w ≡ x → row_of w ≡ first rows p x
unfolding row_of
row_of_lem w p x ep ex = ap₂ (λ (q y : ℕ). first rows q y) ep ex

-- the extended opcode of a word is its ten bits under 19 and 31, and 0 under any other primary opcode
pub extended_under : (w p : ℕ) → field w 0 5 ≡ p → has_extended p ≡ true → extended_in w ≡ field w 21 30
extended_under w p e t = ap (λ (b : Bool). pick b (field w 21 30) 0) (ap has_extended e ∙ t)

pub extended_none : (w p : ℕ) → field w 0 5 ≡ p → has_extended p ≡ false → extended_in w ≡ 0
extended_none w p e t = ap (λ (b : Bool). pick b (field w 21 30) 0) (ap has_extended e ∙ t)

-- a test of a row and of the opcodes that led to it, at each row of a list
abbrev pub each_row : (Row → ℕ → ℕ → Bool) → List Row → Bool
each_row test [] = true
each_row test (r ∷ rs) = both (test r r.primary r.extended) (each_row test rs)

and_left : (a b : Bool) → (a && b) ≡ true → a ≡ true
and_left true b t = refl
and_left false b t = t

and_right : (a b : Bool) → (a && b) ≡ true → b ≡ true
and_right true b t = t
and_right false b t = absurd (omega (arith, ap (λ (c : Bool). pick {A = ℕ} c 1 0) t))

truth : {b : Bool} → b ≡ true → T b
truth e = subst (λ (c : Bool). T c) (sym e) tt

-- one row is looked at
look : (test : Row → ℕ → ℕ → Bool) (r : Row) (rs : List Row) (p x : ℕ) (b : Bool) → fits r p x ≡ b
    → T (both (test r r.primary r.extended) (each_row test rs)) → (T (each_row test rs) → T (test (first rs p x) p x)) → T (test (pick b r (first rs p x)) p x)
look test r rs p x true e t k =
    let ep : r.primary ≡ p = eqb→eq r.primary p (truth (and_left (eqb r.primary p) (eqb r.extended x) e)) in
    let ex : r.extended ≡ x = eqb→eq r.extended x (truth (and_right (eqb r.primary p) (eqb r.extended x) e)) in
    subst (λ (y : ℕ). T (test r p y)) ex (subst (λ (q : ℕ). T (test r q r.extended)) ep (both_left (test r r.primary r.extended) (each_row test rs) t))
look test r rs p x false e t k = k (both_right (test r r.primary r.extended) (each_row test rs) t)

pub found : (test : Row → ℕ → ℕ → Bool) (rs : List Row) (p x : ℕ) → T (each_row test rs) → T (test none p x) → T (test (first rs p x) p x)
unfolding first
found test [] p x t n = n
found test (r ∷ rs) p x t n = look test r rs p x (fits r p x) refl t (λ t'. found test rs p x t' n)

-- of each row with operation n, that its opcodes pass a test
abbrev pub of_op : ℕ → (ℕ → ℕ → Bool) → Row → ℕ → ℕ → Bool
of_op n test r p x = (not (eqb (number_of r.op) n)) || (test p x)

-- a word that decodes to operation n passes each test that the rows of n pass
pub told : (n : ℕ) (test : ℕ → ℕ → Bool) → T (each_row (of_op n test) rows) → T (not (eqb 0 n)) → (w : ℕ) → number_of (decoded w).op ≡ n → T (test (field w 0 5) (extended_in w))
unfolding decoded row_of
told n test t z w e =
    passed (eqb (number_of (row_of w).op) n) (test (field w 0 5) (extended_in w)) (eq-eqb (number_of (row_of w).op) n e)
    (found (of_op n test) rows (field w 0 5) (extended_in w) t (skipped (not (eqb 0 n)) (test (field w 0 5) (extended_in w)) z))
  where
    passed : (b c : Bool) → b ≡ true → T ((not b) || c) → T c
    passed true c e t = t
    passed false c e t = absurd (omega (arith, ap (λ (d : Bool). pick {A = ℕ} d 1 0) e))

    skipped : (a c : Bool) → T a → T (a || c)
    skipped true c t = tt
    skipped false c t = absurd t

-- the primary opcode of the first row with operation n
unfoldable pub primary_in : List Row → ℕ → ℕ
primary_in [] n = 0
primary_in (r ∷ rs) n = pick (eqb (number_of r.op) n) r.primary (primary_in rs n)

abbrev has_primary : Row → ℕ → ℕ → Bool
has_primary r p x = (ltb (number_of r.op) 2) || (eqb p (primary_in rows (number_of r.op)))

-- every operation but Illegal and Other has one primary opcode: one test over the table
pub primary_of : (w : ℕ) (o : Op) → (decoded w).op ≡ o → 2 ≤ number_of o → field w 0 5 ≡ primary_in rows (number_of o)
unfolding decoded row_of rows primary_in
primary_of w o e h =
    eqb→eq (field w 0 5) (primary_in rows (number_of o))
    (passed (ltb (number_of o) 2) (eqb (field w 0 5) (primary_in rows (number_of o))) (le-ltb (number_of o) 2 h)
    (subst (λ (q : Op). T ((ltb (number_of q) 2) || (eqb (field w 0 5) (primary_in rows (number_of q))))) e (found has_primary rows (field w 0 5) (extended_in w) tt tt)))
  where
    passed : (b c : Bool) → b ≡ false → T (b || c) → T c
    passed true c e t = absurd (omega (arith, ap (λ (d : Bool). pick {A = ℕ} d 1 0) e))
    passed false c e t = t

-- so the word of an operation under 19 or 31 has an extended opcode, and its ten bits pass each test that the rows of the operation pass
pub extended_told : (n p : ℕ) (test : ℕ → Bool) → T (each_row (of_op n (λ (q x : ℕ). (eqb q p) && (test x))) rows) → T (not (eqb 0 n)) → has_extended p ≡ true
    → (w : ℕ) → number_of (decoded w).op ≡ n → (field w 0 5 ≡ p) × (T (test (field w 21 30)))
extended_told n p test t z he w e =
    let b : T ((eqb (field w 0 5) p) && (test (extended_in w))) = told n (λ (q x : ℕ). (eqb q p) && (test x)) t z w e in
    let ep : field w 0 5 ≡ p = eqb→eq (field w 0 5) p (T-left (eqb (field w 0 5) p) (test (extended_in w)) b) in
    (ep, subst (λ (x : ℕ). T (test x)) (extended_under w p ep he) (T-right (eqb (field w 0 5) p) (test (extended_in w)) b))
  where
    T-left : (a b : Bool) → T (a && b) → T a
    T-left true b t = tt
    T-left false b t = t

    T-right : (a b : Bool) → T (a && b) → T b
    T-right true b t = t
    T-right false b t = absurd t
