-- Bytes that stand at a place, in two parts and as a whole.
-- Assumes nothing.
use mathlib.Core.Path.{◌≡◌, sym, ap, ◌∙◌, subst}
use mathlib.Core.List.{List, [], ◌∷◌, ◌++◌, append_assoc}
use Prim.Native.Nat.{ℕ, zero, suc, ◌+◌, ◌≤◌, ◌<◌}
use native.Mathlib.Omega.{arith}
use native.Mathlib.Numerals.{add-one}
use lib.ListN.{length, get_or, length-append}
use lib.Seq.{ext_get_or, get_or-append_seam}
use Rattle.varint.proofs.Stands.{Stands}

pub stands_inside : (s : List ℕ) (at : ℕ) (xs : List ℕ) → Stands s at xs → at + length xs ≤ length s
stands_inside s at [] h = omega arith
stands_inside s at (x ∷ xs) h = omega (arith, stands_inside s (suc at) xs h.1.1)

pub stands_split : (s : List ℕ) (at : ℕ) (xs ys : List ℕ) → Stands s at (xs ++ ys) → Stands s at xs × Stands s (at + length xs) ys
stands_split s at [] ys h =
    let e : at + 0 ≡ at = omega arith in
    (omega (arith, stands_inside s at ys h), rw e h)
stands_split s at (x ∷ xs) ys h =
    let e : at + suc (length xs) ≡ suc at + length xs = omega arith in
    let r : Stands s (suc at) xs × Stands s (suc at + length xs) ys = stands_split s (suc at) xs ys h.1.1 in
    ((h.0, (h.1.0, r.0)), rw e r.1)

pub stands_join : (s : List ℕ) (at : ℕ) (xs ys : List ℕ) → Stands s at xs → Stands s (at + length xs) ys → Stands s at (xs ++ ys)
stands_join s at [] ys h k = let e : at + 0 ≡ at = omega arith in rw e at k
stands_join s at (x ∷ xs) ys h k =
    let e : at + suc (length xs) ≡ suc at + length xs = omega arith in
    (h.0, (h.1.0, stands_join s (suc at) xs ys h.1.1 (rw e at k)))

byte_stands : (s : List ℕ) (at : ℕ) (xs : List ℕ) (i : ℕ) → Stands s at xs → i < length xs → get_or s (at + i) 0 ≡ get_or xs i 0
byte_stands s at [] i h l = absurd (omega arith)
byte_stands s at (x ∷ xs) zero h l = let e : at + 0 ≡ at = omega arith in rw e h.1.0
byte_stands s at (x ∷ xs) (suc i) h l =
    let e : at + suc i ≡ suc at + i = omega arith in
    rw e (byte_stands s (suc at) xs i h.1.1 (omega arith))

-- what stands from the start to the end is the whole
pub stands_whole : (s xs : List ℕ) → Stands s 0 xs → length xs ≡ length s → s ≡ xs
stands_whole s xs h e =
    ext_get_or 0 s xs (sym e) (λ i l. let z : 0 + i ≡ i = omega arith in ap (λ (k : ℕ). get_or s k 0) (sym z) ∙ byte_stands s 0 xs i h (omega arith))

-- and the whole stands there
stands_last : (ys xs : List ℕ) → Stands (ys ++ xs) (length ys) xs
stands_last ys [] = rw (length-append ys []) (omega arith)
stands_last ys (x ∷ xs) =
    let long : length ys < length (ys ++ (x ∷ xs)) = rw (length-append ys (x ∷ xs)) (omega arith) in
    let e : (ys ++ (x ∷ [])) ++ xs ≡ ys ++ (x ∷ xs) = append_assoc ys (x ∷ []) xs in
    let n : length (ys ++ (x ∷ [])) ≡ suc (length ys) = length-append ys (x ∷ []) ∙ add-one (length ys) in
    let rest : Stands (ys ++ (x ∷ xs)) (suc (length ys)) xs =
    subst (λ (l : List ℕ). Stands l (suc (length ys)) xs) e (subst (λ (k : ℕ). Stands ((ys ++ (x ∷ [])) ++ xs) k xs) n (stands_last (ys ++ (x ∷ [])) xs)) in
    (long, (get_or-append_seam ys x xs 0, rest))

pub stands_self : (xs : List ℕ) → Stands xs 0 xs
stands_self xs = stands_last [] xs
