-- Words written over a list word by word, and over words that were written there before.
-- Assumes nothing.
use mathlib.Core.List.{List, [], ◌∷◌, ◌++◌}
use mathlib.Core.Path.{◌≡◌, refl, sym, ap, ◌∙◌}
use Prim.Native.Nat.{ℕ, ◌+◌, ◌≤◌, ◌<◌}
use native.Mathlib.Numerals.{add-one}
use native.Mathlib.Omega.{arith}
use lib.ListN.{length, get_or, set, take, drop, length-drop}
use lib.Seq.{take-suc, get_or-drop, length-take-le}
use Rattle.cells.proofs.CellLaws.{put_left, put_right}
use Rattle.slot.proofs.PutLaws.{put_put, put_length, put_whole, stored}
use Rattle.slot.specs.Put.{put}

-- a store behind what was written
pub put_one : (ws : List ℕ) (at to : ℕ) (a : List ℕ) (x : ℕ) → to ≡ at + length a → to < length ws → set (put ws at a) to x ≡ put ws at (a ++ (x ∷ []))
put_one ws at to a x e h =
    let l : length (put ws at a) ≡ length ws = put_length ws at a (omega arith) in
    stored (x ∷ []) (put ws at a) to (omega arith) ∙ put_put ws at to a (x ∷ []) e (omega arith)

-- one word more of a copy
pub put_copied : (ws : List ℕ) (at : ℕ) (from : List ℕ) (first i : ℕ) → first + i < length from → at + i < length ws
    → set (put ws at (take i (drop first from))) (at + i) (get_or from (first + i) 0) ≡ put ws at (take (i + 1) (drop first from))
put_copied ws at from first i h k =
    let l : List ℕ = drop first from in
    let m : i < length l = omega (arith, length-drop first from) in
    let t : length (take i l) ≡ i = length-take-le i l (omega arith) in
    put_one ws at (at + i) (take i l) (get_or from (first + i) 0) (omega arith) k
    ∙ ap (λ (x : ℕ). put ws at (take i l ++ (x ∷ []))) (sym (get_or-drop first from i 0))
    ∙ ap (put ws at) (sym (take-suc l i 0 m))
    ∙ ap (λ (j : ℕ). put ws at (take j l)) (sym (add-one i))

-- what is written inside of what was written
pub put_inner : (ws : List ℕ) (at : ℕ) (l : List ℕ) (k : ℕ) (m : List ℕ) → k + length m ≤ length l → at + length l ≤ length ws → put (put ws at l) (at + k) m ≡ put ws at (put l k m)
put_inner ws at l k m h g =
    let t : length (take at ws) ≡ at = length-take-le at ws (omega arith) in
    let e : at + k ≡ length (take at ws) + k = omega arith in
    let n : at + length l ≡ at + length (put l k m) = omega (arith, put_length l k m h) in
    ap (λ (j : ℕ). put (put ws at l) j m) e
    ∙ put_right (take at ws) (l ++ drop (at + length l) ws) k m
    ∙ ap (λ (b : List ℕ). take at ws ++ b) (put_left l (drop (at + length l) ws) k m h)
    ∙ ap (λ (j : ℕ). take at ws ++ (put l k m ++ drop j ws)) n

-- what is written over the whole of what was written
pub put_over : (ws : List ℕ) (at : ℕ) (l m : List ℕ) → length l ≡ length m → at + length l ≤ length ws → put (put ws at l) at m ≡ put ws at m
put_over ws at l m e h =
    let z : at ≡ at + 0 = omega arith in
    ap (λ (j : ℕ). put (put ws at l) j m) z ∙ put_inner ws at l 0 m (omega arith) h ∙ ap (put ws at) (put_whole l m e)

-- what stands there may be written again
pub put_again : (ws us : List ℕ) (at : ℕ) (l : List ℕ) → at + length l ≤ length ws → us ≡ put ws at l → us ≡ put us at l
put_again ws us at l h e = e ∙ sym (put_over ws at l l refl h) ∙ ap (λ (m : List ℕ). put m at l) (sym e)
