-- A number stands among others exactly where one of them is it.
use mathlib.Core.Bool.{Bool, true, false, not, ◌&&◌, ◌||◌}
use mathlib.Core.List.{List}
use mathlib.Core.Path.{◌≡◌, refl, ap, ◌∙◌}
use Prim.Native.Nat.{ℕ, zero, suc, ◌+◌, ◌-◌, ◌≤◌}
use native.Mathlib.Numerals.{add-one}
use native.Mathlib.Omega.{arith}
use lib.Dec.{eqb}
use lib.ListN.{length, get_or, take, drop, length-drop}
use lib.Seq.{get_or-drop}
use Rattle.search.specs.Every.{every}
use Rattle.std.proofs.lemmas.List.Folds.{list_any_more}
use Rattle.std.specs.List.{list_any}
use Rattle.stack.proofs.judge.is_fresh.Goals as goal

none_of : (a b : Bool) → not (a || b) ≡ (not a && not b)
none_of true b = refl
none_of false b = refl

fresh_among : (ws : List ℕ) (x i : ℕ) → 2 + i ≤ length ws → not (list_any (λ y. eqb y x) (take i (drop 2 ws))) ≡ every (λ j. not (eqb (get_or ws (2 + j) 0) x)) i
unfolding every
fresh_among ws x zero h = refl
fresh_among ws x (suc i) h =
    let l : List ℕ = drop 2 ws in
    let f : ℕ → Bool = λ y. eqb y x in
    let one = list_any_more {X = ℕ} f l i 0 (omega (arith, length-drop 2 ws)) in
    let more : list_any f (take (suc i) l) ≡ (list_any f (take i l) || f (get_or l i 0)) = rw (add-one i) at one in
    ap not more ∙ none_of (list_any f (take i l)) (f (get_or l i 0)) ∙ rw (fresh_among ws x i (omega arith), get_or-drop 2 ws i 0)

pub returns : goal.returns
returns c =
    let ws : List ℕ = c.args.words.now in
    let x : ℕ = get_or ws (2 + c.args.i) 0 in
    let long : 2 + c.args.i - 2 ≡ c.args.i = omega arith in
    ap not c.contains.ensures.value
    ∙ ap (λ (n : ℕ). not (list_any (λ y. eqb y x) (take n (drop 2 ws)))) long
    ∙ fresh_among ws x c.args.i (omega arith)
