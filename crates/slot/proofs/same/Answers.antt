-- A part of the words is the list exactly where each word of it is.
use mathlib.Core.List.{List}
use mathlib.Core.Path.{◌≡◌, refl, sym, ap, ◌∙◌}
use Prim.Native.Nat.{ℕ, ◌+◌, ◌≤◌, ◌<◌}
use native.Mathlib.Omega.{arith}
use lib.Dec.{eqb}
use lib.ListN.{length, get_or, take, drop, length-drop}
use lib.Seq.{get_or-take, get_or-drop, length-take-le, ext_get_or}
use Rattle.std.proofs.lemmas.Bool.Decides.{Decides-eqb}
use Rattle.std.proofs.lemmas.Slice.Eq.{slice_eq-Decides}
use Rattle.std.specs.Bool.{Decides}
use Rattle.std.specs.Cmp.{both_ways}
use Rattle.std.specs.Cmp.Lexicographic.{pointwise}
use Rattle.slot.specs.Put.{matches}
use Rattle.slot.proofs.PutLaws.{Holds, matches_holds, holds_matches}
use Rattle.slot.proofs.same.Goals as goal

same_words : (ws l : List ℕ) (at n : ℕ) → n ≡ length l → at + length l ≤ length ws → pointwise eqb (take n (drop at ws)) l ≡ matches ws at l
unfolding Holds
same_words ws l at n e h =
    let part : List ℕ = take n (drop at ws) in
    let decides : Decides (pointwise eqb part l) (part ≡ l) = slice_eq-Decides Decides-eqb part l (pointwise eqb part l) refl in
    let read = λ (i : ℕ) (k : i < length l). get_or-take n (drop at ws) i 0 (omega arith) ∙ get_or-drop at ws i 0 in
    let long : length part ≡ length l = length-take-le n (drop at ws) (omega (arith, length-drop at ws)) ∙ e in
    both_ways (pointwise eqb part l) (matches ws at l)
    (λ t. holds_matches ws at l (λ i k. sym (read i k) ∙ ap (λ (m : List ℕ). get_or m i 0) (decides.0 t)))
    (λ t. decides.1 (ext_get_or 0 part l long (λ i k. read i (omega arith) ∙ matches_holds ws at l t i (omega arith))))

pub returns : goal.returns
returns c = c.eq.ensures ∙ same_words c.args.words.now c.args.l.now c.args.at _ (omega arith) c.requires
