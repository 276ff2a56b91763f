-- `shown::runs::CodeWords::visited` meets its contract.
use Rattle.std.proofs.Common.{ℕ, suc, List, true, false, ◌≡◌, ◌+◌, sym, ap, ◌∙◌, add-one, arith}
use Rattle.shown.specs.Counted.{visited_in}
use Rattle.shown.proofs.Counting.{one_more}
use Rattle.shown.proofs.runs.CodeWords.visited.Goals as goal
use Rattle.shown.proofs.runs.CodeWords.visited.Goals.{then-contains, else-contains}

pub loop-k-preserved : goal.loop-k-preserved
loop-k-preserved c =
    let l = c.loop-k in
    let ws : List ℕ = c.args.map.now in
    let base : ℕ = c.args.self.base in
    let next : visited_in ws base (l.k + 1) ≡ visited_in ws base (suc l.k) = ap (visited_in ws base) (add-one l.k) in
    elim c.if-contains.branch [
      | then-contains w ↦ (omega (arith, w.n-is, l.invariant.0, next, one_more ws base l.k true (sym c.contains.ensures ∙ w.if-contains.true)), omega (arith, w.n-is, l.invariant.1))
      | else-contains w ↦ (omega (arith, w.n-is, l.invariant.0, next, one_more ws base l.k false (sym c.contains.ensures ∙ w.if-contains.false)), omega (arith, w.n-is, l.invariant.1))
    ]
