-- One word more is copied in each turn.
use mathlib.Core.Path.{ap, ◌∙◌}
use mathlib.Core.List.{List}
use Prim.Native.Nat.{ℕ, ◌+◌}
use native.Mathlib.Omega.{arith}
use lib.ListN.{get_or, set, length-set}
use Rattle.clones.proofs.OverLaws.{put_copied}
use Rattle.clones.proofs.copy.Goals as goal

pub loop-i-preserved : goal.loop-i-preserved
loop-i-preserved c =
    let a = c.args in (
      length-set c.loop-i.to (a.at + c.loop-i.i) (get_or a.from.now (a.first + c.loop-i.i) 0) ∙ c.loop-i.invariant.0,
      ap (λ (l : List ℕ). set l (a.at + c.loop-i.i) (get_or a.from.now (a.first + c.loop-i.i) 0)) c.loop-i.invariant.1
          ∙ put_copied a.to.now a.at a.from.now a.first c.loop-i.i (omega arith) (omega arith),
    )
