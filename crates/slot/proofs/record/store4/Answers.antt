-- Four stores one after the other are four words put.
use mathlib.Core.List.{[], ◌∷◌}
use mathlib.Core.Path.{◌≡◌}
use Prim.Native.Nat.{suc, ◌+◌}
use native.Mathlib.Omega.{arith}
use Rattle.slot.proofs.PutLaws.{stored}
use Rattle.slot.proofs.record.store4.Goals as goal

pub returns : goal.returns
returns c =
    let a = c.args in
    let one : a.at + 1 ≡ suc a.at = omega arith in
    let two : a.at + 2 ≡ suc (suc a.at) = omega arith in
    let three : a.at + 3 ≡ suc (suc (suc a.at)) = omega arith in
    rw (one, two, three) (stored (a.w ∷ a.x ∷ a.y ∷ a.z ∷ []) a.words.now a.at (omega arith))
