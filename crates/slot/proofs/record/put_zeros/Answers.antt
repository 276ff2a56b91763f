-- Two puts of four words, one behind the other.
use mathlib.Core.List.{List, [], ◌∷◌}
use Prim.Native.Nat.{ℕ, ◌+◌}
use native.Mathlib.Omega.{arith}
use Rattle.slot.proofs.PutLaws.{put_put}
use Rattle.slot.proofs.record.put_zeros.Goals as goal

pub returns : goal.returns
returns c =
    let a = c.args in
    let four : List ℕ = 0 ∷ 0 ∷ 0 ∷ 0 ∷ [] in
    rw (c.store4-2.ensures, c.store4.ensures) (put_put a.words.now a.at (a.at + 4) four four (omega arith) (omega arith))
