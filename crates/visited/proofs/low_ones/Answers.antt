-- `visited::low_ones` meets its contract.
use mathlib.Core.Path.{◌≡◌, sym, ap, ◌∙◌}
use Prim.Native.Nat.{ℕ, ◌%◌, min}
use native.Mathlib.Nat.{mod-eq_of_lt}
use native.Mathlib.Omega.{arith}
use lib.Count.{ones}
use Rattle.visited.specs.Bits.{low_ones}
use Rattle.visited.proofs.Counting.{low_ones_counted}
use Rattle.visited.proofs.BitLaws.{one_shl}
use Rattle.visited.proofs.low_ones.Goals as goal

pub returns-then-k-lt32 : goal.returns-then-k-lt32
returns-then-k-lt32 c =
    let a = c.args in
    let e : min a.k 32 ≡ a.k = omega arith in
    ap (λ (n : ℕ). ones (a.x % n)) (one_shl a.k c.if-k-lt32.true) ∙ sym (low_ones_counted a.x a.k) ∙ ap (low_ones a.x) (sym e)

pub returns-else-k-lt32 : goal.returns-else-k-lt32
returns-else-k-lt32 c =
    let a = c.args in
    let e : min a.k 32 ≡ 32 = omega arith in
    ap ones (sym (mod-eq_of_lt c.ranges.x.fits)) ∙ sym (low_ones_counted a.x 32) ∙ ap (low_ones a.x) (sym e)
