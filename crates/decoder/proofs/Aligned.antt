-- A displacement is a multiple of 4, and so is where a branch at an aligned address goes.
-- Assumes nothing.
use mathlib.Core.Path.{◌≡◌}
use mathlib.Core.Bool.{Bool, true, false}
use Prim.Native.Nat.{ℕ, ◌*◌, ◌%◌, ◌^◌}
use native.Mathlib.Omega.{arith}
use lib.Dec.{eqb, ltb}
use Rattle.words.specs.Choice.{pick}
use Rattle.words.specs.Word.{field, flag, li_of, bd_of}
use Rattle.words.specs.Sums.{sum}
use Rattle.decoder.specs.Decode.{displacement_of, branch_dest}

either : (b : Bool) (m n : ℕ) → m % 4 ≡ 0 → n % 4 ≡ 0 → pick b m n % 4 ≡ 0
either true m n hm hn = hm
either false m n hm hn = hn

li_aligned : (w : ℕ) → li_of w % 4 ≡ 0
li_aligned w = either (ltb (field w 6 29 * 4) (2 ^ 25)) _ _ (omega arith) (omega arith)

bd_aligned : (w : ℕ) → bd_of w % 4 ≡ 0
bd_aligned w = either (ltb (field w 16 29 * 4) (2 ^ 15)) _ _ (omega arith) (omega arith)

pub displacement_aligned : (w : ℕ) → displacement_of w % 4 ≡ 0
displacement_aligned w = either (eqb (field w 0 5) 18) (li_of w) (bd_of w) (li_aligned w) (bd_aligned w)

sum_aligned : (a d : ℕ) → a % 4 ≡ 0 → d % 4 ≡ 0 → sum a d % 4 ≡ 0
sum_aligned a d ha hd = omega arith

pub dest_aligned : (w address : ℕ) → address % 4 ≡ 0 → branch_dest w address % 4 ≡ 0
dest_aligned w address h =
    either (flag w 30) (displacement_of w) (sum address (displacement_of w)) (displacement_aligned w) (sum_aligned address (displacement_of w) h (displacement_aligned w))
