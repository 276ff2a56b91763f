-- The mask of a rotate word: its fields are below 32 already.
-- Assumes nothing.
use mathlib.Core.Path.{◌≡◌, ap₂}
use Prim.Native.Nat.{ℕ, ◌%◌}
use native.Mathlib.Omega.{arith}
use Rattle.words.specs.Word.{field}
use Rattle.words.specs.Bits.{mask_of}

again : (x : ℕ) → x % 32 % 32 ≡ x % 32
again x = omega arith

pub masked : (w : ℕ) → mask_of (field w 21 25 % 32) (field w 26 30 % 32) ≡ mask_of (field w 21 25) (field w 26 30)
masked w = ap₂ mask_of (again _) (again _)
