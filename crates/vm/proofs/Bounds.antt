-- The two sides of lt and of gt are a bound below and a bound above.
-- Assumes nothing.
use Rattle.std.proofs.Common.{◌≡◌, ℕ, refl}
use Rattle.words.specs.Sums.{sum, difference}
use Rattle.vm.specs.declared.GprValue.{GprValue}
use Rattle.vm.specs.declared.GprValue.TheVariants.{Unknown, Constant, Address, ComparisonResult, Range, LoadIndexed}
use Rattle.vm.specs.declared.Split.{Split}
use Rattle.vm.specs.Splits.{at_most_of, at_least_of, lt_of, gt_of}

abbrev pub sides : GprValue → GprValue → Split
sides f h = record { fails = f; holds = h }

pub lt_sides : (l : GprValue) (v : ℕ) → lt_of l (Constant v) ≡ sides (at_least_of l v) (at_most_of l (difference v 1))
lt_sides Unknown v = refl
lt_sides (Constant a) v = refl
lt_sides (Address t) v = refl
lt_sides (ComparisonResult k) v = refl
lt_sides (Range lo hi st) v = refl
lt_sides (LoadIndexed t m) v = refl

pub gt_sides : (l : GprValue) (v : ℕ) → gt_of l (Constant v) ≡ sides (at_most_of l v) (at_least_of l (sum v 1))
gt_sides Unknown v = refl
gt_sides (Constant a) v = refl
gt_sides (Address t) v = refl
gt_sides (ComparisonResult k) v = refl
gt_sides (Range lo hi st) v = refl
gt_sides (LoadIndexed t m) v = refl
