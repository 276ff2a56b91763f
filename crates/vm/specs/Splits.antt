-- The split rule: what the false and the true side of a branch know of the compared register.
-- Assumes nothing. Both sides of a compare count as unsigned, as in vm.rs.
use Rattle.std.specs.Prelude.{ℕ, min, max, eqb}
use Rattle.words.specs.Choice.{pick}
use Rattle.words.specs.Sums.{sum, difference}
use Rattle.vm.specs.declared.GprValue.{GprValue}
use Rattle.vm.specs.declared.GprValue.TheVariants.{Unknown, Constant, Range}
use Rattle.vm.specs.declared.Cr.{Cr}
use Rattle.vm.specs.declared.Split.{Split}
use Rattle.vm.specs.Values.{on_const, on_range}

-- a value that is at most n
abbrev pub at_most_of : GprValue → ℕ → GprValue
at_most_of v n = on_range v (λ lo hi st. Range (min lo n) (min hi n) st) (Range 0 n 1)

-- a value that is at least n
abbrev pub at_least_of : GprValue → ℕ → GprValue
at_least_of v n = on_range v (λ lo hi st. Range (max lo n) (max hi n) st) (Range n 4294967295 1)

abbrev pub both_of : GprValue → Split
both_of v = record { fails = v; holds = v }

-- lt: left >= right, left < right
abbrev pub lt_of : GprValue → GprValue → Split
lt_of left right =
    on_const right
    (λ v. on_range left
    (λ lo hi st. record { fails = Range (max lo v) (max hi v) st; holds = Range (min lo (difference v 1)) (min hi (difference v 1)) st })
    (record { fails = Range v 4294967295 1; holds = Range 0 (difference v 1) 1 }))
    (both_of left)

-- gt: left <= right, left > right
abbrev pub gt_of : GprValue → GprValue → Split
gt_of left right =
    on_const right
    (λ v. on_range left
    (λ lo hi st. record { fails = Range (min lo v) (min hi v) st; holds = Range (max lo (sum v 1)) (max hi (sum v 1)) st })
    (record { fails = Range 0 v 1; holds = Range (sum v 1) 4294967295 1 }))
    (both_of left)

-- eq: left != right, left == right
abbrev pub eq_of : GprValue → GprValue → Split
eq_of left right =
    on_const right
    (λ v. record { fails = on_const left (λ u. pick (eqb u v) Unknown left) left; holds = Constant v })
    (both_of left)

-- split_values_by_crb: lt, gt, eq, so
unfoldable pub split_of : ℕ → Cr → Split
split_of crb c =
    pick (eqb crb 0) (lt_of c.left c.right)
    (pick (eqb crb 1) (gt_of c.left c.right)
    (pick (eqb crb 2) (eq_of c.left c.right) (both_of c.left)))
