-- `decoder::take_lowest` meets its contract. A set that is not empty has a lowest register below 32, which is in it.
use mathlib.Core.Path.{◌≡◌, sym, ap, ◌∙◌, subst}
use Prim.Native.Nat.{ℕ, ◌*◌, ◌%◌, ◌^◌, ◌<◌, ◌≤◌}
use native.Mathlib.Nat.{one-mul, mod-eq_of_lt}
use native.Mathlib.Omega.{arith}
use lib.Pow.{pow-lt}
use lib.Count.{count_trailing_zeros}
use Rattle.decoder.specs.Written.{lowest_of}
use Rattle.decoder.proofs.Lowest.{lowest_lt, lowest_in, at_least}
use Rattle.decoder.proofs.take_lowest.Goals as goal

shifted : (t : ℕ) → t < 32 → 1 * 2 ^ t % 2 ^ 32 ≡ 2 ^ t
shifted t h = ap (λ (x : ℕ). x % 2 ^ 32) (one-mul (2 ^ t)) ∙ mod-eq_of_lt (pow-lt {j = 32} h)

pub returns-then-set-eq0 : goal.returns-then-set-eq0
unfolding count_trailing_zeros
returns-then-set-eq0 c = sym (ap lowest_of c.if-set-eq0.true)

pub overflow_sub-result : goal.overflow_sub-result
overflow_sub-result c =
    let s = c.args.set in
    let p : 0 < s = omega arith in
    let t : ℕ = count_trailing_zeros 32 s in
    subst (λ (x : ℕ). x ≤ s) (sym (shifted t (lowest_lt s p c.ranges.set.fits))) (at_least s t (lowest_in s p c.ranges.set.fits))
