-- Sign extension keeps the number that the bits stand for, and a sum with a word is a sum with the signed number that
-- it stands for. Once over the width; the ends of the widths in use by computation. Assumes nothing.
use Rattle.std.proofs.Common.{◌≡◌, ℕ, suc, ◌+◌, ◌-◌, ◌*◌, ◌^◌, ◌<◌, ◌≤◌, Bool, true, false, ltb, pos, negsuc, refl, ap, ◌∙◌, pow-suc, arith, pow_mono, ltb-false, ltb-true, le-ltb, lt-ltb}
use Rattle.words.specs.Choice.{pick}
use Rattle.words.specs.Word.{extended}
use Rattle.words.specs.Sums.{sum}
use Rattle.words.specs.Signed.{signed_of, offset_by}

-- below the half nothing changes; from it on 2^32 - q is added, which the wider width takes off again
keeps : (p q v : ℕ) → q ≡ p * 2 → p ≤ 2 ^ 31 → v < q → (t : Bool) → ltb v p ≡ t
    → signed_of 32 (pick t v (v + (2 ^ 32 - q))) ≡ pick t (pos v) (negsuc (q - suc v))
keeps p q v e h l true t =
    let small : v < 2 ^ 31 = omega (arith, ltb-true v p t) in
    rw (lt-ltb v (2 ^ 31) small)
keeps p q v e h l false t =
    let large : 2 ^ 31 ≤ v + (2 ^ 32 - q) = omega (arith, ltb-false v p t) in
    let same : 2 ^ 32 - suc (v + (2 ^ 32 - q)) ≡ q - suc v = omega arith in
    rw (le-ltb (v + (2 ^ 32 - q)) (2 ^ 31) large, same)

doubled : (k : ℕ) → 1 ≤ k → 2 ^ k ≡ 2 ^ (k - 1) * 2
doubled k h = let e : k ≡ suc (k - 1) = omega arith in ap (λ (n : ℕ). 2 ^ n) e ∙ pow-suc 2 (k - 1)

-- EXTS keeps the number
pub extended_keeps : (k v : ℕ) → 1 ≤ k → k ≤ 32 → v < 2 ^ k → signed_of 32 (extended k v) ≡ signed_of k v
extended_keeps k v h l f =
    let low : k - 1 ≤ 31 = omega arith in
    keeps (2 ^ (k - 1)) (2 ^ k) v (doubled k h) (pow_mono {j = 31} low) f (ltb v (2 ^ (k - 1))) refl

by_sign : (a n : ℕ) → n < 2 ^ 32 → (t : Bool) → ltb n (2 ^ 31) ≡ t → sum a n ≡ offset_by a (pick t (pos n) (negsuc (2 ^ 32 - suc n)))
by_sign a n h true t = refl
by_sign a n h false t = let e : 2 ^ 32 - suc (2 ^ 32 - suc n) ≡ n = omega arith in rw e

-- adding a word adds the signed number that it stands for
pub sum_is_signed : (a n : ℕ) → n < 2 ^ 32 → sum a n ≡ offset_by a (signed_of 32 n)
sum_is_signed a n h = by_sign a n h (ltb n (2 ^ 31)) refl

-- both ends of 16, 26 and 32 bits
simm_ends : (extended 16 0x7FFF ≡ 0x7FFF) × (extended 16 0x8000 ≡ 0xFFFF8000)
simm_ends = (refl, refl)

bd_ends : (extended 16 0x7FFC ≡ 0x7FFC) × (extended 16 0x8000 ≡ 0xFFFF8000)
bd_ends = (refl, refl)

li_ends : (extended 26 0x1FFFFFC ≡ 0x1FFFFFC) × (extended 26 0x2000000 ≡ 0xFE000000)
li_ends = (refl, refl)

addend_ends : (signed_of 32 0x7FFFFFFF ≡ pos 2147483647) × (signed_of 32 0x80000000 ≡ negsuc 2147483647)
addend_ends = (refl, refl)
