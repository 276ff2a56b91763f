-- Places are strictly and totally ordered by `before`, and a table that ascends from each place to the next ascends throughout.
-- Assumes nothing.
use mathlib.Core.Path.{◌≡◌, refl, sym, ap, ◌∙◌}
use mathlib.Core.Bool.{true, false, ◌&&◌}
use mathlib.Core.Logic.{◌⊎◌, inl, inr}
use Prim.Native.Nat.{ℕ, zero, suc, ◌+◌, ◌-◌, ◌≤◌, ◌<◌}
use native.Mathlib.Nat.{not-suc-le-zero}
use native.Mathlib.Numerals.{add-one}
use native.Mathlib.Decide.{dec_lt}
use native.Mathlib.Omega.{arith}
use lib.Dec.{ltb, eqb}
use borrow.Author.Tests.{lt-ltb, le-ltb, eq-eqb, ltb-true, eqb-true}
use Rattle.search.proofs.EveryLaws.{and_left, and_right, every_at}
use Rattle.places.specs.declared.SectionAddress.{SectionAddress}
use Rattle.places.specs.Places.{before}
use Rattle.image.specs.Rules.{ascending}

-- what `before` says, as facts about numbers
pub record Precedes (a b : SectionAddress) : Type 0 where
  pub sections : a.section ≤ b.section
  pub addresses : a.section ≡ b.section → a.address < b.address

pub before_says : (a b : SectionAddress) → before a b ≡ true → Precedes a b
before_says a b h =
    elim (dec_lt a.section b.section) [
      | yes l ↦ record { sections = omega arith; addresses = λ (e : a.section ≡ b.section). absurd (omega arith) }
      | no l ↦
          let t : eqb a.section b.section && ltb a.address b.address ≡ true =
          rw (le-ltb a.section b.section (omega arith)) at h in
          let e : a.section ≡ b.section = eqb-true _ _ (and_left (eqb a.section b.section) (ltb a.address b.address) t) in
          record {
            sections = omega arith;
            addresses = λ q. ltb-true _ _ (and_right (eqb a.section b.section) (ltb a.address b.address) t);
          }
    ]

pub before_by : (a b : SectionAddress) → Precedes a b → before a b ≡ true
before_by a b p =
    elim (dec_lt a.section b.section) [
      | yes l ↦ rw (lt-ltb a.section b.section l)
      | no l ↦
          let e : a.section ≡ b.section = omega arith in
          rw (le-ltb a.section b.section (omega arith), eq-eqb a.section b.section e, lt-ltb a.address b.address (p.addresses e))
    ]

pub before_irreflexive : (a : SectionAddress) → before a a ≡ false
before_irreflexive a =
    rw (le-ltb a.section a.section (omega arith), eq-eqb a.section a.section refl, le-ltb a.address a.address (omega arith))

pub before_transitive : (a b c : SectionAddress) → before a b ≡ true → before b c ≡ true → before a c ≡ true
before_transitive a b c h k =
    let p = before_says a b h in
    let q = before_says b c k in
    before_by a c
    (record {
      sections = omega arith;
      addresses = λ (e : a.section ≡ c.section). omega (arith, p.addresses (omega arith), q.addresses (omega arith));
    })

same_place : {a b : SectionAddress} → a.section ≡ b.section → a.address ≡ b.address → a ≡ b
same_place {a} {b} e q =
    ap (λ (s : ℕ). record { section = s; address = a.address }) e ∙ ap (λ (x : ℕ). record { section = b.section; address = x }) q

-- of two places one stands before the other, or they are the same
pub before_total : (a b : SectionAddress) → (before a b ≡ true) ⊎ ((a ≡ b) ⊎ (before b a ≡ true))
before_total a b = by_section (dec_lt a.section b.section) (dec_lt b.section a.section)
  where
    one_way : (x y : SectionAddress) → x.section < y.section → before x y ≡ true
    one_way x y l = before_by x y (record { sections = omega arith; addresses = λ (e : x.section ≡ y.section). absurd (omega arith) })

    in_section : (x y : SectionAddress) → x.section ≡ y.section → x.address < y.address → before x y ≡ true
    in_section x y e l = before_by x y (record { sections = omega arith; addresses = λ q. l })

    by_address : a.section ≡ b.section → Dec (a.address < b.address) → Dec (b.address < a.address)
        → (before a b ≡ true) ⊎ ((a ≡ b) ⊎ (before b a ≡ true))
    by_address e (yes l) k = inl (in_section a b e l)
    by_address e (no l) (yes k) = inr (inr (in_section b a (sym e) k))
    by_address e (no l) (no k) = let q : a.address ≡ b.address = omega arith in inr (inl (same_place e q))

    by_section : Dec (a.section < b.section) → Dec (b.section < a.section) → (before a b ≡ true) ⊎ ((a ≡ b) ⊎ (before b a ≡ true))
    by_section (yes l) k = inl (one_way a b l)
    by_section (no l) (yes k) = inr (inr (one_way b a k))
    by_section (no l) (no k) = by_address (omega arith) (dec_lt a.address b.address) (dec_lt b.address a.address)

-- each place stands before the next
next_after : (at : ℕ → SectionAddress) (n j : ℕ) → ascending at n ≡ true → suc j < n → before (at j) (at (suc j)) ≡ true
unfolding ascending
next_after at n j h l = rw (add-one j) at (every_at (λ (k : ℕ). before (at k) (at (k + 1))) (n - 1) j h (omega arith))

after_or_next : (at : ℕ → SectionAddress) (j m : ℕ) → j < suc m → (j < m → before (at j) (at m) ≡ true) → before (at m) (at (suc m)) ≡ true
    → Dec (j < m) → before (at j) (at (suc m)) ≡ true
after_or_next at j m l f s (yes d) = before_transitive (at j) (at m) (at (suc m)) (f d) s
after_or_next at j m l f s (no d) = let e : j ≡ m = omega arith in rw e s

-- and so before every later one
pub ascends : (at : ℕ → SectionAddress) (n j k : ℕ) → ascending at n ≡ true → j < k → k < n → before (at j) (at k) ≡ true
ascends at n j zero h l b = absurd (not-suc-le-zero l)
ascends at n j (suc m) h l b =
    after_or_next at j m l (λ d. ascends at n j m h d (omega arith)) (next_after at n m h b) (dec_lt j m)
