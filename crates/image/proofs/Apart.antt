-- `holds` and `apart` mean what they say: a section holds the addresses from its own to its end,
-- and two sections are apart exactly where no address is in both. Assumes nothing.
use mathlib.Core.Path.{◌≡◌}
use mathlib.Core.Bool.{true}
use Prim.Native.Nat.{ℕ, ◌+◌, ◌≤◌, ◌<◌, min, max}
use native.Mathlib.Decide.{dec_lt}
use native.Mathlib.Omega.{arith}
use lib.Dec.{leb, ltb}
use borrow.Author.Tests.{leb-true, ltb-true, le-leb, lt-ltb}
use Rattle.search.proofs.EveryLaws.{and_left, and_right}
use Rattle.image.specs.declared.Section.{Section}
use Rattle.image.specs.Rules.{end_of, holds, apart}

pub record Within (s : Section) (a : ℕ) : Type 0 where
  pub from : s.address ≤ a
  pub to : a < s.address + s.size

pub holds_says : (s : Section) (a : ℕ) → holds s a ≡ true → Within s a
holds_says s a e =
    record {
      from = leb-true _ _ (and_left (leb s.address a) (ltb a (end_of s)) e);
      to = ltb-true _ _ (and_right (leb s.address a) (ltb a (end_of s)) e);
    }

pub holds_by : (s : Section) (a : ℕ) → Within s a → holds s a ≡ true
holds_by s a w = rw (le-leb s.address a w.from, lt-ltb a (end_of s) w.to)

-- apart: no address is in both
pub apart_none_shared : (s t : Section) → apart s t ≡ true → (a : ℕ) → holds s a ≡ true → holds t a ≡ true → ⊥
apart_none_shared s t e a h k =
    let p = holds_says s a h in
    let q = holds_says t a k in
    let l : min (s.address + s.size) (t.address + t.size) ≤ max s.address t.address = leb-true _ _ e in
    omega arith

-- no address is in both: apart
pub none_shared_apart : (s t : Section) → ((a : ℕ) → holds s a ≡ true → holds t a ≡ true → ⊥) → apart s t ≡ true
none_shared_apart s t f =
    elim (dec_lt (max s.address t.address) (min (s.address + s.size) (t.address + t.size))) [
      | yes l ↦
          let a = max s.address t.address in
          absurd (f a (holds_by s a (record { from = omega arith; to = omega arith })) (holds_by t a (record { from = omega arith; to = omega arith })))
      | no l ↦
          let k : min (s.address + s.size) (t.address + t.size) ≤ max s.address t.address = omega arith in
          le-leb _ _ k
    ]
