-- When a rule's value is a Constant, and of what: by cases on the values it is made from.
-- Assumes nothing.
use mathlib.Core.Path.{◌≡◌, refl}
use Prim.Native.Nat.{ℕ}
use native.Mathlib.Omega.{arith}
use Rattle.places.specs.declared.RelocationTarget.{RelocationTarget}
use Rattle.places.specs.declared.RelocationTarget.TheVariants as target
use Rattle.vm.specs.declared.GprValue.{GprValue}
use Rattle.vm.specs.declared.GprValue.TheVariants.{Unknown, Constant, Address, ComparisonResult, Range, LoadIndexed}
use Rattle.vm.specs.Values.{on_const, on_place, on_range}
use Rattle.vm.specs.Rules.{offset_of}

pub unknown_is_not : (x : ℕ) → Unknown ≡ Constant x → ⊥
unknown_is_not x e = let z : ◌≡◌ {A = ℕ} 0 1 = cc in omega arith

address_is_not : (t : RelocationTarget) (x : ℕ) → Address t ≡ Constant x → ⊥
address_is_not t x e = let z : ◌≡◌ {A = ℕ} 0 1 = cc in omega arith

pub range_is_not : (a b c x : ℕ) → Range a b c ≡ Constant x → ⊥
range_is_not a b c x e = let z : ◌≡◌ {A = ℕ} 0 1 = cc in omega arith

pub same_constant : (a b : ℕ) → Constant a ≡ Constant b → a ≡ b
same_constant a b e = cc

pub offset_is_not : (t : RelocationTarget) (n x : ℕ) → offset_of t n ≡ Constant x → ⊥
offset_is_not (target.Address p) n x e = address_is_not _ x e
offset_is_not target.External n x e = unknown_is_not x e

-- made of a Constant alone
pub of_constant : (v : GprValue) (f : ℕ → GprValue) (x : ℕ) → on_const v f Unknown ≡ Constant x → (a : ℕ) × (v ≡ Constant a) × (f a ≡ Constant x)
of_constant Unknown f x e = absurd (unknown_is_not x e)
of_constant (Constant a) f x e = (a, refl, e)
of_constant (Address t) f x e = absurd (unknown_is_not x e)
of_constant (ComparisonResult k) f x e = absurd (unknown_is_not x e)
of_constant (Range a b c) f x e = absurd (unknown_is_not x e)
of_constant (LoadIndexed t m) f x e = absurd (unknown_is_not x e)

-- made of a Constant or an Address, of which an Address gives no Constant
pub of_place : (v : GprValue) (f : ℕ → GprValue) (g : RelocationTarget → GprValue) (x : ℕ) → ((t : RelocationTarget) → g t ≡ Constant x → ⊥)
    → on_place v f g Unknown ≡ Constant x → (a : ℕ) × (v ≡ Constant a) × (f a ≡ Constant x)
of_place Unknown f g x n e = absurd (unknown_is_not x e)
of_place (Constant a) f g x n e = (a, refl, e)
of_place (Address t) f g x n e = absurd (n t e)
of_place (ComparisonResult k) f g x n e = absurd (unknown_is_not x e)
of_place (Range a b c) f g x n e = absurd (unknown_is_not x e)
of_place (LoadIndexed t m) f g x n e = absurd (unknown_is_not x e)

-- the rotate rule: a Constant of a Constant, else a Range
pub of_rotated : (v : GprValue) (f : ℕ → ℕ) (g : ℕ → ℕ → ℕ → GprValue) (z : GprValue) (x : ℕ)
    → ((a b c : ℕ) → g a b c ≡ Constant x → ⊥) → (z ≡ Constant x → ⊥)
    → on_const v (λ (a : ℕ). Constant (f a)) (on_range v g z) ≡ Constant x → (a : ℕ) × (v ≡ Constant a) × (f a ≡ x)
of_rotated Unknown f g z x hg hz e = absurd (hz e)
of_rotated (Constant a) f g z x hg hz e = (a, refl, same_constant (f a) x e)
of_rotated (Address t) f g z x hg hz e = absurd (hz e)
of_rotated (ComparisonResult k) f g z x hg hz e = absurd (hz e)
of_rotated (Range a b c) f g z x hg hz e = absurd (hg a b c e)
of_rotated (LoadIndexed t m) f g z x hg hz e = absurd (hz e)
