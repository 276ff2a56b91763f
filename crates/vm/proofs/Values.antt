-- What the arm `_` of a match on a value learns: an eliminator takes its last way.
-- Assumes nothing.
use mathlib.Core.Path.{◌≡◌, refl, ap, sym, ◌∙◌}
use mathlib.Core.Bool.{Bool, false}
use Prim.Native.Nat.{ℕ}
use lib.Dec.{eqb}
use Rattle.words.specs.Choice.{pick}
use Rattle.vm.specs.declared.GprValue.{GprValue}
use Rattle.vm.specs.declared.GprValue.TheVariants.{Unknown, Constant, Address, ComparisonResult, Range, LoadIndexed}
use Rattle.vm.specs.declared.Gpr.{Gpr}
use Rattle.vm.specs.Registers.{marked}
use Rattle.vm.specs.States.{result_of}
use Rattle.vm.specs.Values.{on_const, on_range, on_mark}

-- neither a Constant nor a Range: the last way of the rotate rule
pub neither :
    {A : Type 0} (v : GprValue) (f : ℕ → A) (h : ℕ → ℕ → ℕ → A) (z : A)
    → ((a : ℕ) → v ≡ Constant a → ⊥) → ((a b c : ℕ) → v ≡ Range a b c → ⊥)
    → on_const v f (on_range v h z) ≡ z
neither Unknown f h z nc nr = refl
neither (Constant a) f h z nc nr = absurd (nc a refl)
neither (Address t) f h z nc nr = refl
neither (ComparisonResult k) f h z nc nr = refl
neither (Range a b c) f h z nc nr = absurd (nr a b c refl)
neither (LoadIndexed t m) f h z nc nr = refl

-- what a mark of field k decides, by the test whether there is one
pub by_mark : {A : Type 0} (v : GprValue) (k : ℕ) (a z : A) → on_mark v (λ j. pick (eqb j k) a z) z ≡ pick (on_mark v (λ j. eqb j k) false) a z
by_mark Unknown k a z = refl
by_mark (Constant n) k a z = refl
by_mark (Address t) k a z = refl
by_mark (ComparisonResult j) k a z = refl
by_mark (Range lo hi st) k a z = refl
by_mark (LoadIndexed t m) k a z = refl

-- so a register that is marked gets the value, and any other stays
pub result_by : (v : GprValue) (k : ℕ) (g : Gpr) (b : Bool) → b ≡ on_mark g.value (λ j. eqb j k) false → pick b (marked g v) g ≡ result_of v k g
result_by v k g b e = ap (λ (t : Bool). pick t (marked g v) g) e ∙ sym (by_mark g.value k (marked g v) g)
