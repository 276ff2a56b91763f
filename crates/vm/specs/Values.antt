-- A value by cases: one eliminator for each question that a rule asks of it.
-- Assumes nothing.
use Rattle.std.specs.Prelude.{ℕ}
use Rattle.places.specs.declared.RelocationTarget.{RelocationTarget}
use Rattle.vm.specs.declared.GprValue.{GprValue}
use Rattle.vm.specs.declared.GprValue.TheVariants.{Unknown, Constant, Address, ComparisonResult, Range, LoadIndexed}

-- a Constant, or anything else
abbrev pub on_const : {A : Type 0} → GprValue → (ℕ → A) → A → A
on_const Unknown f z = z
on_const (Constant a) f z = f a
on_const (Address t) f z = z
on_const (ComparisonResult k) f z = z
on_const (Range lo hi st) f z = z
on_const (LoadIndexed t m) f z = z

-- a Constant, an Address, or anything else
abbrev pub on_place : {A : Type 0} → GprValue → (ℕ → A) → (RelocationTarget → A) → A → A
on_place Unknown f g z = z
on_place (Constant a) f g z = f a
on_place (Address t) f g z = g t
on_place (ComparisonResult k) f g z = z
on_place (Range lo hi st) f g z = z
on_place (LoadIndexed t m) f g z = z

-- a Range (min, max, step), or anything else
abbrev pub on_range : {A : Type 0} → GprValue → (ℕ → ℕ → ℕ → A) → A → A
on_range Unknown f z = z
on_range (Constant a) f z = z
on_range (Address t) f z = z
on_range (ComparisonResult k) f z = z
on_range (Range lo hi st) f z = f lo hi st
on_range (LoadIndexed t m) f z = z

-- a mark of a CR field, or anything else
abbrev pub on_mark : {A : Type 0} → GprValue → (ℕ → A) → A → A
on_mark Unknown f z = z
on_mark (Constant a) f z = z
on_mark (Address t) f z = z
on_mark (ComparisonResult k) f z = f k
on_mark (Range lo hi st) f z = z
on_mark (LoadIndexed t m) f z = z
