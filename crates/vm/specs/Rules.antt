-- The rules on values, in the order of vm.rs, each under its assembly form.
-- Assumes nothing. Numbers are words: sums are modulo 2^32.
use Rattle.std.specs.Prelude.{ℕ, ◌+◌, ◌*◌, ◌%◌, ◌^◌, Bool, ◌&&◌, eqb, ltb, Option, Some, None}
use Rattle.std.specs.Int.Bits.{bit_or, bit_and}
use Rattle.words.specs.Choice.{pick}
use Rattle.words.specs.Sums.{sum, complement_of}
use Rattle.words.specs.Bits.{rotated}
use Rattle.places.specs.Places.{moved}
use Rattle.places.specs.declared.SectionAddress.{SectionAddress}
use Rattle.places.specs.declared.RelocationTarget.{RelocationTarget}
use Rattle.places.specs.declared.RelocationTarget.TheVariants as target
use Rattle.vm.specs.declared.GprValue.{GprValue}
use Rattle.vm.specs.declared.GprValue.TheVariants.{Unknown, Constant, Address, Range, LoadIndexed}
use Rattle.vm.specs.declared.Gpr.{Gpr}
use Rattle.vm.specs.declared.BranchTarget.{BranchTarget}
use Rattle.vm.specs.declared.BranchTarget.TheVariants as branch
use Rattle.vm.specs.Values.{on_const, on_place, on_range}
use Rattle.vm.specs.Registers.{direct, low}

-- a target n bytes on
abbrev pub offset_of : RelocationTarget → ℕ → GprValue
offset_of (target.Address p) n = Address (target.Address (moved p n))
offset_of target.External n = Unknown

-- add rD, rA, rB
abbrev pub add_of : GprValue → GprValue → GprValue
add_of left right =
    on_place left
    (λ a. on_place right (λ b. Constant (sum a b)) (λ t. offset_of t a) Unknown)
    (λ t. on_const right (λ b. offset_of t b) Unknown)
    Unknown

-- addis rD, rA, SIMM
abbrev pub addis_of : GprValue → ℕ → GprValue
addis_of left simm = on_const left (λ a. Constant (sum a (simm * 2 ^ 16 % 2 ^ 32))) Unknown

-- addi rD, rA, SIMM
-- addic rD, rA, SIMM
-- addic. rD, rA, SIMM
abbrev pub addi_of : GprValue → ℕ → GprValue
addi_of left simm = on_place left (λ a. Constant (sum a simm)) (λ t. offset_of t simm) Unknown

-- subf rD, rA, rB
-- subfc rD, rA, rB
abbrev pub subf_of : GprValue → GprValue → GprValue
subf_of left right = on_const left (λ a. on_const right (λ b. Constant (sum (sum (complement_of a) b) 1)) Unknown) Unknown

-- subfic rD, rA, SIMM
abbrev pub subfic_of : GprValue → ℕ → GprValue
subfic_of left simm = on_const left (λ a. Constant (sum (sum (complement_of a) simm) 1)) Unknown

-- ori rA, rS, UIMM
abbrev pub ori_of : GprValue → ℕ → GprValue
ori_of left uimm = on_const left (λ a. Constant (bit_or a uimm)) Unknown

-- or rA, rS, rB
abbrev pub or_of : GprValue → GprValue → GprValue
or_of left right = on_const left (λ a. on_const right (λ b. Constant (bit_or a b)) Unknown) Unknown

-- the rotate rule: rlwinm rA, rS, SH, MB, ME
unfoldable pub rotate_of : GprValue → ℕ → ℕ → GprValue
rotate_of value shift mask =
    on_const value (λ a. Constant (bit_and (rotated a shift) mask))
    (on_range value
    (λ lo hi st. Range (bit_and (rotated lo shift) mask) (bit_and (rotated hi shift) mask) (rotated st shift))
    (Range 0 mask (rotated 1 shift)))

-- rlwnm rA, rS, rB, MB, ME
abbrev pub rlwnm_of : GprValue → GprValue → ℕ → GprValue
rlwnm_of value amount mask = on_const amount (λ shift. rotate_of value shift mask) Unknown

-- b, bc, bcctr: the place reached, if it is one
abbrev pub reached_of : Option RelocationTarget → BranchTarget
reached_of (Some t) = branch.Address t
reached_of None = branch.Unknown

-- 0 is no size
abbrev pub non_zero : ℕ → Option ℕ
non_zero n = pick (eqb n 0) None (Some n)

-- a Range's max, if it is below 2^32 - 5 and a multiple of 4
abbrev pub max_offset_of : GprValue → Option ℕ
max_offset_of index = on_range index (λ lo hi st. pick ((ltb hi 4294967291) && (eqb (hi % 4) 0)) (non_zero hi) None) None

-- lwzx rD, rA, rB: by the place in rA and the index in rB
abbrev pub lwzx_of : Option RelocationTarget → GprValue → GprValue
lwzx_of (Some t) index = LoadIndexed t (max_offset_of index)
lwzx_of None index = Unknown

-- bctr: 4 more than the largest offset, if that is below 2^32
abbrev pub size_of : Option ℕ → Option ℕ
size_of (Some n) = pick (ltb n 4294967292) (Some (n + 4)) None
size_of None = None

-- the place that a value is: an Address itself, a Constant by what finds its section
abbrev pub address_of : (ℕ → Option RelocationTarget) → GprValue → Option RelocationTarget
address_of find v = on_place v find Some None

-- what a displacement load or store reaches: an Address base itself, a Constant base plus the displacement
abbrev pub seen_of : (ℕ → Option RelocationTarget) → GprValue → ℕ → Option RelocationTarget
seen_of find base simm = address_of (λ a. find (sum a simm)) base

-- the base register after an update form: a Constant base that reached nothing stays
abbrev pub updated_of : Gpr → Option RelocationTarget → SectionAddress → Gpr
updated_of g (Some t) p = low (Address t) p g
updated_of g None p = on_const g.value (λ a. g) (direct Unknown)

-- the base register after any displacement load or store
abbrev pub base_of : Gpr → Bool → Option RelocationTarget → SectionAddress → Gpr
base_of g update seen p = pick update (updated_of g seen p) g
