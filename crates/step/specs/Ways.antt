-- The words that end a straight run: vm.rs's branch arm, rfi and Illegal.
-- Assumes nothing.
use Rattle.std.specs.Prelude.{ℕ, ◌/◌, ◌%◌, Bool, true, false, ◌&&◌, List, eqb, Option}
use Rattle.std.specs.Int.Bits.{bit_and}
use Rattle.words.specs.Choice.{pick}
use Rattle.words.specs.Word.{field, flag}
use Rattle.places.specs.declared.SectionAddress.{SectionAddress}
use Rattle.places.specs.declared.RelocationTarget.TheVariants as target
use Rattle.places.specs.Places.{moved}
use Rattle.decoder.specs.Decode.{branch_dest}
use Rattle.lookups.specs.Relocations.{section_address_for}
use Rattle.vm.specs.declared.GprValue.{GprValue}
use Rattle.vm.specs.declared.GprValue.TheVariants as value
use Rattle.vm.specs.declared.BranchTarget.{BranchTarget}
use Rattle.vm.specs.declared.BranchTarget.TheVariants.{Unknown, Return, Address, JumpTable}
use Rattle.vm.specs.declared.Cr.{Cr}
use Rattle.vm.specs.declared.VM.{VM}
use Rattle.vm.specs.Rules.{reached_of, size_of}
use Rattle.vm.specs.Splits.{split_of}
use Rattle.vm.specs.States.{link_of, return_of, with_result}
use Rattle.step.specs.declared.StepResult.{StepResult}
use Rattle.step.specs.declared.StepResult.TheVariants as result
use Rattle.step.specs.declared.Stepped.{Stepped}
use Rattle.step.specs.declared.Way.{Way}
use Rattle.step.specs.declared.Way.TheVariants as way
use Rattle.step.specs.declared.Leave.{Leave}
use Rattle.step.specs.declared.Leave.TheVariants.{Ended, Illegal, Jump, Call, Fork, Both}
use Rattle.places.specs.declared.RelocationTarget.{RelocationTarget}

abbrev pub bo_of : ℕ → ℕ
bo_of w = field w 6 10

abbrev pub bi_of : ℕ → ℕ
bi_of w = field w 11 15

-- b[c]ctr[l]: a table only without link
abbrev pub ctr_target : (ℕ → Option RelocationTarget) → Bool → GprValue → BranchTarget
ctr_target find lk value.Unknown = Unknown
ctr_target find lk (value.Constant n) = reached_of (find n)
ctr_target find lk (value.Address t) = Address t
ctr_target find lk (value.ComparisonResult k) = Unknown
ctr_target find lk (value.Range lo hi st) = Unknown
ctr_target find lk (value.LoadIndexed t m) = pick lk Unknown (JumpTable t (size_of m))

-- the sum of b and bc
abbrev pub dest_target : List ℕ → SectionAddress → ℕ → BranchTarget
dest_target ws at w = reached_of (section_address_for ws at (branch_dest w at.address))

-- branch conditionally: if false, if true, or by what no compare tells
unfoldable pub conditional_of : ℕ → BranchTarget → Cr → Leave
conditional_of w t c =
    pick (eqb (bit_and (bo_of w) 0b11110) 0b00100)
    (Fork t (bi_of w / 4) (split_of (bi_of w % 4) c).holds (split_of (bi_of w % 4) c).fails)
    (pick (eqb (bit_and (bo_of w) 0b11110) 0b01100)
    (Fork t (bi_of w / 4) (split_of (bi_of w % 4) c).fails (split_of (bi_of w % 4) c).holds)
    (Both t))

-- with link, always, or conditionally
abbrev pub branch_of : ℕ → Bool → BranchTarget → Cr → Leave
branch_of w always t c = pick (flag w 31) (Call t) (pick always (Jump t) (conditional_of w t c))

-- BO 1x1xx
abbrev pub always_of : ℕ → Bool
always_of w = eqb (bit_and (bo_of w) 0b10100) 0b10100

-- how the word leaves; ctr is CTR's value and c the compare record that BI names
unfoldable pub leave_of : Way → List ℕ → SectionAddress → ℕ → GprValue → Cr → Leave
leave_of way.Illegal ws at w ctr c = Illegal
-- b[l][a] target_addr, and a hack for bla
leave_of way.B ws at w ctr c = pick (flag w 31 && flag w 30) (Jump Unknown) (branch_of w true (dest_target ws at w) c)
-- b[c][l][a] BO, BI, target_addr
leave_of way.Bc ws at w ctr c = branch_of w (always_of w) (dest_target ws at w) c
-- b[c]ctr[l] BO, BI
leave_of way.Bcctr ws at w ctr c = branch_of w (always_of w) (ctr_target (section_address_for ws at) (flag w 31) ctr) c
-- b[c]lr[l] BO, BI
leave_of way.Bclr ws at w ctr c = branch_of w (always_of w) Return c
-- rfi
leave_of way.Rfi ws at w ctr c = Jump Unknown

-- both ways of a branch: the next word, never linked, and the target
abbrev pub branches_of : SectionAddress → BranchTarget → Bool → StepResult
branches_of at t link =
    result.Branch (record { target = Address (target.Address (moved at 4)); link = false }) (record { target = t; link = link })

-- the result of leaving and its states; a run that ended at its section's end steps no word
unfoldable pub left_of : Leave → SectionAddress → VM → Stepped
left_of Ended at s = record { result = result.Illegal; vm = s; other = s }
left_of Illegal at s = record { result = result.Illegal; vm = s; other = s }
left_of (Jump t) at s = record { result = result.Jump t; vm = s; other = s }
left_of (Call t) at s = record { result = branches_of at t true; vm = return_of s; other = link_of s }
left_of (Fork t k stays goes) at s = record { result = branches_of at t false; vm = with_result s stays k; other = with_result s goes k }
left_of (Both t) at s = record { result = branches_of at t false; vm = s; other = s }
