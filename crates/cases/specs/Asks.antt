-- What a case asks, and what answers it: the definitions that the contracts of `step`, `mask_value` and `write_report` cite.
-- Assumes nothing.
use Rattle.std.specs.Prelude.{ℕ, ◌+◌, List, [], ◌∷◌}
use Rattle.words.specs.Bits.{mask_of}
use Rattle.places.specs.declared.SectionAddress.{SectionAddress}
use Rattle.places.specs.declared.RelocationTarget.TheVariants as target
use Rattle.vm.specs.declared.GprValue.{GprValue}
use Rattle.vm.specs.declared.BranchTarget.{BranchTarget}
use Rattle.vm.specs.declared.BranchTarget.TheVariants as branch
use Rattle.vm.specs.declared.VM.{VM}
use Rattle.vm.specs.Registers.{direct, reg, with_reg}
use Rattle.vm.specs.States.{fresh}
use Rattle.step.specs.declared.StepResult.{StepResult}
use Rattle.step.specs.declared.StepResult.TheVariants as result
use Rattle.step.specs.declared.Stepped.{Stepped}
use Rattle.step.specs.Step.{stepped_of}
use Rattle.report.specs.Bytes.{report_of}

-- a state before: nothing known, or one register's value known
pub data Before : Type 0 where
  nothing : Before
  known : ℕ → GprValue → Before

-- words in turn, the first at an address of the Code, and then: the value of a register; where the last word jumps; where it branches, and the
-- value of a register on both sides; that value on the side that is taken. Or a mask, begin and end; or the report of a map
pub data Ask : Type 0 where
  value : Before → ℕ → List ℕ → ℕ → Ask
  jump : Before → ℕ → List ℕ → Ask
  fork : Before → ℕ → List ℕ → ℕ → Ask
  taken : Before → ℕ → List ℕ → ℕ → Ask
  mask : ℕ → ℕ → Ask
  report : List ℕ → Ask

-- what comes of it
pub data Gives : Type 0 where
  holds : GprValue → Gives
  jumps : BranchTarget → Gives
  forks : BranchTarget → GprValue → BranchTarget → GprValue → Gives
  word : ℕ → Gives
  bytes : List ℕ → Gives
  other : StepResult → Gives

-- an Executable: Code from 800E0000 to 80100000, Data from 80520000 to 80530000
abbrev pub tables : List ℕ
tables =
    0 ∷ 0 ∷ 2 ∷ 0 ∷ 0 ∷ 0
    ∷ 0x800E0000 ∷ 0x20000 ∷ 0 ∷ 1 ∷ 0 ∷ 0x20000
    ∷ 0x80520000 ∷ 0x10000 ∷ 1 ∷ 2 ∷ 0x20000 ∷ 0x10000 ∷ []

-- an Executable with one Code section of 8 words
abbrev pub eight_words : List ℕ
eight_words = 0 ∷ 0 ∷ 1 ∷ 0 ∷ 0 ∷ 0 ∷ 0x80000000 ∷ 32 ∷ 0 ∷ 1 ∷ 0 ∷ 32 ∷ []

-- a place in the Code, one in the Data, and a branch to Code
abbrev pub code : ℕ → SectionAddress
code a = record { section = 0; address = a }

abbrev pub there : ℕ → SectionAddress
there a = record { section = 1; address = a }

abbrev pub to : ℕ → BranchTarget
to a = branch.Address (target.Address (code a))

abbrev pub state_of : Before → VM
state_of nothing = fresh
state_of (known r v) = with_reg fresh r (direct v)

-- `step`'s answer for one word
abbrev pub one : ℕ → ℕ → VM → Stepped
one a w s = stepped_of tables 0x30000 (code a) w s

-- the last of some words in turn, each from the state that the one before left
unfoldable pub last : ℕ → List ℕ → VM → Stepped
last a [] s = one a 0 s
last a (w ∷ []) s = one a w s
last a (w ∷ v ∷ ws) s = last (a + 4) (v ∷ ws) (one a w s).vm

abbrev pub holds_in : VM → ℕ → GprValue
holds_in s r = (reg s r).value

abbrev pub jumps_by : StepResult → Gives
jumps_by result.Continue = other result.Continue
jumps_by (result.LoadStore t g a) = other (result.LoadStore t g a)
jumps_by result.Illegal = other result.Illegal
jumps_by (result.Jump t) = jumps t
jumps_by (result.Branch b c) = other (result.Branch b c)
jumps_by (result.Refused why) = other (result.Refused why)

abbrev pub forks_by : StepResult → GprValue → GprValue → Gives
forks_by result.Continue v w = other result.Continue
forks_by (result.LoadStore t g a) v w = other (result.LoadStore t g a)
forks_by result.Illegal v w = other result.Illegal
forks_by (result.Jump t) v w = other (result.Jump t)
forks_by (result.Branch b c) v w = forks b.target v c.target w
forks_by (result.Refused why) v w = other (result.Refused why)

abbrev pub fork_of : Stepped → ℕ → Gives
fork_of r i = forks_by r.result (holds_in r.vm i) (holds_in r.other i)

-- the answer to what a case asks
unfoldable pub answer : Ask → Gives
answer (value b a ws r) = holds (holds_in (last a ws (state_of b)).vm r)
answer (jump b a ws) = jumps_by (last a ws (state_of b)).result
answer (fork b a ws r) = fork_of (last a ws (state_of b)) r
answer (taken b a ws r) = holds (holds_in (last a ws (state_of b)).other r)
answer (mask b e) = word (mask_of b e)
answer (report map) = bytes (report_of eight_words map)
