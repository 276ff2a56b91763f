-- Demand 3, phrase by phrase: 00-minutes, "Take a straight run ..".
-- Assumes nothing.
use Rattle.std.specs.Prelude.{ℕ, suc, ◌<◌, ◌≡◌, List, [], ◌∷◌, length}
use Rattle.places.specs.declared.SectionAddress.{SectionAddress}
use Rattle.vm.specs.declared.VM.{VM}
use Rattle.vm.specs.declared.GprValue.TheVariants.{Constant}
use Rattle.vm.specs.Registers.{reg}
use Rattle.step.specs.declared.StepResult.TheVariants.{Continue}
use Rattle.straight.specs.Manual.{Kind, destination, sources, gpr}
use Rattle.straight.specs.Run.{StraightRun, Machine, place_of, word_of, step_at, state_after, machine_after}

-- each register marked Constant holds that number in the machine
unfoldable pub Holds : VM → List ℕ → Type 0
Holds s m = (r x : ℕ) → r < 32 → (reg s r).value ≡ Constant x → gpr m r ≡ x

-- register r is marked Constant
abbrev pub IsConstant : VM → ℕ → Type 0
IsConstant s r = (x : ℕ) × ((reg s r).value ≡ Constant x)

-- all of these are
unfoldable pub AllConstant : VM → List ℕ → Type 0
AllConstant s [] = Unit {0}
AllConstant s (r ∷ rs) = IsConstant s r × AllConstant s rs

-- t is s but for register d: every other register, LR, CTR and compare field keeps its whole record
pub record OnlyChanges (d : ℕ) (s t : VM) : Type 0 where
  pub others : (r : ℕ) → (r ≡ d → ⊥) → reg t r ≡ reg s r
  pub lr : t.lr ≡ s.lr
  pub ctr : t.ctr ≡ s.ctr
  pub cr : t.cr ≡ s.cr

-- at one word: the run goes on; a destination whose sources are all Constant, or that has none, becomes Constant;
-- everything else keeps its whole record
pub record AtWord (k : Kind) (w : ℕ) (s t : VM) : Type 0 where
  pub constant : AllConstant s (sources k w) → IsConstant t (destination k w)
  pub keeps : OnlyChanges (destination k w) s t

-- the demand: for every straight run, every start where what is marked Constant holds
pub record Demand3 (ws bs : List ℕ) (p : SectionAddress) (kinds : ℕ → Kind) (n : ℕ) (s : VM) (m : List ℕ) : Type 0 where
  pub holds_again : Holds (state_after ws bs p s n) (machine_after ws bs p kinds m n)
  pub goes_on : (k : ℕ) → k < n → (step_at ws bs p k (state_after ws bs p s k)).result ≡ Continue
  pub at_each_word : (k : ℕ) → k < n → AtWord (kinds k) (word_of ws bs (place_of p k)) (state_after ws bs p s k) (state_after ws bs p s (suc k))

-- a state as the machine has it: thirty-two register records
abbrev pub Whole : VM → Type 0
Whole s = length s.gpr ≡ 32

abbrev pub Demanded : Type 0
Demanded =
    (ws bs : List ℕ) (p : SectionAddress) (kinds : ℕ → Kind) (n : ℕ) → StraightRun ws bs p kinds n
    → (s : VM) → Whole s → (m : List ℕ) → Machine m → Holds s m → Demand3 ws bs p kinds n s m
