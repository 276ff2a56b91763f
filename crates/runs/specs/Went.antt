-- What a word does to a state in cells, and a straight run of words.
-- Assumes nothing.
use Rattle.std.specs.Prelude.{ℕ, ◌/◌, ◌≡◌, Bool, List, length}
use Rattle.words.specs.Choice.{pick}
use Rattle.words.specs.Word.{flag}
use Rattle.places.specs.declared.SectionAddress.{SectionAddress}
use Rattle.vm.specs.declared.GprValue.{GprValue}
use Rattle.vm.specs.declared.GprValue.TheVariants.{ComparisonResult}
use Rattle.vm.specs.declared.VM.{VM}
use Rattle.vm.specs.Registers.{marked, reg, with_compare}
use Rattle.step.specs.declared.Effect.{Effect}
use Rattle.step.specs.declared.Effect.TheVariants.{Nothing, SetD, SetA, Compare, ToLr, ToCtr, FromLr, FromCtr, Load, Store, Clear, Leaves}
use Rattle.step.specs.declared.Leave.{Leave}
use Rattle.step.specs.Arms.{ra_of, crfd_of}
use Rattle.step.specs.Step.{done_of, effect_in}
use Rattle.step.specs.Runs.{leave_by, run_of}
use Rattle.cells.specs.Cells.{Cells}
use Rattle.runs.specs.declared.Halted.{Halted}

-- the state after an effect; a word that leaves has not been followed, and the state is as it was
unfoldable pub went_of : Effect → List ℕ → SectionAddress → ℕ → VM → VM
went_of Nothing ws at w s = s
went_of (SetD g) ws at w s = (done_of (SetD g) ws at w s).vm
went_of (SetA g) ws at w s = (done_of (SetA g) ws at w s).vm
went_of (Compare c g) ws at w s = (done_of (Compare c g) ws at w s).vm
went_of (ToLr v) ws at w s = (done_of (ToLr v) ws at w s).vm
went_of (ToCtr v) ws at w s = (done_of (ToCtr v) ws at w s).vm
went_of FromLr ws at w s = (done_of FromLr ws at w s).vm
went_of FromCtr ws at w s = (done_of FromCtr ws at w s).vm
went_of (Load g seen) ws at w s = (done_of (Load g seen) ws at w s).vm
went_of (Store g seen) ws at w s = (done_of (Store g seen) ws at w s).vm
went_of (Clear k) ws at w s = (done_of (Clear k) ws at w s).vm
went_of (Leaves way) ws at w s = s

-- the state after a compare of rA, with L set as it was
unfoldable pub compared_of : ℕ → GprValue → Bool → VM → VM
compared_of w right signed s =
    pick (flag w 10) s
    (with_compare s (crfd_of w) (record { left = (reg s (ra_of w)).value; right = right; signed = signed }) (ra_of w) (marked (reg s (ra_of w)) (ComparisonResult (crfd_of w))))

-- an effect was carried out from s: how the word leaves, Ended where the run goes on, and the state in the cells
pub record Carries (ws : List ℕ) (at : SectionAddress) (w : ℕ) (e : Effect) (s : VM) (r : Leave) (vs : List ℕ) : Type 0 where
  pub leave : r ≡ leave_by e ws at w s
  pub cells : Cells vs (went_of e ws at w s)

-- the word's own effect was
abbrev pub Went : List ℕ → SectionAddress → ℕ → VM → Leave → List ℕ → Type 0
Went ws at w s r vs = Carries ws at w (effect_in ws at w s) s r vs

-- a run from s came to its end, whose state is in the cells
pub record Halts (ws code : List ℕ) (at : SectionAddress) (s : VM) (r : Halted) (vs : List ℕ) : Type 0 where
  pub leave : r.leave ≡ (run_of ws code 0 (length code / 4) at s).leave
  pub place : r.at ≡ (run_of ws code 0 (length code / 4) at s).at
  pub cells : Cells vs (run_of ws code 0 (length code / 4) at s).vm
