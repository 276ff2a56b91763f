-- A block of the walk, as the code runs it: a line of words and jumps inside the section, and what ends it.
-- Assumes nothing.
use Rattle.std.specs.Prelude.{ℕ, ◌+◌, ◌≡◌, Option, Some, None, true, false, List, eqb}
use Rattle.words.specs.Choice.{pick}
use Rattle.places.specs.declared.SectionAddress.{SectionAddress}
use Rattle.places.specs.declared.RelocationTarget.{RelocationTarget}
use Rattle.places.specs.declared.RelocationTarget.TheVariants as target
use Rattle.vm.specs.declared.VM.{VM}
use Rattle.vm.specs.declared.BranchTarget.{BranchTarget}
use Rattle.vm.specs.declared.BranchTarget.TheVariants as branch
use Rattle.step.specs.declared.Leave.{Leave}
use Rattle.step.specs.declared.Leave.TheVariants as leaver
use Rattle.stack.specs.Stack.{Entry}
use Rattle.visited.specs.Bits.{visited_at, with_bit}
use Rattle.jump_tables.specs.Tables.{Outcome}
use Rattle.turns.specs.Grounds.{Way, jump, leave, Ground}
use Rattle.turns.specs.Runs.{Going}
use Rattle.turns.specs.Moves.{Asked, Lent}
use Rattle.turns.specs.Straight.{leaving}
use Rattle.pushes.specs.declared.Taken.{Taken}
use Rattle.pushes.specs.Takes.{none, TakenWays}
use Rattle.walk.specs.declared.Ended.{Ended}

-- a target in the section of that index
abbrev pub target_in : RelocationTarget → ℕ → Option SectionAddress
target_in target.External n = None
target_in (target.Address q) n = pick (eqb q.section n) (Some q) None

abbrev pub branch_in : BranchTarget → ℕ → Option SectionAddress
branch_in branch.Unknown n = None
branch_in branch.Return n = None
branch_in (branch.Address t) n = target_in t n
branch_in (branch.JumpTable t m) n = None

-- where a word jumps to inside its section
abbrev pub jump_in : Leave → ℕ → Option SectionAddress
jump_in leaver.Ended n = None
jump_in leaver.Illegal n = None
jump_in (leaver.Jump t) n = branch_in t n
jump_in (leaver.Call t) n = None
jump_in (leaver.Fork t k stays goes) n = None
jump_in (leaver.Both t) n = None

-- a ground of an image
abbrev pub Here : Type 0
Here = Ground SectionAddress VM Asked Outcome Entry Lent

-- how a block ended, with the state that the cells hold then
pub record Ending : Type 0 where
  pub leave : Option Leave
  pub at : SectionAddress
  pub vm : VM
  pub stepped : ℕ
  pub begun : ℕ

abbrev pub ending_of : Ended → VM → Ending
ending_of r t = record { leave = r.leave; at = r.at; vm = t; stepped = r.stepped; begun = r.begun }

-- what ends a block: at the place q with the state t, the map u and m words stepped; the map is v' then
pub data Last (g : Here) (q : SectionAddress) (t : VM) (u : List ℕ) (m : ℕ) (r : Ending) (v' : List ℕ) : Type 0 where
  -- the section's end
  past : g.is_word q ≡ false → r.leave ≡ None → r.stepped ≡ m → v' ≡ u → Last g q t u m r v'
  -- a jump to what is no word of code
  jumps_out : {x : SectionAddress} {y : VM} → g.is_word q ≡ true → g.move q t ≡ jump x y → g.is_word x ≡ false
      → r.leave ≡ None → r.stepped ≡ m + 1 → v' ≡ with_bit u (g.number q) → Last g q t u m r v'
  -- a jump to a visited word
  jumps_old : {x : SectionAddress} {y : VM} → g.is_word q ≡ true → g.move q t ≡ jump x y → g.is_word x ≡ true → visited_at (with_bit u (g.number q)) (g.number x) ≡ true
      → r.leave ≡ None → r.stepped ≡ m + 1 → v' ≡ with_bit u (g.number q) → Last g q t u m r v'
  -- a word that leaves by ways, which are not taken yet
  leaves_by : (l : Leave) (ys : List (Way SectionAddress VM Asked)) → g.is_word q ≡ true → g.move q t ≡ leave ys → leaving l q t ≡ leave ys
      → r.leave ≡ Some l → r.stepped ≡ m + 1 → v' ≡ with_bit u (g.number q) → Last g q t u m r v'

-- the block at the word p with the state s and the map v
pub record Block (g : Here) (p : SectionAddress) (s : VM) (v : List ℕ) (r : Ending) (v' : List ℕ) : Type 0 where
  pub many : ℕ
  pub map : List ℕ
  pub line : Going g p s v r.at r.vm map many r.begun
  pub ends : Last g r.at r.vm map many r v'

-- what the end of a block asked for: nothing, or its last word's ways, which were taken
pub data Followed (ws bs : List ℕ) (from : SectionAddress) (upto : Option SectionAddress) (words : List ℕ) (n : ℕ) (buffer : List ℕ) (r : Ending)
    (words' buffer' : List ℕ) (t : Taken) : Type 0 where
  stays : r.leave ≡ None → t ≡ none n → words' ≡ words → buffer' ≡ buffer → Followed ws bs from upto words n buffer r words' buffer' t
  goes : (l : Leave) → r.leave ≡ Some l → TakenWays ws bs from upto words n buffer r.at l r.vm words' buffer' t → Followed ws bs from upto words n buffer r words' buffer' t
