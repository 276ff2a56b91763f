-- A straight run of words inside a block, as crate `step` runs it in place: many turns of the walk at once.
-- Assumes nothing.
use Rattle.std.specs.Prelude.{ℕ, ◌+◌, ◌*◌, ◌≡◌, Bool, true, false, not, List}
use Rattle.places.specs.declared.SectionAddress.{SectionAddress}
use Rattle.vm.specs.declared.VM.{VM}
use Rattle.step.specs.declared.Leave.{Leave}
use Rattle.step.specs.declared.Leave.TheVariants as leave
use Rattle.step.specs.declared.Stopped.{Stopped}
use Rattle.step.specs.Ways.{left_of}
use Rattle.stack.specs.Stack.{Entry}
use Rattle.visited.specs.Bits.{with_run}
use Rattle.jump_tables.specs.Tables.{Outcome}
use Rattle.turns.specs.Grounds.{Move, Ground}
use Rattle.turns.specs.Runs.{Going}
use Rattle.turns.specs.Moves.{Asked, Lent, move_from}

-- the run met the section's end, and no word that leaves
abbrev pub is_ended : Leave → Bool
is_ended leave.Ended = true
is_ended leave.Illegal = false
is_ended (leave.Jump t) = false
is_ended (leave.Call t) = false
is_ended (leave.Fork t k stays goes) = false
is_ended (leave.Both t) = false

-- what a word asks that leaves in some way from a state
abbrev pub leaving : Leave → SectionAddress → VM → Move SectionAddress VM Asked
leaving l at s = move_from at (left_of l at s)

-- from the word at p so many words went on, all in p's section; then came the section's end or a word that leaves
pub record Ran (g : Ground SectionAddress VM Asked Outcome Entry Lent) (p : SectionAddress) (s : VM) (v : List ℕ) (r : Stopped) : Type 0 where
  pub many : ℕ
  pub section_is : r.at.section ≡ p.section
  pub address_is : r.at.address ≡ p.address + many * 4
  pub number_is : g.number r.at ≡ g.number p + many
  pub line : Going g p s v r.at r.vm (with_run v (g.number p) many) many 0
  pub word : g.is_word r.at ≡ not (is_ended r.leave)
  pub asks : is_ended r.leave ≡ false → g.move r.at r.vm ≡ leaving r.leave r.at r.vm
