-- What a word that leaves asks: a jump inside its section, or ways to take.
-- Assumes nothing.
use Rattle.std.specs.Prelude.{Option, Some, None}
use mathlib.Core.Path.{◌≡◌, refl}
use mathlib.Core.Bool.{Bool, true, false}
use mathlib.Core.List.{List, [], ◌∷◌}
use lib.Dec.{eqb}
use Rattle.words.specs.Choice.{pick}
use Rattle.places.specs.declared.SectionAddress.{SectionAddress}
use Rattle.places.specs.declared.RelocationTarget.{RelocationTarget}
use Rattle.places.specs.declared.RelocationTarget.TheVariants as target
use Rattle.vm.specs.declared.VM.{VM}
use Rattle.vm.specs.declared.BranchTarget.{BranchTarget}
use Rattle.vm.specs.declared.BranchTarget.TheVariants as branch
use Rattle.step.specs.declared.Leave.{Leave}
use Rattle.step.specs.declared.Leave.TheVariants as leaver
use Rattle.step.specs.Ways.{left_of}
use Rattle.turns.specs.Grounds.{Way, to, Move, jump, leave}
use Rattle.turns.specs.Moves.{Asked, jump_to, jump_by, move_by}
use Rattle.turns.specs.Straight.{leaving}
use Rattle.walk.specs.Blocks.{target_in, branch_in, jump_in}

-- a move is the jump to that place, or it leaves by ways
abbrev pub Asks : Option SectionAddress → Move SectionAddress VM Asked → VM → Type 0
Asks None m s = (ys : List (Way SectionAddress VM Asked)) × (m ≡ leave ys)
Asks (Some q) m s = m ≡ jump q s

module _ (at : SectionAddress) (s : VM) where
  by_section : (q : SectionAddress) (t : Bool) → Asks (pick t (Some q) None) (pick t (jump q s) (leave (to q s ∷ []))) s
  by_section q true = refl
  by_section q false = (_, refl)

  by_target : (t : RelocationTarget) → Asks (target_in t at.section) (jump_to at t s) s
  by_target target.External = (_, refl)
  by_target (target.Address q) = by_section q (eqb q.section at.section)

  by_branch : (t : BranchTarget) → Asks (branch_in t at.section) (jump_by at t s) s
  by_branch branch.Unknown = (_, refl)
  by_branch branch.Return = (_, refl)
  by_branch (branch.Address t) = by_target t
  by_branch (branch.JumpTable t n) = (_, refl)

  pub leaver_asks : (l : Leave) → Asks (jump_in l at.section) (leaving l at s) s
  unfolding move_by left_of
  leaver_asks leaver.Ended = (_, refl)
  leaver_asks leaver.Illegal = (_, refl)
  leaver_asks (leaver.Jump t) = by_branch t
  leaver_asks (leaver.Call t) = (_, refl)
  leaver_asks (leaver.Fork t k stays goes) = (_, refl)
  leaver_asks (leaver.Both t) = (_, refl)
