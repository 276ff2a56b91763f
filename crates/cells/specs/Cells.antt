-- A state in cells: the words of a slot without its place.
-- Assumes nothing.
use Rattle.std.specs.Prelude.{List, ◌≡◌, ℕ, set}
use Rattle.vm.specs.declared.Cr.{Cr}
use Rattle.vm.specs.declared.VM.{VM}
use Rattle.slot.specs.Fits.{Fits}
use Rattle.slot.specs.Layout.{state_words, state_at}

-- the state that cells hold
abbrev pub state_of : List ℕ → VM
state_of ws = state_at ws 0

-- the words are the cells of a state
pub record Cells (ws : List ℕ) (s : VM) : Type 0 where
  pub words : ws ≡ state_words s
  pub fits : Fits s

-- the state with compare record k replaced
abbrev pub with_cr : VM → ℕ → Cr → VM
with_cr s k c = record { gpr = s.gpr; cr = set s.cr k c; lr = s.lr; ctr = s.ctr }
