-- The cells that are laid out hold the state.
use mathlib.Core.Path.{sym, subst}
use Rattle.cells.proofs.CellLaws.{cells_state}
use Rattle.cells.specs.Cells.{Cells}
use Rattle.vm.specs.declared.VM.{VM}
use Rattle.stack.specs.Push.{Pushes}
use Rattle.stack.proofs.push_state.Goals as goal

pub push-requires : goal.push-requires
push-requires c =
    let k = c.put_state.ensures in
    (c.requires, subst (λ (s : VM). Cells c.put_state.new.cells s) (sym (cells_state k)) k)

pub returns : goal.returns
returns c =
    let a = c.args in
    subst (λ (s : VM). Pushes a.words.now a.count a.p s a.sorted c.push.result c.push.new.words) (cells_state c.put_state.ensures) c.push.ensures
