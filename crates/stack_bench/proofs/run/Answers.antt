-- The cells that are laid out hold the state.
use Rattle.std.proofs.Common.{sym, subst}
use Rattle.cells.proofs.CellLaws.{cells_state}
use Rattle.cells.specs.Cells.{Cells}
use Rattle.vm.specs.declared.VM.{VM}
use Rattle.stack_bench.proofs.run.Goals as goal

pub fill-n-requires : goal.fill-n-requires
fill-n-requires c =
    let l = c.put_state in
    subst (λ (s : VM). Cells l.new.cells s) (sym (cells_state l.ensures)) l.ensures
