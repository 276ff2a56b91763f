-- The cleared map and the pushed starts are the first `Head`.
use mathlib.Core.Path.{sym, ◌∙◌}
use native.Mathlib.Omega.{arith}
use Rattle.cells.proofs.CellLaws.{cells_state}
use Rattle.runs.proofs.Carrying.{cells_own}
use Rattle.stack.proofs.ValidLaws.{empty_stack}
use Rattle.walk.proofs.StartLaws.{begins_done}
use Rattle.walk.proofs.starts.begin_image.Goals as goal

pub push_keys-t-requires : goal.push_keys-t-requires
push_keys-t-requires c = (empty_stack _, omega arith, cells_own c.put_state.ensures)

pub returns : goal.returns
returns c =
    let a = c.args in
    rw (c.clear.ensures, c.code_words.ensures)
    (begins_done a.im.now.tables.words.now a.im.now.«data».now a.starts.now a.two a.thirteen a.map.now a.stack.now
    (λ from upto. sym (c.judge.ensures a.two a.thirteen from upto) ∙ c.in_ok-judge.was)
    (rw (cells_state c.put_state.ensures, c.new_with_base.ensures) at c.push_keys-t.ensures.piles))
