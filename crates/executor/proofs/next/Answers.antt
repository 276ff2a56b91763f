-- What was judged decides, in document 01's order; then the phase.
use mathlib.Core.Path.{sym, ap, ◌∙◌}
use Rattle.std.specs.Prelude.{Ok}
use Rattle.std.specs.Result.{result_and}
use Rattle.executor.proofs.Judging.{tested}
use Rattle.executor.proofs.Answering.{next_run}
use Rattle.executor.proofs.next.Goals as goal

pub returns-in-Running : goal.returns-in-Running
returns-in-Running c =
    let a = c.args in
    let own = c.in_ok-im.ensures.whole in
    let room = rw own.0 at c.require_room.ensures in
    next_run a.im.now a.«data».now a.stack.now a.count a.map.now a.run (sym c.judge.ensures.verdict ∙ ap (λ r. result_and r (Ok tt)) c.in_ok-im.was)
    (tested _ _ (sym room ∙ c.in_ok-require_room.was)) _ _ c.in-Running.is (rw (own.0, own.1) at c.resume.ensures.0) (rw (own.0, own.1) at c.resume.ensures.1)
