use Rattle.runs.proofs.Carrying.{cells_own}
use Rattle.step_bench.proofs.repeat.Goals as goal

pub run-r-requires : goal.run-r-requires
run-r-requires c = cells_own c.put_state.ensures
