-- The registers below the place of the loop are done.
use mathlib.Core.Path.{◌≡◌}
use Rattle.vm.specs.States.{result_of}
use Rattle.vm.proofs.Lists.{map_to}
use Rattle.vm.proofs.state.set_comparison_result.Given as goal

abbrev pub invariant-loop-g : goal.invariant-loop-g
invariant-loop-g l = l.g-items ≡ map_to (result_of l.value l.crf) l.g-index l.initial.g-items
