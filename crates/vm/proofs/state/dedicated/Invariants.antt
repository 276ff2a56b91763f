-- The registers below the place of the loop are done.
use mathlib.Core.Path.{◌≡◌}
use Rattle.vm.specs.Registers.{with_gprs}
use Rattle.vm.specs.States.{fresh}
use Rattle.vm.proofs.Dedicated.{kept_to}
use Rattle.vm.proofs.state.dedicated.Given as goal

abbrev pub invariant-loop-i : goal.invariant-loop-i
invariant-loop-i l = l.t ≡ with_gprs fresh (kept_to l.one l.s.gpr l.i)
