-- The registers from 14 up are copied.
use Rattle.std.proofs.Common.{ap}
use Rattle.vm.specs.Registers.{with_gprs}
use Rattle.vm.proofs.Lists.{rest_copied}
use Rattle.vm.proofs.state.copy_saved.Goals as goal

pub returns : goal.returns
returns c = ap (with_gprs c.args.t) (rest_copied 14 c.args.t.gpr c.args.s.gpr _ c.copy_from_slice.ensures.after)
