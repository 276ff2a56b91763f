-- What a way makes of the state that it leaves with: the same, into a call, back from one, or the compared registers' value.
-- Assumes nothing.
use Rattle.vm.specs.States.{link_of, return_of, with_result}
use Rattle.vm.specs.declared.VM.{VM}
use Rattle.clones.specs.declared.Made.TheVariants.{Same, Link, Return, Result}
use Rattle.clones.specs.declared.Made.{Made}

abbrev pub made_of : Made → VM → VM
made_of Same s = s
made_of Link s = link_of s
made_of Return s = return_of s
made_of (Result v k) s = with_result s v k
