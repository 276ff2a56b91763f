-- `step::done::clear` meets its contract.
use Rattle.vm.specs.Registers.{blank}
use Rattle.step.specs.Arms.{rd_of, ra_of}
use Rattle.step.specs.Step.{cleared_of}
use Rattle.step.proofs.Blank.{blank_never, blank_one, blank_two}
use Rattle.step.proofs.done.clear.Goals as goal

pub returns-in-Nothing : goal.returns-in-Nothing
unfolding cleared_of
returns-in-Nothing c = rw (c.in-Nothing.is, blank_never blank 0 c.args.s.gpr)

pub returns-in-Rd : goal.returns-in-Rd
unfolding cleared_of
returns-in-Rd c = rw (c.set_direct-g.ensures, c.rd-d.ensures, c.in-Rd.is, blank_one blank (rd_of c.args.w) c.args.s.gpr)

pub returns-in-Ra : goal.returns-in-Ra
unfolding cleared_of
returns-in-Ra c = rw (c.set_direct-g.ensures, c.ra-a.ensures, c.in-Ra.is, blank_one blank (ra_of c.args.w) c.args.s.gpr)

pub returns-in-RdRa : goal.returns-in-RdRa
unfolding cleared_of
returns-in-RdRa c = rw (c.set_direct-g.ensures, c.ra-a.ensures, c.rd-d.ensures, c.in-RdRa.is, blank_two blank (rd_of c.args.w) (ra_of c.args.w) c.args.s.gpr)
