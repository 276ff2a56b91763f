-- Each arm is one call.
use mathlib.Core.Path.{ap, ◌∙◌}
use native.Mathlib.Omega.{arith}
use Rattle.cells.proofs.CellLaws.{cells_long}
use Rattle.slot.specs.Put.{put}
use Rattle.clones.proofs.CloneLaws.{cells_whole}
use Rattle.clones.proofs.put_state.Goals as goal

pub copy-requires : goal.copy-requires
copy-requires c = (omega arith, omega (arith, cells_long c.requires.1))

pub returns-in-Same : goal.returns-in-Same
returns-in-Same c =
    rw c.in-Same.is (c.copy.ensures ∙ ap (put c.args.words.now c.args.at) (cells_whole c.args.cells.now _ c.requires.1), c.requires.1.fits)

pub returns-in-Link : goal.returns-in-Link
returns-in-Link c = rw c.in-Link.is c.put_link.ensures

pub returns-in-Return : goal.returns-in-Return
returns-in-Return c = rw c.in-Return.is c.put_return.ensures
