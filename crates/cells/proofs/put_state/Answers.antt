-- The words of a state, over all of the cells.
use mathlib.Core.Path.{◌∙◌, sym}
use Rattle.slot.specs.Layout.{state_words}
use Rattle.slot.proofs.PutLaws.{put_whole}
use Rattle.slot.proofs.SlotLaws.{state_length}
use Rattle.cells.proofs.put_state.Goals as goal

pub returns : goal.returns
returns c = record { words = c.put_state.ensures.0 ∙ put_whole c.args.cells.now (state_words c.args.s) (c.requires ∙ sym (state_length c.args.s)); fits = c.put_state.ensures.1 }
