-- The place and the state that stand there are written to a list of their own, which is compared.
use mathlib.Core.Path.{sym, ap, ◌∙◌}
use lib.ListN.{replicate}
use Rattle.places.specs.declared.SectionAddress.{SectionAddress}
use Rattle.vm.specs.declared.VM.{VM}
use Rattle.slot.specs.Layout.{slot_size, slot_words, place_in}
use Rattle.slot.specs.Put.{matches}
use Rattle.slot.proofs.PutLaws.{put_whole}
use Rattle.slot.proofs.SlotLaws.{slot_length}
use Rattle.slot.proofs.is_slot.Goals as goal

pub returns : goal.returns
returns c =
    let a = c.args in
    let p : SectionAddress = c.place_in-p.result in
    let s : VM = c.state_in-s.result in
    c.same.ensures
    ∙ ap (matches a.words.now a.at) (c.put_slot.ensures.0 ∙ put_whole (replicate slot_size 0) (slot_words p s) (sym (slot_length p s)))
    ∙ ap (λ (q : SectionAddress). matches a.words.now a.at (slot_words q s)) c.place_in-p.ensures
    ∙ ap (λ (u : VM). matches a.words.now a.at (slot_words (place_in a.words.now a.at) u)) c.state_in-s.ensures
