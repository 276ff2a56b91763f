-- Where a place has data the rules put its section's bytes inside the buffer.
use Rattle.lookups.proofs.SoundSections.{has_data_lem}
use lib.ListN.{length}
use mathlib.Core.Path.{sym, ◌∙◌}
use Rattle.lookups.proofs.bytes.data_from.Goals as goal

pub bytes_from-requires : goal.bytes_from-requires
bytes_from-requires c =
    let i = c.args.im.now in
    let d = has_data_lem i.tables.words.now (length i.«data».now) c.args.at i.tables.sound i.inside (sym c.has_data.ensures ∙ c.if-has_data.true) in
    rw c.section-s.ensures (d.place.from, d.place.upto, d.inside)
