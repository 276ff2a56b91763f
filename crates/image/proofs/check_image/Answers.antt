-- `image::check_image` meets its contract: sound tables, then the data; sound tables are laid out.
use mathlib.Core.Path.{sym, ◌∙◌}
use Rattle.image.proofs.SoundTables.{laid}
use Rattle.image.proofs.check_image.Goals as goal

pub data_inside-requires : goal.data_inside-requires
data_inside-requires c = laid c.args.im.now (sym c.tables_sound.ensures ∙ c.if-tables_sound.true)
