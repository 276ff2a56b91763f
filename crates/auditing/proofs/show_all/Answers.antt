use Rattle.image.proofs.SoundTables.{laid}
use Rattle.auditing.proofs.show_all.Goals as goal

pub show-requires : goal.show-requires
show-requires g c = laid c.args.f.im.tables.words.now c.args.f.im.tables.sound
