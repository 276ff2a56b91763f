-- The last arm is every load and store.
use mathlib.Core.Path.{sym, ◌∙◌}
use Rattle.step.proofs.Accesses.{access_arm}
use Rattle.step.proofs.arms.effect.Goals as goal

pub returns-in_default : goal.returns-in_default
returns-in_default c = c.access.ensures ∙ sym (access_arm c.args.dec.op c.args.dec.writes c.args.im.now.words.now c.args.at c.args.w c.args.gs c.args.ga c.args.gb c.in_default.in_default-own.keys27)
