-- `image_file::copies::copy_starts` meets its contract.
use Rattle.image_file.specs.Reading.{key_at}
use Rattle.image_file.proofs.Copying.{each_turn, each_end}
use lib.ListN.{length-set}
use mathlib.Core.Path.{sym, ◌∙◌}
use Prim.Native.Nat.{◌*◌, ◌+◌}
use native.Mathlib.Omega.{arith}
use Rattle.image_file.proofs.copies.copy_starts.Goals as goal

pub loop-i-preserved : goal.loop-i-preserved
loop-i-preserved c = let l = c.loop-i in let a = c.args in
    (omega arith, simp length-set l.invariant.1, rw c.key_at.ensures (each_turn (key_at a.file.now) 8 a.from a.n l.i l.out (omega arith) (omega arith) ∙ l.invariant.2))

pub returns : goal.returns
returns c = let l = c.loop-i in let a = c.args in
    sym (each_end (key_at a.file.now) 8 (a.from + l.i * 8) a.n l.i l.out (omega arith)) ∙ l.invariant.2
