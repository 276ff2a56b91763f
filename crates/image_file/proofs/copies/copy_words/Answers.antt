-- `image_file::copies::copy_words` meets its contract.
use Rattle.words.specs.Bytes.{word_in}
use Rattle.image_file.proofs.Copying.{each_turn, each_end}
use lib.ListN.{length-set}
use mathlib.Core.Path.{sym, ◌∙◌}
use Prim.Native.Nat.{◌*◌, ◌+◌}
use native.Mathlib.Omega.{arith}
use Rattle.image_file.proofs.copies.copy_words.Goals as goal

pub loop-i-preserved : goal.loop-i-preserved
loop-i-preserved c = let l = c.loop-i in let a = c.args in
    (omega arith, simp length-set l.invariant.1, rw c.word_at.ensures (each_turn (word_in a.file.now) 4 56 a.n l.i l.out (omega arith) (omega arith) ∙ l.invariant.2))

pub returns : goal.returns
returns c = let l = c.loop-i in let a = c.args in
    sym (each_end (word_in a.file.now) 4 (56 + l.i * 4) a.n l.i l.out (omega arith)) ∙ l.invariant.2
