-- Two puts of four words, one behind the other.
use Prim.Native.Nat.{◌+◌}
use native.Mathlib.Omega.{arith}
use Rattle.slot.specs.Layout.{value_words}
use Rattle.slot.proofs.PutLaws.{put_put}
use Rattle.slot.proofs.record.put_ends.Goals as goal

pub returns : goal.returns
returns c =
    let a = c.args in (
      rw (c.store4-2.ensures, c.store4.ensures, c.numbers_of-r.ensures.numbers, c.numbers_of-l.ensures.numbers)
          (put_put a.words.now a.at (a.at + 4) (value_words a.lr.value) (value_words a.ctr.value) (omega arith) (omega arith)),
      (c.numbers_of-l.ensures.mark, c.numbers_of-r.ensures.mark),
    )
