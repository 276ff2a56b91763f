-- Two puts of four words, one behind the other.
use Prim.Native.Nat.{◌+◌}
use native.Mathlib.Omega.{arith}
use Rattle.slot.specs.Layout.{quad, compare_head, value_words}
use Rattle.slot.specs.Values.{numbers_of}
use Rattle.slot.proofs.PutLaws.{put_put}
use Rattle.slot.proofs.record.put_compared.Goals as goal

pub returns : goal.returns
returns c =
    let a = c.args in (
      rw (c.store4-2.ensures, c.store4.ensures, c.bit_of.ensures.0, c.numbers_of-r.ensures.numbers, c.numbers_of-l.ensures.numbers)
          (put_put a.words.now a.at (a.at + 4) (quad (compare_head a.c) (numbers_of a.c.left)) (value_words a.c.right) (omega arith) (omega arith)),
      record { left = c.numbers_of-l.ensures.mark; right = c.numbers_of-r.ensures.mark },
    )
