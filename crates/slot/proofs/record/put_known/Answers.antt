-- Two puts of four words, one behind the other.
use Prim.Native.Nat.{◌+◌}
use native.Mathlib.Omega.{arith}
use Rattle.slot.specs.Layout.{quad, pair, register_head}
use Rattle.slot.specs.Values.{numbers_of, address_numbers}
use Rattle.slot.proofs.PutLaws.{put_put}
use Rattle.slot.proofs.record.put_known.Goals as goal

pub returns : goal.returns
returns c =
    let a = c.args in (
      rw (c.store4-2.ensures, c.store4.ensures, c.address_numbers-l.ensures.0, c.address_numbers-h.ensures.0, c.numbers_of-v.ensures.numbers)
          (put_put a.words.now a.at (a.at + 4) (quad (register_head a.g) (numbers_of a.g.value)) (pair (address_numbers a.g.hi_addr) (address_numbers a.g.lo_addr)) (omega arith) (omega arith)),
      c.numbers_of-v.ensures.mark,
    )
