-- The four bytes of an aligned Code word are in the buffer, and are what reading its section gives.
use Rattle.lookups.proofs.CodeBytes.{code_bytes, code_word_at}
use lib.ListN.{length}
use mathlib.Core.Path.{sym}
use native.Mathlib.Omega.{arith}
use Rattle.lookups.proofs.code.code_word.Goals as goal

pub four-requires : goal.four-requires
four-requires c =
    let a = c.args in
    let i = a.im.now in
    let k = code_bytes i.tables.words.now (length i.«data».now) a.at i.tables.sound i.inside c.requires in
    omega (arith, k.place.place.from, k.bytes.inside, k.room)

pub returns : goal.returns
returns c =
    let a = c.args in
    let i = a.im.now in
    let k = code_bytes i.tables.words.now (length i.«data».now) a.at i.tables.sound i.inside c.requires in
    rw c.four.ensures (sym (code_word_at i.tables.words.now i.«data».now a.at k))
