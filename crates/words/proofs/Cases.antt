-- Document 01's traps, by computation.
-- Assumes nothing.
use Rattle.std.proofs.Common.{◌≡◌, refl}
use Rattle.words.specs.Word.{field, simm_of, li_of, spr_of}
use Rattle.words.specs.Bits.{number, rotated}

-- a rotation by 33 is one by 1
rotation_is_modulo_32 : rotated 0x80000001 33 ≡ 3
unfolding rotated number
rotation_is_modulo_32 = refl

-- SIMM is extended, UIMM is not
simm_is_extended : simm_of 0x2800FFFF ≡ 0xFFFFFFFF
simm_is_extended = refl

uimm_is_not : field 0x2800FFFF 16 31 ≡ 0xFFFF
uimm_is_not = refl

-- mtctr: SPR 9, whose halves stand swapped
ctr_is_9 : spr_of 0x7D8903A6 ≡ 9
ctr_is_9 = refl

-- b to the word before
backwards : li_of 0x4BFFFFFC ≡ 0xFFFFFFFC
backwards = refl
