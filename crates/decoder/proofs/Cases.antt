-- Worked words, by computation: document 01's own, both ends of each displacement, words on either side of a rule.
-- Assumes nothing.
use mathlib.Core.Path.{◌≡◌, refl, sym, ap, ◌∙◌}
use mathlib.Core.List.{List, [], ◌∷◌, map}
use Prim.Native.Nat.{ℕ, ◌%◌}
use lib.Dec.{eqb, eqb→eq, lit≤}
use Rattle.words.specs.Word.{field}
use Rattle.decoder.specs.Ops.{number_of}
use Rattle.decoder.specs.Table.{rows, first}
use Rattle.decoder.specs.Decode.{row_of, decoded, branch_dest}
use Rattle.decoder.specs.Written.{set_of, written_set}
use Rattle.decoder.specs.declared.Decoded.{Decoded}
use Rattle.decoder.specs.declared.Op.{Op}
use Rattle.decoder.specs.declared.Op.TheVariants.{Illegal, Other, Addis, Addi, Bc, Rlwinm, Cmpli, Lwzx, Mtspr, Bcctr, Add}
use Rattle.decoder.specs.declared.Writes.{Writes}
use Rattle.decoder.specs.declared.Writes.TheVariants.{Nothing, Rd, Ra}
use Rattle.decoder.proofs.Told.{primary_in, primary_of, extended_told}

abbrev a : Op → Writes → Decoded
a o k = record { op = o; writes = k }

-- the words of C1 to C7, then words beside a rule
abbrev words : List (ℕ × Decoded)
words =
    (0x3CC08052, a Addis Rd) ∷
    (0x38C60E18, a Addi Rd) ∷
    (0x550066FA, a Rlwinm Ra) ∷
    (0x7D86002E, a Lwzx Rd) ∷
    (0x7D8903A6, a Mtspr Nothing) ∷
    (0x4E800420, a Bcctr Nothing) ∷
    (0x28000127, a Cmpli Nothing) ∷
    (0x418160BC, a Bc Nothing) ∷
    -- the word 0, and 31/523 and 31/587: the ten bits tell them from 11 and 75
    (0, a Illegal Nothing) ∷
    (0x7C642C16, a Illegal Nothing) ∷
    (0x7C642C96, a Illegal Nothing) ∷
    -- add., addo, and sync with its reserved bits set
    (0x7C642A15, a Add Rd) ∷
    (0x7C642E14, a Add Rd) ∷
    (0x7FFFFCAD, a Other Nothing) ∷
    []

decodes : map (λ (c : ℕ × Decoded). decoded c.0) words ≡ map (λ (c : ℕ × Decoded). c.1) words
unfolding decoded row_of rows first
decodes = refl

-- a branch word, its address, and where it goes: b and bc at both ends of the displacement, with AA, past 2^32 and below 0
abbrev branches : List (ℕ × ℕ × ℕ)
branches =
    (0x49FFFFFC, 0x80000000, 0x81FFFFFC) ∷
    (0x4A000000, 0x80000000, 0x7E000000) ∷
    (0x49FFFFFE, 0x80000000, 0x01FFFFFC) ∷
    (0x4A000002, 0x80000000, 0xFE000000) ∷
    (0x41827FFC, 0x80000000, 0x80007FFC) ∷
    (0x41828000, 0x80000000, 0x7FFF8000) ∷
    (0x41827FFE, 0x80000000, 0x00007FFC) ∷
    (0x41828002, 0x80000000, 0xFFFF8000) ∷
    (0x48000008, 0xFFFFFFFC, 0x00000004) ∷
    (0x4BFFFFF8, 0x00000004, 0xFFFFFFFC) ∷
    (0x418160BC, 0x800ED45C, 0x800F3518) ∷
    []

branches_go : map (λ (c : ℕ × ℕ × ℕ). branch_dest c.0 c.1) branches ≡ map (λ (c : ℕ × ℕ × ℕ). c.2) branches
branches_go = refl

-- lwzux r3, r4, r5 writes r3 and r4; lwzu r31, 0(r31) writes r31; stw nothing
sets : map written_set (0x7C64286E ∷ 0x87FF0000 ∷ 0x90610008 ∷ []) ≡ 24 ∷ 0x80000000 ∷ 0 ∷ []
unfolding decoded row_of rows first set_of
sets = refl

-- the laws of Told at two operations
addi_is_14 : (w : ℕ) → (decoded w).op ≡ Addi → field w 0 5 ≡ 14
unfolding rows primary_in
addi_is_14 w e = primary_of w Addi e (lit≤ tt)

add_is_266 : (w : ℕ) → (decoded w).op ≡ Add → (field w 0 5 ≡ 31) × (field w 21 30 % 512 ≡ 266)
unfolding rows
add_is_266 w e =
    let h = extended_told 47 31 (λ (x : ℕ). eqb (x % 512) 266) tt tt refl w (ap number_of e) in
    (h.0, eqb→eq (field w 21 30 % 512) 266 h.1)

-- any two answers that a contract of the form `r ≡ x` allows are equal
pub one_answer : {A : Type 0} {x r r' : A} → r ≡ x → r' ≡ x → r ≡ r'
one_answer e e' = e ∙ sym e'
