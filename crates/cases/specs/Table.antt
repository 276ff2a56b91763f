-- The cases of document 01, section "Cases", line by line with its numbers. A case that says "then" goes on from the ones before it.
-- Assumes nothing.
use Rattle.std.specs.Prelude.{ℕ, List, [], ◌∷◌, Some}
use Rattle.places.specs.declared.RelocationTarget.TheVariants as target
use Rattle.vm.specs.declared.GprValue.TheVariants.{Constant, Range, LoadIndexed}
use Rattle.vm.specs.declared.BranchTarget.TheVariants.{JumpTable}
use Rattle.cases.specs.Asks.{nothing, known, Ask, value, jump, fork, taken, mask, report, Gives, holds, jumps, forks, word, bytes, there, to}

-- C and its number, what is asked, what it must give
pub record Case : Type 0 where
  pub c : ℕ
  pub asks : Ask
  pub gives : Gives

abbrev case : ℕ → Ask → Gives → Case
case n a g = record { c = n; asks = a; gives = g }

abbrev pub table : List Case
table =
    -- 3CC08052 on a fresh state: r6 Constant 80520000 (hex)
    case 1 (value nothing 0x800ED400 (0x3CC08052 ∷ []) 6) (holds (Constant 0x80520000))
    -- then 38C60E18: 80520E18
    ∷ case 2 (value nothing 0x800ED400 (0x3CC08052 ∷ 0x38C60E18 ∷ []) 6) (holds (Constant 0x80520E18))
    -- 550066FA on Unknown: r0 Range 0..28 step 4096
    ∷ case 3 (value nothing 0x800ED408 (0x550066FA ∷ []) 0) (holds (Range 0 28 4096))
    -- then 7D86002E, with 80520E18 in a section: max offset 28
    ∷ case 4 (value nothing 0x800ED400 (0x3CC08052 ∷ 0x38C60E18 ∷ 0x550066FA ∷ 0x7D86002E ∷ []) 12)
    (holds (LoadIndexed (target.Address (there 0x80520E18)) (Some 28)))
    -- 7D8903A6, 4E800420: size 32
    ∷ case 5 (jump nothing 0x800ED400 (0x3CC08052 ∷ 0x38C60E18 ∷ 0x550066FA ∷ 0x7D86002E ∷ 0x7D8903A6 ∷ 0x4E800420 ∷ []))
    (jumps (JumpTable (target.Address (there 0x80520E18)) (Some 32)))
    -- 54600E7A: Range 0..124 step 2
    ∷ case 6 (value nothing 0x800ED400 (0x54600E7A ∷ []) 0) (holds (Range 0 124 2))
    -- 28000127, then 418160BC at 800ED45C with 800F3518 in code: targets 800ED460 with 0..295, 800F3518 with 296..FFFFFFFF
    ∷ case 7 (fork nothing 0x800ED458 (0x28000127 ∷ 0x418160BC ∷ []) 0)
    (forks (to 0x800ED460) (Range 0 295 1) (to 0x800F3518) (Range 296 0xFFFFFFFF 1))
    -- 5400103A on 0..295 step 1: 0..1180 step 4
    ∷ case 8 (value (known 0 (Range 0 295 1)) 0x800ED464 (0x5400103A ∷ []) 0) (holds (Range 0 1180 4))
    -- mask 5,4: FFFFFFFF
    ∷ case 9 (mask 5 4) (word 0xFFFFFFFF)
    -- mask 31,0: 80000001
    ∷ case 10 (mask 31 0) (word 0x80000001)
    -- Unknown unsigned less than 0 (28000000, 41800008), taken: 0..FFFFFFFF
    ∷ case 11 (taken nothing 0x800ED400 (0x28000000 ∷ 0x41800008 ∷ []) 0) (holds (Range 0 0xFFFFFFFF 1))
    -- subfic of 5 with -1 (2063FFFF): FFFFFFFA
    ∷ case 12 (value (known 3 (Constant 5)) 0x800ED400 (0x2063FFFF ∷ []) 3) (holds (Constant 0xFFFFFFFA))
    -- words 0, 1, 2 and 5 of 8 visited: 01 01 02 00 03 02 01
    ∷ case 13 (report (0x27 ∷ [])) (bytes (0x01 ∷ 0x01 ∷ 0x02 ∷ 0x00 ∷ 0x03 ∷ 0x02 ∷ 0x01 ∷ []))
    ∷ []
