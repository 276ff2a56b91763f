-- The opcode table of document 01, row by row in its order, and the row of a pair of opcodes.
-- Assumes nothing.
use Rattle.std.specs.Prelude.{ℕ, ◌+◌, ◌*◌, Bool, ◌&&◌, List, [], ◌∷◌, eqb}
use Rattle.words.specs.Choice.{pick}
use Rattle.decoder.specs.Ops.{number_of, kind_number}
use Rattle.decoder.specs.declared.Op.{Op}
use Rattle.decoder.specs.declared.Op.TheVariants.{Illegal, Other, Subfic, Cmpli, Cmpi, Addic, AddicDot, Addi, Addis, Bc, B, Rlwinm, Rlwnm, Ori, Lwz, Lwzu, Lbz, Lbzu, Stw, Stwu, Stb, Stbu, Lhz, Lhzu, Lha, Lhau, Sth, Sthu, Lmw, Stmw, Lfs, Lfsu, Lfd, Lfdu, Stfs, Stfsu, Stfd, Stfdu, Bclr, Rfi, Bcctr, Cmp, Cmpl, Lwzx, Mfspr, Mtspr, Or, Add, Subf, Subfc}
use Rattle.decoder.specs.declared.Writes.{Writes}
use Rattle.decoder.specs.declared.Writes.TheVariants.{Nothing, Rd, Ra, RdRa}

-- a primary opcode; an extended one under 19 and 31, else 0; the operation; what the word writes
pub record Row : Type 0 where
  pub primary : ℕ
  pub extended : ℕ
  pub op : Op
  pub writes : Writes

abbrev pub row : ℕ → ℕ → Op → Writes → Row
row p x o w = record { primary = p; extended = x; op = o; writes = w }

-- a word that has no row
abbrev pub none : Row
none = row 0 0 Illegal Nothing

unfoldable pub rows : List Row
rows =
    -- Primary opcodes.
    row 7 0 Other Rd ∷  -- mulli
    row 8 0 Subfic Rd ∷  -- subfic
    row 10 0 Cmpli Nothing ∷  -- cmpli
    row 11 0 Cmpi Nothing ∷  -- cmpi
    row 12 0 Addic Rd ∷  -- addic
    row 13 0 AddicDot Rd ∷  -- addic.
    row 14 0 Addi Rd ∷  -- addi
    row 15 0 Addis Rd ∷  -- addis
    row 16 0 Bc Nothing ∷  -- bc
    row 18 0 B Nothing ∷  -- b
    row 20 0 Other Ra ∷  -- rlwimi
    row 21 0 Rlwinm Ra ∷  -- rlwinm
    row 23 0 Rlwnm Ra ∷  -- rlwnm
    row 24 0 Ori Ra ∷  -- ori
    row 25 0 Other Ra ∷  -- oris
    row 26 0 Other Ra ∷  -- xori
    row 27 0 Other Ra ∷  -- xoris
    row 28 0 Other Ra ∷  -- andi.
    row 29 0 Other Ra ∷  -- andis.
    row 32 0 Lwz Rd ∷  -- lwz
    row 33 0 Lwzu RdRa ∷  -- lwzu
    row 34 0 Lbz Rd ∷  -- lbz
    row 35 0 Lbzu RdRa ∷  -- lbzu
    row 36 0 Stw Nothing ∷  -- stw
    row 37 0 Stwu Ra ∷  -- stwu
    row 38 0 Stb Nothing ∷  -- stb
    row 39 0 Stbu Ra ∷  -- stbu
    row 40 0 Lhz Rd ∷  -- lhz
    row 41 0 Lhzu RdRa ∷  -- lhzu
    row 42 0 Lha Rd ∷  -- lha
    row 43 0 Lhau RdRa ∷  -- lhau
    row 44 0 Sth Nothing ∷  -- sth
    row 45 0 Sthu Ra ∷  -- sthu
    row 46 0 Lmw Rd ∷  -- lmw
    row 47 0 Stmw Nothing ∷  -- stmw
    row 48 0 Lfs Nothing ∷  -- lfs
    row 49 0 Lfsu Ra ∷  -- lfsu
    row 50 0 Lfd Nothing ∷  -- lfd
    row 51 0 Lfdu Ra ∷  -- lfdu
    row 52 0 Stfs Nothing ∷  -- stfs
    row 53 0 Stfsu Ra ∷  -- stfsu
    row 54 0 Stfd Nothing ∷  -- stfd
    row 55 0 Stfdu Ra ∷  -- stfdu
    -- 19.
    row 19 16 Bclr Nothing ∷  -- bclr
    row 19 50 Rfi Nothing ∷  -- rfi
    row 19 528 Bcctr Nothing ∷  -- bcctr
    -- 31; the last three also with 512 added.
    row 31 0 Cmp Nothing ∷  -- cmp
    row 31 32 Cmpl Nothing ∷  -- cmpl
    row 31 23 Lwzx Rd ∷  -- lwzx
    row 31 339 Mfspr Rd ∷  -- mfspr
    row 31 467 Mtspr Nothing ∷  -- mtspr
    row 31 444 Or Ra ∷  -- or
    row 31 266 Add Rd ∷  -- add
    row 31 40 Subf Rd ∷  -- subf
    row 31 8 Subfc Rd ∷  -- subfc
    row 31 778 Add Rd ∷  -- addo
    row 31 552 Subf Rd ∷  -- subfo
    row 31 520 Subfc Rd ∷  -- subfco
    -- Other words by what they write. rD: under 31, each also with 512 added.
    row 31 10 Other Rd ∷  -- addc
    row 31 522 Other Rd ∷  -- addco
    row 31 138 Other Rd ∷  -- adde
    row 31 650 Other Rd ∷  -- addeo
    row 31 202 Other Rd ∷  -- addze
    row 31 714 Other Rd ∷  -- addzeo
    row 31 234 Other Rd ∷  -- addme
    row 31 746 Other Rd ∷  -- addmeo
    row 31 136 Other Rd ∷  -- subfe
    row 31 648 Other Rd ∷  -- subfeo
    row 31 200 Other Rd ∷  -- subfze
    row 31 712 Other Rd ∷  -- subfzeo
    row 31 232 Other Rd ∷  -- subfme
    row 31 744 Other Rd ∷  -- subfmeo
    row 31 235 Other Rd ∷  -- mullw
    row 31 747 Other Rd ∷  -- mullwo
    row 31 459 Other Rd ∷  -- divwu
    row 31 971 Other Rd ∷  -- divwuo
    row 31 491 Other Rd ∷  -- divw
    row 31 1003 Other Rd ∷  -- divwo
    row 31 104 Other Rd ∷  -- neg
    row 31 616 Other Rd ∷  -- nego
    -- rD: under 31.
    row 31 75 Other Rd ∷  -- mulhw
    row 31 11 Other Rd ∷  -- mulhwu
    row 31 19 Other Rd ∷  -- mfcr
    row 31 83 Other Rd ∷  -- mfmsr
    row 31 87 Other Rd ∷  -- lbzx
    row 31 279 Other Rd ∷  -- lhzx
    row 31 343 Other Rd ∷  -- lhax
    row 31 20 Other Rd ∷  -- lwarx
    row 31 371 Other Rd ∷  -- mftb
    row 31 533 Other Rd ∷  -- lswx
    row 31 597 Other Rd ∷  -- lswi
    row 31 534 Other Rd ∷  -- lwbrx
    row 31 790 Other Rd ∷  -- lhbrx
    row 31 595 Other Rd ∷  -- mfsr
    row 31 659 Other Rd ∷  -- mfsrin
    row 31 310 Other Rd ∷  -- eciwx
    -- rD and rA.
    row 31 55 Other RdRa ∷  -- lwzux
    row 31 119 Other RdRa ∷  -- lbzux
    row 31 311 Other RdRa ∷  -- lhzux
    row 31 375 Other RdRa ∷  -- lhaux
    -- rA: under 31.
    row 31 28 Other Ra ∷  -- and
    row 31 60 Other Ra ∷  -- andc
    row 31 124 Other Ra ∷  -- nor
    row 31 284 Other Ra ∷  -- eqv
    row 31 316 Other Ra ∷  -- xor
    row 31 412 Other Ra ∷  -- orc
    row 31 476 Other Ra ∷  -- nand
    row 31 24 Other Ra ∷  -- slw
    row 31 536 Other Ra ∷  -- srw
    row 31 792 Other Ra ∷  -- sraw
    row 31 824 Other Ra ∷  -- srawi
    row 31 26 Other Ra ∷  -- cntlzw
    row 31 954 Other Ra ∷  -- extsb
    row 31 922 Other Ra ∷  -- extsh
    row 31 183 Other Ra ∷  -- stwux
    row 31 247 Other Ra ∷  -- stbux
    row 31 439 Other Ra ∷  -- sthux
    row 31 567 Other Ra ∷  -- lfsux
    row 31 631 Other Ra ∷  -- lfdux
    row 31 695 Other Ra ∷  -- stfsux
    row 31 759 Other Ra ∷  -- stfdux
    -- Nothing: primaries.
    row 3 0 Other Nothing ∷  -- twi
    row 17 0 Other Nothing ∷  -- sc
    row 4 0 Other Nothing ∷  -- ps_..
    row 56 0 Other Nothing ∷  -- psq_l
    row 57 0 Other Nothing ∷  -- psq_lu
    row 59 0 Other Nothing ∷  -- f..s
    row 60 0 Other Nothing ∷  -- psq_st
    row 61 0 Other Nothing ∷  -- psq_stu
    row 63 0 Other Nothing ∷  -- f..
    -- Nothing: under 19.
    row 19 0 Other Nothing ∷  -- mcrf
    row 19 150 Other Nothing ∷  -- isync
    row 19 33 Other Nothing ∷  -- crnor
    row 19 129 Other Nothing ∷  -- crandc
    row 19 193 Other Nothing ∷  -- crxor
    row 19 225 Other Nothing ∷  -- crnand
    row 19 257 Other Nothing ∷  -- crand
    row 19 289 Other Nothing ∷  -- creqv
    row 19 417 Other Nothing ∷  -- crorc
    row 19 449 Other Nothing ∷  -- cror
    -- Nothing: under 31.
    row 31 151 Other Nothing ∷  -- stwx
    row 31 215 Other Nothing ∷  -- stbx
    row 31 407 Other Nothing ∷  -- sthx
    row 31 150 Other Nothing ∷  -- stwcx.
    row 31 662 Other Nothing ∷  -- stwbrx
    row 31 918 Other Nothing ∷  -- sthbrx
    row 31 661 Other Nothing ∷  -- stswx
    row 31 725 Other Nothing ∷  -- stswi
    row 31 535 Other Nothing ∷  -- lfsx
    row 31 599 Other Nothing ∷  -- lfdx
    row 31 663 Other Nothing ∷  -- stfsx
    row 31 727 Other Nothing ∷  -- stfdx
    row 31 983 Other Nothing ∷  -- stfiwx
    row 31 4 Other Nothing ∷  -- tw
    row 31 54 Other Nothing ∷  -- dcbst
    row 31 86 Other Nothing ∷  -- dcbf
    row 31 246 Other Nothing ∷  -- dcbtst
    row 31 278 Other Nothing ∷  -- dcbt
    row 31 470 Other Nothing ∷  -- dcbi
    row 31 982 Other Nothing ∷  -- icbi
    row 31 1014 Other Nothing ∷  -- dcbz
    row 31 598 Other Nothing ∷  -- sync
    row 31 854 Other Nothing ∷  -- eieio
    row 31 144 Other Nothing ∷  -- mtcrf
    row 31 512 Other Nothing ∷  -- mcrxr
    row 31 146 Other Nothing ∷  -- mtmsr
    row 31 210 Other Nothing ∷  -- mtsr
    row 31 242 Other Nothing ∷  -- mtsrin
    row 31 306 Other Nothing ∷  -- tlbie
    row 31 566 Other Nothing ∷  -- tlbsync
    row 31 438 Other Nothing ∷  -- ecowx
    []

abbrev pub fits : Row → ℕ → ℕ → Bool
fits r p x = (eqb r.primary p) && (eqb r.extended x)

-- the first row with these opcodes
unfoldable pub first : List Row → ℕ → ℕ → Row
first [] p x = none
first (r ∷ rs) p x = pick (fits r p x) r (first rs p x)

-- a row as one number: 64 times the kind of what it writes, plus its operation
abbrev pub coded : Row → ℕ
coded r = kind_number r.writes * 64 + number_of r.op
