-- The operations and the kinds of what is written, by number, in the order of the enums.
-- Assumes nothing.
use Rattle.std.specs.Prelude.{ℕ, List, [], ◌∷◌}
use Rattle.decoder.specs.declared.Op.{Op}
use Rattle.decoder.specs.declared.Op.TheVariants.{Illegal, Other, Subfic, Cmpli, Cmpi, Addic, AddicDot, Addi, Addis, Bc, B, Rlwinm, Rlwnm, Ori, Lwz, Lwzu, Lbz, Lbzu, Stw, Stwu, Stb, Stbu, Lhz, Lhzu, Lha, Lhau, Sth, Sthu, Lmw, Stmw, Lfs, Lfsu, Lfd, Lfdu, Stfs, Stfsu, Stfd, Stfdu, Bclr, Rfi, Bcctr, Cmp, Cmpl, Lwzx, Mfspr, Mtspr, Or, Add, Subf, Subfc}
use Rattle.decoder.specs.declared.Writes.{Writes}
use Rattle.decoder.specs.declared.Writes.TheVariants.{Nothing, Rd, Ra, RdRa}

abbrev pub number_of : Op → ℕ
number_of Illegal = 0
number_of Other = 1
number_of Subfic = 2
number_of Cmpli = 3
number_of Cmpi = 4
number_of Addic = 5
number_of AddicDot = 6
number_of Addi = 7
number_of Addis = 8
number_of Bc = 9
number_of B = 10
number_of Rlwinm = 11
number_of Rlwnm = 12
number_of Ori = 13
number_of Lwz = 14
number_of Lwzu = 15
number_of Lbz = 16
number_of Lbzu = 17
number_of Stw = 18
number_of Stwu = 19
number_of Stb = 20
number_of Stbu = 21
number_of Lhz = 22
number_of Lhzu = 23
number_of Lha = 24
number_of Lhau = 25
number_of Sth = 26
number_of Sthu = 27
number_of Lmw = 28
number_of Stmw = 29
number_of Lfs = 30
number_of Lfsu = 31
number_of Lfd = 32
number_of Lfdu = 33
number_of Stfs = 34
number_of Stfsu = 35
number_of Stfd = 36
number_of Stfdu = 37
number_of Bclr = 38
number_of Rfi = 39
number_of Bcctr = 40
number_of Cmp = 41
number_of Cmpl = 42
number_of Lwzx = 43
number_of Mfspr = 44
number_of Mtspr = 45
number_of Or = 46
number_of Add = 47
number_of Subf = 48
number_of Subfc = 49

unfoldable pub names : List Op
names = Illegal ∷ Other ∷ Subfic ∷ Cmpli ∷ Cmpi ∷ Addic ∷ AddicDot ∷ Addi ∷ Addis ∷ Bc ∷ B ∷ Rlwinm ∷ Rlwnm ∷ Ori ∷ Lwz ∷ Lwzu ∷ Lbz ∷ Lbzu ∷ Stw ∷ Stwu ∷ Stb ∷ Stbu ∷ Lhz ∷ Lhzu ∷ Lha ∷ Lhau ∷ Sth ∷ Sthu ∷ Lmw ∷ Stmw ∷ Lfs ∷ Lfsu ∷ Lfd ∷ Lfdu ∷ Stfs ∷ Stfsu ∷ Stfd ∷ Stfdu ∷ Bclr ∷ Rfi ∷ Bcctr ∷ Cmp ∷ Cmpl ∷ Lwzx ∷ Mfspr ∷ Mtspr ∷ Or ∷ Add ∷ Subf ∷ Subfc ∷ []

abbrev pub kind_number : Writes → ℕ
kind_number Nothing = 0
kind_number Rd = 1
kind_number Ra = 2
kind_number RdRa = 3

unfoldable pub kinds : List Writes
kinds = Nothing ∷ Rd ∷ Ra ∷ RdRa ∷ []
