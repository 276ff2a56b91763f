-- An operation's number is its place among the names.
-- Assumes nothing.
use mathlib.Core.Path.{◌≡◌, refl}
use Prim.Native.Nat.{◌<◌}
use lib.Dec.{lit<}
use lib.ListN.{get_or}
use Rattle.decoder.specs.Ops.{number_of, names, kind_number, kinds}
use Rattle.decoder.specs.declared.Op.{Op}
use Rattle.decoder.specs.declared.Op.TheVariants.{Illegal, Other, Subfic, Cmpli, Cmpi, Addic, AddicDot, Addi, Addis, Bc, B, Rlwinm, Rlwnm, Ori, Lwz, Lwzu, Lbz, Lbzu, Stw, Stwu, Stb, Stbu, Lhz, Lhzu, Lha, Lhau, Sth, Sthu, Lmw, Stmw, Lfs, Lfsu, Lfd, Lfdu, Stfs, Stfsu, Stfd, Stfdu, Bclr, Rfi, Bcctr, Cmp, Cmpl, Lwzx, Mfspr, Mtspr, Or, Add, Subf, Subfc}
use Rattle.decoder.specs.declared.Writes.{Writes}
use Rattle.decoder.specs.declared.Writes.TheVariants.{Nothing, Rd, Ra, RdRa}

pub named : (o : Op) → get_or names (number_of o) Illegal ≡ o
unfolding names
named Illegal = refl
named Other = refl
named Subfic = refl
named Cmpli = refl
named Cmpi = refl
named Addic = refl
named AddicDot = refl
named Addi = refl
named Addis = refl
named Bc = refl
named B = refl
named Rlwinm = refl
named Rlwnm = refl
named Ori = refl
named Lwz = refl
named Lwzu = refl
named Lbz = refl
named Lbzu = refl
named Stw = refl
named Stwu = refl
named Stb = refl
named Stbu = refl
named Lhz = refl
named Lhzu = refl
named Lha = refl
named Lhau = refl
named Sth = refl
named Sthu = refl
named Lmw = refl
named Stmw = refl
named Lfs = refl
named Lfsu = refl
named Lfd = refl
named Lfdu = refl
named Stfs = refl
named Stfsu = refl
named Stfd = refl
named Stfdu = refl
named Bclr = refl
named Rfi = refl
named Bcctr = refl
named Cmp = refl
named Cmpl = refl
named Lwzx = refl
named Mfspr = refl
named Mtspr = refl
named Or = refl
named Add = refl
named Subf = refl
named Subfc = refl

-- the operations fit the six low bits of an entry
pub number_lt : (o : Op) → number_of o < 64
number_lt Illegal = lit< tt
number_lt Other = lit< tt
number_lt Subfic = lit< tt
number_lt Cmpli = lit< tt
number_lt Cmpi = lit< tt
number_lt Addic = lit< tt
number_lt AddicDot = lit< tt
number_lt Addi = lit< tt
number_lt Addis = lit< tt
number_lt Bc = lit< tt
number_lt B = lit< tt
number_lt Rlwinm = lit< tt
number_lt Rlwnm = lit< tt
number_lt Ori = lit< tt
number_lt Lwz = lit< tt
number_lt Lwzu = lit< tt
number_lt Lbz = lit< tt
number_lt Lbzu = lit< tt
number_lt Stw = lit< tt
number_lt Stwu = lit< tt
number_lt Stb = lit< tt
number_lt Stbu = lit< tt
number_lt Lhz = lit< tt
number_lt Lhzu = lit< tt
number_lt Lha = lit< tt
number_lt Lhau = lit< tt
number_lt Sth = lit< tt
number_lt Sthu = lit< tt
number_lt Lmw = lit< tt
number_lt Stmw = lit< tt
number_lt Lfs = lit< tt
number_lt Lfsu = lit< tt
number_lt Lfd = lit< tt
number_lt Lfdu = lit< tt
number_lt Stfs = lit< tt
number_lt Stfsu = lit< tt
number_lt Stfd = lit< tt
number_lt Stfdu = lit< tt
number_lt Bclr = lit< tt
number_lt Rfi = lit< tt
number_lt Bcctr = lit< tt
number_lt Cmp = lit< tt
number_lt Cmpl = lit< tt
number_lt Lwzx = lit< tt
number_lt Mfspr = lit< tt
number_lt Mtspr = lit< tt
number_lt Or = lit< tt
number_lt Add = lit< tt
number_lt Subf = lit< tt
number_lt Subfc = lit< tt

pub kind_named : (k : Writes) → get_or kinds (kind_number k) Nothing ≡ k
unfolding kinds
kind_named Nothing = refl
kind_named Rd = refl
kind_named Ra = refl
kind_named RdRa = refl
