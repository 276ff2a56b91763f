-- The arm of every displacement load and store: what the arm `_` of the match on operations learns.
-- Assumes nothing.
use mathlib.Core.Path.{◌≡◌, refl}
use mathlib.Core.List.{List, [], ◌∷◌}
use Prim.Native.Nat.{ℕ}
use types.Run.{OneOf, miss}
use denote.Enum.Declared.{tag_of}
use Rattle.places.specs.declared.SectionAddress.{SectionAddress}
use Rattle.decoder.specs.declared.Writes.{Writes}
use Rattle.decoder.specs.declared.Op.{Op}
use Rattle.decoder.specs.declared.Op.TheVariants.{Illegal, Other, Subfic, Cmpli, Cmpi, Addic, AddicDot, Addi, Addis, Bc, B, Rlwinm, Rlwnm, Ori, Lwz, Lwzu, Lbz, Lbzu, Stw, Stwu, Stb, Stbu, Lhz, Lhzu, Lha, Lhau, Sth, Sthu, Lmw, Stmw, Lfs, Lfsu, Lfd, Lfdu, Stfs, Stfsu, Stfd, Stfdu, Bclr, Rfi, Bcctr, Cmp, Cmpl, Lwzx, Mfspr, Mtspr, Or, Add, Subf, Subfc}
use Rattle.decoder.specs.contracts.Op.{the_type}
use Rattle.vm.specs.declared.Gpr.{Gpr}
use Rattle.step.specs.Arms.{access_of, effect_by}

-- the operations from Lwz to Stfdu, by number
abbrev pub accesses : List ℕ
accesses = 14 ∷ 15 ∷ 16 ∷ 17 ∷ 18 ∷ 19 ∷ 20 ∷ 21 ∷ 22 ∷ 23 ∷ 24 ∷ 25 ∷ 26 ∷ 27 ∷ 28 ∷ 29 ∷ 30 ∷ 31 ∷ 32 ∷ 33 ∷ 34 ∷ 35 ∷ 36 ∷ 37 ∷ []

pub access_arm : (o : Op) (ks : Writes) (ws : List ℕ) (at : SectionAddress) (w : ℕ) (gs ga gb : Gpr)
    → OneOf accesses (tag_of the_type o) → effect_by o ks ws at w gs ga gb ≡ access_of o ws at w ga
unfolding effect_by
access_arm Illegal ks ws at w gs ga gb h = absurd (miss accesses 0 tt h)
access_arm Other ks ws at w gs ga gb h = absurd (miss accesses 1 tt h)
access_arm Subfic ks ws at w gs ga gb h = absurd (miss accesses 2 tt h)
access_arm Cmpli ks ws at w gs ga gb h = absurd (miss accesses 3 tt h)
access_arm Cmpi ks ws at w gs ga gb h = absurd (miss accesses 4 tt h)
access_arm Addic ks ws at w gs ga gb h = absurd (miss accesses 5 tt h)
access_arm AddicDot ks ws at w gs ga gb h = absurd (miss accesses 6 tt h)
access_arm Addi ks ws at w gs ga gb h = absurd (miss accesses 7 tt h)
access_arm Addis ks ws at w gs ga gb h = absurd (miss accesses 8 tt h)
access_arm Bc ks ws at w gs ga gb h = absurd (miss accesses 9 tt h)
access_arm B ks ws at w gs ga gb h = absurd (miss accesses 10 tt h)
access_arm Rlwinm ks ws at w gs ga gb h = absurd (miss accesses 11 tt h)
access_arm Rlwnm ks ws at w gs ga gb h = absurd (miss accesses 12 tt h)
access_arm Ori ks ws at w gs ga gb h = absurd (miss accesses 13 tt h)
access_arm Lwz ks ws at w gs ga gb h = refl
access_arm Lwzu ks ws at w gs ga gb h = refl
access_arm Lbz ks ws at w gs ga gb h = refl
access_arm Lbzu ks ws at w gs ga gb h = refl
access_arm Stw ks ws at w gs ga gb h = refl
access_arm Stwu ks ws at w gs ga gb h = refl
access_arm Stb ks ws at w gs ga gb h = refl
access_arm Stbu ks ws at w gs ga gb h = refl
access_arm Lhz ks ws at w gs ga gb h = refl
access_arm Lhzu ks ws at w gs ga gb h = refl
access_arm Lha ks ws at w gs ga gb h = refl
access_arm Lhau ks ws at w gs ga gb h = refl
access_arm Sth ks ws at w gs ga gb h = refl
access_arm Sthu ks ws at w gs ga gb h = refl
access_arm Lmw ks ws at w gs ga gb h = refl
access_arm Stmw ks ws at w gs ga gb h = refl
access_arm Lfs ks ws at w gs ga gb h = refl
access_arm Lfsu ks ws at w gs ga gb h = refl
access_arm Lfd ks ws at w gs ga gb h = refl
access_arm Lfdu ks ws at w gs ga gb h = refl
access_arm Stfs ks ws at w gs ga gb h = refl
access_arm Stfsu ks ws at w gs ga gb h = refl
access_arm Stfd ks ws at w gs ga gb h = refl
access_arm Stfdu ks ws at w gs ga gb h = refl
access_arm Bclr ks ws at w gs ga gb h = absurd (miss accesses 38 tt h)
access_arm Rfi ks ws at w gs ga gb h = absurd (miss accesses 39 tt h)
access_arm Bcctr ks ws at w gs ga gb h = absurd (miss accesses 40 tt h)
access_arm Cmp ks ws at w gs ga gb h = absurd (miss accesses 41 tt h)
access_arm Cmpl ks ws at w gs ga gb h = absurd (miss accesses 42 tt h)
access_arm Lwzx ks ws at w gs ga gb h = absurd (miss accesses 43 tt h)
access_arm Mfspr ks ws at w gs ga gb h = absurd (miss accesses 44 tt h)
access_arm Mtspr ks ws at w gs ga gb h = absurd (miss accesses 45 tt h)
access_arm Or ks ws at w gs ga gb h = absurd (miss accesses 46 tt h)
access_arm Add ks ws at w gs ga gb h = absurd (miss accesses 47 tt h)
access_arm Subf ks ws at w gs ga gb h = absurd (miss accesses 48 tt h)
access_arm Subfc ks ws at w gs ga gb h = absurd (miss accesses 49 tt h)
