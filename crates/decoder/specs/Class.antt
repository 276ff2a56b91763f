-- The classes of operations, each the list that the Rust has.
-- Assumes nothing.
use Rattle.std.specs.Prelude.{ℕ, Bool, false, ◌||◌, List, [], ◌∷◌, eqb}
use Rattle.decoder.specs.Ops.{number_of}
use Rattle.decoder.specs.declared.Op.{Op}
use Rattle.decoder.specs.declared.Op.TheVariants.{Lbz, Lbzu, Lha, Lhau, Lhz, Lhzu, Lmw, Lwz, Lwzu, Lfd, Lfdu, Lfs, Lfsu, Stb, Stbu, Sth, Sthu, Stmw, Stw, Stwu, Stfd, Stfdu, Stfs, Stfsu}

-- whether n is the number of one of these operations
abbrev pub among : List Op → ℕ → Bool
among [] n = false
among (o ∷ os) n = (eqb (number_of o) n) || (among os n)

abbrev pub loads : List Op
loads = Lbz ∷ Lbzu ∷ Lha ∷ Lhau ∷ Lhz ∷ Lhzu ∷ Lmw ∷ Lwz ∷ Lwzu ∷ []

abbrev pub float_loads : List Op
float_loads = Lfd ∷ Lfdu ∷ Lfs ∷ Lfsu ∷ []

abbrev pub stores : List Op
stores = Stb ∷ Stbu ∷ Sth ∷ Sthu ∷ Stmw ∷ Stw ∷ Stwu ∷ []

abbrev pub float_stores : List Op
float_stores = Stfd ∷ Stfdu ∷ Stfs ∷ Stfsu ∷ []

abbrev pub updates : List Op
updates = Lbzu ∷ Lfdu ∷ Lfsu ∷ Lhau ∷ Lhzu ∷ Lwzu ∷ Stbu ∷ Stfdu ∷ Stfsu ∷ Sthu ∷ Stwu ∷ []

abbrev pub is_load : Op → Bool
is_load o = among loads (number_of o)

abbrev pub is_loadf : Op → Bool
is_loadf o = among float_loads (number_of o)

abbrev pub is_store : Op → Bool
is_store o = among stores (number_of o)

abbrev pub is_storef : Op → Bool
is_storef o = among float_stores (number_of o)

abbrev pub is_load_store : Op → Bool
is_load_store o = is_load o || is_loadf o || is_store o || is_storef o

abbrev pub is_update : Op → Bool
is_update o = among updates (number_of o)
