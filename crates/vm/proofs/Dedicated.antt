-- The dedicated registers of a new state, which a loop over all registers has filled up to some place.
-- Assumes nothing.
use mathlib.Core.Bool.{Bool, true, false, ◌||◌}
use mathlib.Core.List.{List}
use Prim.Native.Nat.{ℕ, zero, suc}
use lib.Dec.{eqb}
use lib.ListN.{set, get_or, replicate}
use Rattle.words.specs.Choice.{pick}
use Rattle.vm.specs.declared.Gpr.{Gpr}
use Rattle.vm.specs.Registers.{blank, direct}

abbrev pub asked : Bool → ℕ → Bool
asked one i = pick (eqb i 1) one (eqb i 2 || eqb i 13)

-- register i's value, where it is asked for
abbrev pub kept_at : Bool → ℕ → List Gpr → List Gpr → List Gpr
kept_at true i from l = set l i (direct (get_or from i blank).value)
kept_at false i from l = l

abbrev pub kept_to : Bool → List Gpr → ℕ → List Gpr
kept_to one from zero = replicate 32 blank
kept_to one from (suc i) = kept_at (asked one i) i from (kept_to one from i)
