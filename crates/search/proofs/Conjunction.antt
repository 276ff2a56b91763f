-- A chain of tests, `a && b && c && ..`: each of them holds where the chain does.
-- Assumes nothing.
use mathlib.Core.Path.{◌≡◌, refl}
use mathlib.Core.Bool.{Bool, true, ◌&&◌}
use mathlib.Core.List.{List, [], ◌∷◌}
use Prim.Native.Nat.{ℕ, zero, suc}
use lib.ListN.{get_or}
use Rattle.search.proofs.EveryLaws.{and_left, and_right}

-- the chain that begins with a and goes on with the tests of a list
abbrev pub chain : Bool → List Bool → Bool
chain a [] = a
chain a (b ∷ bs) = chain (a && b) bs

pub chain_first : (a : Bool) (bs : List Bool) → chain a bs ≡ true → a ≡ true
chain_first a [] e = e
chain_first a (b ∷ bs) e = and_left a b (chain_first (a && b) bs e)

pub chain_at : (a : Bool) (bs : List Bool) (i : ℕ) → chain a bs ≡ true → get_or bs i true ≡ true
chain_at a [] i e = refl
chain_at a (b ∷ bs) zero e = and_right a b (chain_first (a && b) bs e)
chain_at a (b ∷ bs) (suc i) e = chain_at (a && b) bs i e
