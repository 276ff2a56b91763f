-- Records that say nothing are read into a new state without a store.
-- Assumes nothing.
use mathlib.Core.Bool.{true, ◌&&◌}
use mathlib.Core.List.{List}
use mathlib.Core.Path.{◌≡◌, refl, ap, sym, subst, ◌∙◌}
use Prim.Native.Nat.{ℕ, zero, suc, ◌+◌, ◌<◌}
use lib.Dec.{eqb}
use lib.ListN.{length, get_or, set, take, replicate}
use lib.Seq.{set-get_or}
use borrow.Author.Tests.{eqb-true}
use Rattle.search.proofs.EveryLaws.{and_left, and_right}
use Rattle.vm.specs.Registers.{blank, no_cr}
use Rattle.slot.specs.Layout.{register_at, compare_at}
use Rattle.slot.specs.Put.{listed}
use Rattle.slot.specs.Values.{value_of}
use Rattle.slot.proofs.PutLaws.{listed_more}

module _ {A : Type 0} (d : A) where
  -- a new state's records, past their end too
  pub none_known : (n k : ℕ) → get_or (replicate n d) k d ≡ d
  none_known zero k = refl
  none_known (suc n) zero = refl
  none_known (suc n) (suc k) = none_known n k

  -- what is to be read stands there already
  pub listed_kept : (f : ℕ → A) (rs : List A) (i : ℕ) → i < length rs → f i ≡ d → get_or rs i d ≡ d → take i rs ≡ listed f i → take (i + 1) rs ≡ listed f (i + 1)
  listed_kept f rs i h b e l = subst (λ (z : List A). take (i + 1) z ≡ listed f (i + 1)) (ap (set rs i) (b ∙ sym e) ∙ set-get_or rs i d) (listed_more f rs i h l)

-- a register whose first word is 0 is blank
pub blank_read : (ws : List ℕ) (at : ℕ) → get_or ws at 0 ≡ 0 → register_at ws at ≡ blank
unfolding value_of
blank_read ws at h = rw h

-- a compare record whose first words of both sides are 0 is none
pub unset_read : (ws : List ℕ) (at : ℕ) → (eqb (get_or ws at 0) 0 && eqb (get_or ws (at + 4) 0) 0) ≡ true → compare_at ws at ≡ no_cr
unfolding value_of
unset_read ws at h =
    rw (eqb-true (get_or ws at 0) 0 (and_left (eqb (get_or ws at 0) 0) (eqb (get_or ws (at + 4) 0) 0) h), eqb-true (get_or ws (at + 4) 0) 0 (and_right (eqb (get_or ws at 0) 0) (eqb (get_or ws (at + 4) 0) 0) h))
