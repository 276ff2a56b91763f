-- A new state in words, and one register more of which something is known.
-- Assumes of a state what its type says (`Fits`).
use mathlib.Core.List.{List}
use mathlib.Core.Path.{◌≡◌, refl, ap, ◌∙◌}
use Prim.Native.Nat.{ℕ, ◌+◌, ◌*◌, ◌≤◌, ◌<◌}
use native.Mathlib.Omega.{arith}
use lib.ListN.{length, take, drop, replicate}
use lib.Seq.{take_all}
use Rattle.cells.proofs.CellLaws.{register_put, cells_long}
use Rattle.cells.specs.Cells.{Cells}
use Rattle.slot.proofs.BlankLaws.{none_known}
use Rattle.slot.proofs.SlotLaws.{state_length}
use Rattle.slot.specs.Fits.{Fits}
use Rattle.slot.specs.Layout.{state_size, register_words, state_words}
use Rattle.slot.specs.Put.{put, many}
use Rattle.vm.specs.Registers.{blank, no_cr, direct, reg, with_reg}
use Rattle.vm.specs.States.{fresh, keep_value}
use Rattle.vm.specs.declared.Gpr.{Gpr}
use Rattle.vm.specs.declared.VM.{VM}
use Rattle.clones.proofs.OverLaws.{put_inner}

-- a new state is all zeros
pub fresh_words : replicate state_size 0 ≡ state_words fresh
unfolding state_words many
fresh_words = refl

pub fresh_fits : Fits fresh
fresh_fits = record {
  gpr_count = refl;
  cr_count = refl;
  gprs = λ i h. rw (none_known blank 32 i) (omega arith);
  crs = λ i h. rw (none_known no_cr 8 i) (record { left = omega arith; right = omega arith });
  lr = omega arith;
  ctr = omega arith;
}

-- all the cells of a state
pub cells_whole : (ws : List ℕ) (s : VM) → Cells ws s → take state_size (drop 0 ws) ≡ state_words s
cells_whole ws s c = take_all state_size ws (omega (arith, cells_long c)) ∙ c.words

module _ (ws : List ℕ) (at : ℕ) (room : at + state_size ≤ length ws) where
  -- register i of a state that was written
  pub register_over : (t : VM) (i : ℕ) (g : Gpr) → Fits t → i < 32 → put (put ws at (state_words t)) (at + i * 8) (register_words g) ≡ put ws at (state_words (with_reg t i g))
  register_over t i g f h =
      put_inner ws at (state_words t) (i * 8) (register_words g) (omega (arith, state_length t)) (omega (arith, state_length t)) ∙ ap (put ws at) (register_put t i g f h)

  -- register i's value of s, without its places
  pub kept_over : (t s : VM) (i : ℕ) (us vs : List ℕ) → Fits t → i < 32 → us ≡ put ws at (state_words t)
      → vs ≡ put us (at + i * 8) (register_words (direct (reg s i).value)) → vs ≡ put ws at (state_words (keep_value t s i))
  kept_over t s i us vs f h u v =
      let g : Gpr = direct (reg s i).value in
      v ∙ ap (λ (l : List ℕ). put l (at + i * 8) (register_words g)) u ∙ register_over t i g f h
