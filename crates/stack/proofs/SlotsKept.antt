-- A slot whose words are kept holds what it held.
-- Assumes that the two lists of words are equally long.
use mathlib.Core.List.{List}
use mathlib.Core.Path.{◌≡◌, ap, ◌∙◌}
use Prim.Native.Nat.{ℕ}
use lib.ListN.{length}
use Rattle.places.specs.declared.SectionAddress.{SectionAddress}
use Rattle.slot.proofs.SameLaws.{Agree, place_same, state_same, slot_same}
use Rattle.slot.specs.Layout.{slot_size, place_in, state_in, is_slot}
use Rattle.vm.specs.declared.VM.{VM}
use Rattle.stack.specs.Stack.{Entry, slot_at, entry_at, place_key, slot_key}

module _ (ws vs : List ℕ) (same : length vs ≡ length ws) (k : ℕ) (kept : Agree ws vs (slot_at ws k) slot_size) where
  slot_there : slot_at vs k ≡ slot_at ws k
  slot_there = rw same

  pub place_kept : place_in vs (slot_at vs k) ≡ place_in ws (slot_at ws k)
  place_kept = ap (place_in vs) slot_there ∙ place_same ws vs (slot_at ws k) kept

  pub key_kept : slot_key vs k ≡ slot_key ws k
  key_kept = ap place_key place_kept

  state_kept : state_in vs (slot_at vs k) ≡ state_in ws (slot_at ws k)
  state_kept = ap (state_in vs) slot_there ∙ state_same ws vs (slot_at ws k) kept

  pub entry_kept : entry_at vs k ≡ entry_at ws k
  entry_kept =
      ap (λ (p : SectionAddress). mk p (state_in vs (slot_at vs k))) place_kept ∙ ap (mk (place_in ws (slot_at ws k))) state_kept
    where
      mk : SectionAddress → VM → Entry
      mk p s = record { place = p; state = s }

  pub slot_kept : is_slot vs (slot_at vs k) ≡ is_slot ws (slot_at ws k)
  slot_kept = ap (is_slot vs) slot_there ∙ slot_same ws vs (slot_at ws k) kept
