-- A held state's words are those of a state that fits, so they are its cells.
-- Assumes a stack.
use mathlib.Core.List.{List}
use mathlib.Core.Path.{◌≡◌, sym, ◌∙◌}
use Prim.Native.Nat.{ℕ, ◌+◌, ◌≤◌, ◌<◌}
use native.Mathlib.Omega.{arith}
use lib.ListN.{length, take, drop, length-drop}
use lib.Seq.{ext_get_or, get_or-take, get_or-drop, length-take-le}
use Rattle.cells.specs.Cells.{Cells}
use Rattle.slot.proofs.PutLaws.{Holds, holds_right}
use Rattle.slot.proofs.SlotLaws.{slot_only, state_fits, state_length}
use Rattle.slot.specs.Layout.{slot_size, state_size, place_words, state_words, place_in, state_in}
use Rattle.vm.specs.declared.VM.{VM}
use Rattle.stack.specs.Stack.{room, slot_at, order_at, held_at, Stack}
use Rattle.stack.proofs.RoomLaws.{room_fits}

-- words that stand there are what is taken from there
holds_taken : (ws : List ℕ) (at n : ℕ) (l : List ℕ) → length l ≡ n → at + n ≤ length ws → Holds ws at l → take n (drop at ws) ≡ l
unfolding Holds
holds_taken ws at n l e h k =
    let t : length (take n (drop at ws)) ≡ n = length-take-le n (drop at ws) (omega (arith, length-drop at ws)) in
    ext_get_or 0 (take n (drop at ws)) l (t ∙ sym e) (λ i m. get_or-take n (drop at ws) i 0 (omega arith) ∙ get_or-drop at ws i 0 ∙ k i (omega arith))

module _ (ws : List ℕ) (n : ℕ) (st : Stack ws n) (i : ℕ) (held : i < n) where
  -- a held state's number is in the table, its slot inside the words
  pub held_low : i < room (length ws)
  held_low = omega (arith, st.count, st.within)

  pub slot_low : order_at ws i < room (length ws)
  slot_low = omega (arith, st.named i (omega (arith, st.count)), st.within)

  pub slot_inside : slot_at ws (order_at ws i) + slot_size ≤ length ws
  slot_inside = omega (arith, room_fits (length ws) i held_low, slot_low)

  pub held_cells : Cells (take state_size (drop (slot_at ws (order_at ws i) + 2) ws)) (held_at ws i).state
  held_cells =
      let at : ℕ = slot_at ws (order_at ws i) in
      let s : VM = state_in ws at in
      let h : Holds ws (at + 2) (state_words s) = holds_right ws at (place_words (place_in ws at)) (state_words s) (slot_only ws at (st.slots i held)) in
      record { words = holds_taken ws (at + 2) state_size (state_words s) (state_length s) (omega (arith, slot_inside)) h; fits = state_fits ws (at + 2) }
