-- The words of the state are copied from where the table's last number says.
use mathlib.Core.List.{List}
use mathlib.Core.Path.{◌≡◌, sym, ap, ◌∙◌}
use Prim.Native.Nat.{ℕ, ◌+◌, ◌-◌}
use native.Mathlib.Omega.{arith}
use lib.ListN.{length, get_or, take, drop}
use Rattle.cells.proofs.CellLaws.{cells_long}
use Rattle.slot.proofs.PutLaws.{put_whole}
use Rattle.slot.specs.Layout.{state_size}
use Rattle.slot.specs.Put.{put}
use Rattle.stack.specs.Stack.{slot_at, order_at}
use Rattle.stack.proofs.RoomLaws.{room_fits}
use Rattle.stack.proofs.TopLaws.{held_low, slot_inside, held_cells}
use Rattle.stack.proofs.top_cells.Goals as goal

pub bounds-words-count : goal.bounds-words-count
bounds-words-count c = omega (arith, c.requires.1, room_fits (length c.args.words.now) _ (held_low c.args.words.now c.args.count c.requires.0 (c.args.count - 1) (omega (arith, c.requires.1))))

pub overflow_add-at : goal.overflow_add-at
overflow_add-at c =
    let e : 1 + c.args.count ≡ 2 + (c.args.count - 1) = omega (arith, c.requires.1) in
    omega (arith, c.slot_at-at.ensures, ap (λ (i : ℕ). get_or c.args.words.now i 0) e, slot_inside c.args.words.now c.args.count c.requires.0 (c.args.count - 1) (omega (arith, c.requires.1)))

pub copy-requires : goal.copy-requires
copy-requires c =
    let e : 1 + c.args.count ≡ 2 + (c.args.count - 1) = omega (arith, c.requires.1) in
    (omega (arith, c.requires.2), omega (arith, c.slot_at-at.ensures, ap (λ (i : ℕ). get_or c.args.words.now i 0) e, slot_inside c.args.words.now c.args.count c.requires.0 (c.args.count - 1) (omega (arith, c.requires.1))))

pub returns : goal.returns
returns c =
    let ws : List ℕ = c.args.words.now in
    let n : ℕ = c.args.count in
    let e : 1 + n ≡ 2 + (n - 1) = omega (arith, c.requires.1) in
    let at : c.slot_at-at.result ≡ slot_at ws (order_at ws (n - 1)) = c.slot_at-at.ensures ∙ ap (λ (i : ℕ). slot_at ws (get_or ws i 0)) e in
    let h = held_cells ws n c.requires.0 (n - 1) (omega (arith, c.requires.1)) in
    let l : List ℕ = take state_size (drop (slot_at ws (order_at ws (n - 1)) + 2) ws) in
    let whole : c.copy.new.to ≡ l =
    c.copy.ensures
    ∙ ap (λ (j : ℕ). put c.args.cells.now 0 (take state_size (drop (j + 2) ws))) at
    ∙ put_whole c.args.cells.now l (c.requires.2 ∙ sym (cells_long h)) in
    record { words = whole ∙ h.words; fits = h.fits }
