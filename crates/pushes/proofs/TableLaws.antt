-- A table that is asked for: it is told as read or not, and its entries are pushed.
-- Assumes words that hold a stack, and an entry buffer of the walk's length.
use Prim.Native.Nat.{ℕ, ◌≤◌}
use mathlib.Core.Path.{◌≡◌, refl, sym, ◌∙◌}
use mathlib.Core.Bool.{false, not}
use mathlib.Core.List.{List, []}
use lib.Dec.{eqb}
use lib.ListN.{length}
use Rattle.places.specs.declared.SectionAddress.{SectionAddress}
use Rattle.places.specs.declared.RelocationTarget.TheVariants as target
use Rattle.vm.specs.declared.VM.{VM}
use Rattle.stack.specs.Stack.{Stack, room}
use Rattle.jump_tables.specs.declared.Table.{Table}
use Rattle.jump_tables.specs.declared.TableError.{TableError}
use Rattle.jump_tables.specs.declared.TableError.TheVariants as error
use Rattle.jump_tables.specs.Tables.{Outcome, error_number, count_of, table_in}
use Rattle.turns.specs.Turns.{push_each}
use Rattle.turns.specs.Histories.{one}
use Rattle.turns.specs.Moves.{Asked, is_read, size_in, asked_of, look_at, ground_of, table_room}
use Rattle.turns.proofs.Leavings.{pushes_none}
use Rattle.turns.proofs.PileLaws.{piles_none, piles_asked, piles_table}
use Rattle.pushes.specs.declared.Taken.{Taken}
use Rattle.pushes.specs.Takes.{none, unread, PushedKeys, TakenTable}
use Rattle.pushes.proofs.PlaceLaws.{keys_start, keys_done}
use Rattle.turns.proofs.SoundGround.{table_few}
use Rattle.std.specs.Prelude.{Result, Ok, Err, Option}

-- a table has no more entries than room
pub entries_fit : (ws bs : List ℕ) (p : SectionAddress) (size : ℕ) (from : SectionAddress) (upto : Option SectionAddress) (n : ℕ) {r : Result Table TableError} {t : Table}
    → r ≡ (table_in ws bs p size from upto n).table → r ≡ Ok t → t.count ≤ n
entries_fit ws bs p size from upto n e f = rw (← e, f) at (table_few ws bs p size from upto n)

-- a refusal's number is not 0
refused_not_read : (e : TableError) → eqb (error_number e) 0 ≡ false
refused_not_read error.Broken = refl
refused_not_read error.RelocationError = refl
refused_not_read error.Ragged = refl
refused_not_read error.PointsNowhere = refl
refused_not_read error.Full = refl

module _ (ws bs : List ℕ) (from : SectionAddress) (upto : Option SectionAddress) (words : List ℕ) (n : ℕ) (buffer : List ℕ) (st : Stack words n) (size : Option ℕ) (s : VM) where
  -- External: not read, and the buffer stays
  pub taken_external : TakenTable ws bs from upto words n buffer target.External size s words buffer (unread n)
  unfolding look_at
  taken_external p =
      let g = ground_of ws bs from upto (room (length words)) in
      let a : Asked = asked_of target.External size in
      piles_table g p a s (piles_asked ws bs from upto (room (length words)) refl st p a (look_at ws bs from upto a) refl false refl)
      (piles_none (push_each g s []) (λ l. pushes_none g s _) st)

  -- an outcome, and its entries pushed
  module _ (p : SectionAddress) {words' : List ℕ} {k : Taken} where
    taken_outcome : (o : Outcome) → o ≡ look_at ws bs from upto (asked_of (target.Address p) size) → PushedKeys ws words n o.keys (count_of o.table) s words' k
        → TakenTable ws bs from upto words n buffer (target.Address p) size s words' o.keys (record { held = k.held; full = k.full; read = one (is_read o); not_read = one (not (is_read o)) })
    taken_outcome o e h at =
        let g = ground_of ws bs from upto (room (length words)) in
        let a : Asked = asked_of (target.Address p) size in
        piles_table g at a s (piles_asked ws bs from upto (room (length words)) refl st at a o e (is_read o) refl)
        (rw (← e) (h.piles bs from upto o.keys))

    -- a table that was read
    pub taken_read : {m : ℕ} {r : Result Table TableError} {t : Table} {buffer' : List ℕ} → length buffer ≡ table_room → m ≡ size_in size
        → r ≡ (table_in ws bs p m from upto (length buffer)).table → buffer' ≡ (table_in ws bs p m from upto (length buffer)).keys → r ≡ Ok t
        → PushedKeys ws words n buffer' t.count s words' k
        → TakenTable ws bs from upto words n buffer (target.Address p) size s words' buffer' (record { held = k.held; full = k.full; read = 1; not_read = k.not_read })
    unfolding look_at
    taken_read {m} {r} {t} {buffer'} l z a b e h =
        let o : Outcome = table_in ws bs p m from upto (length buffer) in
        let same : o ≡ look_at ws bs from upto (asked_of (target.Address p) size) = rw (z, l) in
        let is : o.table ≡ Ok t = sym a ∙ e in
        let h' : PushedKeys ws words n o.keys (count_of o.table) s words' k = rw (is, ← b) h in
        rw (b, h.not_read) (rw is at (taken_outcome o same h'))

  -- one that was refused has no entries
  pub taken_unread : (p : SectionAddress) {m : ℕ} {r : Result Table TableError} {e : TableError} {buffer' : List ℕ} → length buffer ≡ table_room → m ≡ size_in size
      → r ≡ (table_in ws bs p m from upto (length buffer)).table → buffer' ≡ (table_in ws bs p m from upto (length buffer)).keys → r ≡ Err e
      → TakenTable ws bs from upto words n buffer (target.Address p) size s words buffer' (unread n)
  unfolding look_at
  taken_unread p {m} {r} {e} {buffer'} l z a b f =
      let o : Outcome = table_in ws bs p m from upto (length buffer) in
      let same : o ≡ look_at ws bs from upto (asked_of (target.Address p) size) = rw (z, l) in
      let is : o.table ≡ Err e = sym a ∙ f in
      let h : PushedKeys ws words n o.keys (count_of o.table) s words (none n) = rw is (keys_done ws words n o.keys s (keys_start ws words n o.keys s st) 0 (none n) refl refl) in
      let unread : is_read o ≡ false = rw is (refused_not_read e) in
      rw b (rw unread at (taken_outcome p o same h))
