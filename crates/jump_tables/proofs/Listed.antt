-- A table that is read lists exactly its targets, strictly ascending, and zeros after them; a refused one leaves zeros alone.
-- Assumes nothing.
use Prim.Native.Nat.{ℕ, ◌*◌, ◌≤◌}
use mathlib.Core.Path.{◌≡◌, refl, sym, subst}
use mathlib.Core.Bool.{Bool, true, false}
use mathlib.Core.List.{List, []}
use native.Mathlib.Omega.{arith}
use borrow.Author.Tests.{leb-true}
use lib.ListN.{length, replicate}
use lib.Dec.{leb}
use Rattle.std.specs.Prelude.{Option, Some, None, Result, Ok, Err}
use Rattle.words.specs.Choice.{pick}
use Rattle.jump_tables.specs.declared.Reading.{Reading}
use Rattle.jump_tables.specs.declared.Table.{Table}
use Rattle.jump_tables.specs.declared.TableError.{TableError}
use Rattle.jump_tables.specs.declared.TableError.TheVariants as error
use Rattle.jump_tables.specs.Keys.{Ascending}
use Rattle.jump_tables.specs.Tables.{count_of, bytes_of, verdict, entries_of, Outcome, refused, filled, fitted, on_verdict, read_off}
use Rattle.jump_tables.proofs.EntrySet.{In, Target, entries_ascend, every_target_is_an_entry, every_entry_is_a_target}
use Rattle.jump_tables.proofs.Corners.{fitting_is_read}

pub record Listed (rs : List Reading) (room : ℕ) (o : Outcome) : Type 0 where
  pub entries : List ℕ
  pub ascending : Ascending entries
  pub targets_in : (x : ℕ) → Target rs x → In x entries
  pub only_targets : (x : ℕ) → In x entries → Target rs x
  pub fits : length entries ≤ room
  pub table : o.table ≡ Ok (record { count = length entries; size = length rs * 4 })
  pub buffer : o.keys ≡ filled entries room

-- the answer is Ok only where no reading is bad, and the entries fit
error_not_ok : {A : Type 0} (e : TableError) (t : Table) → ◌≡◌ {A = Result Table TableError} (Err e) (Ok t) → A
error_not_ok e t q = let z : ◌≡◌ {A = ℕ} 0 1 = cc in absurd (omega arith)

none_bad : (v : Option TableError) (o : Outcome) (room : ℕ) (t : Table) → (on_verdict v o room).table ≡ Ok t → v ≡ None
none_bad None o room t e = refl
none_bad (Some b) o room t e = error_not_ok b t e

fits_of : (b : Bool) (o : Outcome) (room : ℕ) (t : Table) → (pick b o (refused error.Full room)).table ≡ Ok t → b ≡ true
fits_of true o room t e = refl
fits_of false o room t e = error_not_ok error.Full t e

pub read_lists_targets : (rs : List Reading) (room : ℕ) (t : Table) → (read_off rs room).table ≡ Ok t → Listed rs room (read_off rs room)
unfolding read_off
read_lists_targets rs room t e =
    let ks = entries_of rs [] in
    let v : verdict rs ≡ None = none_bad (verdict rs) (fitted ks (length rs * 4) room) room t e in
    let whole : Outcome = record { table = Ok (record { count = length ks; size = length rs * 4 }); keys = filled ks room } in
    let fits = leb-true (length ks) room (fits_of (leb (length ks) room) whole room t (rw v at e)) in
    subst (Listed rs room) (sym (fitting_is_read rs room v fits))
    (record {
      entries = ks;
      ascending = entries_ascend rs;
      targets_in = every_target_is_an_entry rs;
      only_targets = every_entry_is_a_target rs;
      fits = fits;
      table = refl;
      buffer = refl;
    })

-- refused: no entries, size 0, zeros
pub record Zeros (room : ℕ) (o : Outcome) : Type 0 where
  pub count : count_of o.table ≡ 0
  pub size : bytes_of o.table ≡ 0
  pub buffer : o.keys ≡ replicate room 0

pub refused_leaves_zeros : (e : TableError) (room : ℕ) → Zeros room (refused e room)
refused_leaves_zeros e room = record { count = refl; size = refl; buffer = refl }

by_fit : (b : Bool) (t : Table) (ks : List ℕ) (room : ℕ) (e : TableError)
    → (pick b (record { table = Ok t; keys = ks }) (refused error.Full room)).table ≡ Err e
    → Zeros room (pick b (record { table = Ok t; keys = ks }) (refused error.Full room))
by_fit true t ks room e q = error_not_ok e t (sym q)
by_fit false t ks room e q = refused_leaves_zeros error.Full room

by_verdict : (v : Option TableError) (rs : List Reading) (room : ℕ) (e : TableError)
    → (on_verdict v (fitted (entries_of rs []) (length rs * 4) room) room).table ≡ Err e
    → Zeros room (on_verdict v (fitted (entries_of rs []) (length rs * 4) room) room)
by_verdict None rs room e q = by_fit (leb (length (entries_of rs [])) room) _ _ room e q
by_verdict (Some b) rs room e q = refused_leaves_zeros b room

pub not_read_leaves_zeros : (rs : List Reading) (room : ℕ) (e : TableError) → (read_off rs room).table ≡ Err e → Zeros room (read_off rs room)
unfolding read_off
not_read_leaves_zeros rs room e q = by_verdict (verdict rs) rs room e q
