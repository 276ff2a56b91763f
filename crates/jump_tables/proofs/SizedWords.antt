-- A sized table passes every word of its clamped size: none of them stops, so nothing is cut silently.
-- Assumes nothing.
use Rattle.std.specs.Prelude.{Some, None, Ok, Err, Option}
use Prim.Native.Nat.{ℕ, zero, suc, ◌+◌, ◌*◌, ◌/◌, ◌^◌, ◌≤◌, ◌<◌}
use mathlib.Core.Path.{◌≡◌, refl, ap}
use mathlib.Core.Bool.{Bool, true, false}
use mathlib.Core.List.{List, [], ◌∷◌}
use native.Mathlib.Omega.{arith}
use lib.ListN.{length}
use lib.Dec.{eqb}
use Rattle.words.specs.Choice.{pick}
use Rattle.words.specs.Bytes.{be32}
use Rattle.places.specs.declared.SectionAddress.{SectionAddress}
use Rattle.places.specs.declared.RelocationTarget.TheVariants.{External, Address}
use Rattle.image.specs.Rules.{tables_sound, data_inside}
use Rattle.lookups.specs.declared.Wanted.TheVariants.{Absolute}
use Rattle.lookups.specs.Relocations.{relocation_for}
use Rattle.lookups.specs.Bytes.{data_from, word_at}
use Rattle.jump_tables.specs.declared.How.TheVariants.{Sized}
use Rattle.jump_tables.specs.declared.Reading.{Reading}
use Rattle.jump_tables.specs.declared.Reading.TheVariants.{Stopped, Skipped, Faulty, Nowhere, Entry}
use Rattle.jump_tables.specs.Readings.{on_relocation, on_entry, bare_entry, sized_target, sized_word, sized_reading}
use Rattle.jump_tables.specs.Tables.{on_stop, passed, word_place, word_reading, words_passed, Fitting, clamped_size, is_table}
use Rattle.jump_tables.proofs.TablePlaces.{word_there}
use Rattle.lookups.specs.Relocations.{Relocation}

-- a reading that does not stop
pub data Passes : Reading → Type 0 where
  skipped : Passes Skipped
  faulty : Passes Faulty
  nowhere : Passes Nowhere
  entry : {t : SectionAddress} → Passes (Entry t)

bare_case : (b : Bool) (m : Option SectionAddress) → Passes (pick b Skipped (on_entry m Nowhere Entry))
bare_case true m = Passes.skipped
bare_case false None = Passes.nowhere
bare_case false (Some t) = Passes.entry

by_relocation : (ws bs : List ℕ) (q : SectionAddress) (v : ℕ) → word_at ws bs q ≡ Some v → (r : Relocation) → Passes (on_relocation r (sized_word ws (word_at ws bs q)) sized_target)
by_relocation ws bs q v e (Ok None) = rw e (bare_case (eqb v 0) (bare_entry ws v))
by_relocation ws bs q v e (Err why) = Passes.faulty
by_relocation ws bs q v e (Ok (Some External)) = Passes.nowhere
by_relocation ws bs q v e (Ok (Some (Address t))) = Passes.entry

pub sized_never_stops : (ws bs : List ℕ) (p : SectionAddress) (n k : ℕ) → tables_sound ws ≡ true → data_inside ws (length bs) ≡ true → is_table ws p ≡ true
    → k < clamped_size ws p n / 4 → Passes (sized_reading ws bs (word_place p k))
unfolding sized_reading
sized_never_stops ws bs p n k s d t h =
    let e = word_there ws bs p (p.address + k * 4) s d t (omega arith) (omega arith) in
    by_relocation ws bs (word_place p k) (be32 (data_from ws bs (word_place p k)) 0) e (relocation_for ws (word_place p k) Absolute)

-- all n words are passed where none stops
pass_case : (r : Reading) (rs : List Reading) (n : ℕ) → Passes r → length rs ≡ n → length (on_stop r [] (r ∷ rs)) ≡ suc n
pass_case Skipped rs n Passes.skipped e = ap suc e
pass_case Faulty rs n Passes.faulty e = ap suc e
pass_case Nowhere rs n Passes.nowhere e = ap suc e
pass_case (Entry t) rs n Passes.entry e = ap suc e
pass_case Stopped rs n x'' e = elim x'' [ ]

pub all_passed : (f : ℕ → Reading) (n i : ℕ) → ((k : ℕ) → i ≤ k → k < i + n → Passes (f k)) → length (passed f n i) ≡ n
unfolding passed
all_passed f zero i h = refl
all_passed f (suc n) i h = pass_case (f i) (passed f n (suc i)) n (h i (omega arith) (omega arith)) (all_passed f n (suc i) (λ k l m. h k (omega arith) (omega arith)))

pub sized_passes_all : (ws bs : List ℕ) (p : SectionAddress) (n : ℕ) → tables_sound ws ≡ true → data_inside ws (length bs) ≡ true → is_table ws p ≡ true
    → length (words_passed ws bs Sized p (clamped_size ws p n / 4)) ≡ clamped_size ws p n / 4
sized_passes_all ws bs p n s d t =
    all_passed (word_reading ws bs Sized p) (clamped_size ws p n / 4) 0 (λ k l m. sized_never_stops ws bs p n k s d t (omega arith))

-- never more than asked for
few_case : (r : Reading) (rs : List Reading) (n : ℕ) → length rs ≤ n → length (on_stop r [] (r ∷ rs)) ≤ suc n
few_case Stopped rs n e = omega arith
few_case Skipped rs n e = omega arith
few_case Faulty rs n e = omega arith
few_case Nowhere rs n e = omega arith
few_case (Entry t) rs n e = omega arith

pub few_passed : (f : ℕ → Reading) (n i : ℕ) → length (passed f n i) ≤ n
unfolding passed
few_passed f zero i = omega arith
few_passed f (suc n) i = few_case (f i) (passed f n (suc i)) n (few_passed f n (suc i))

-- so the words of a sized table fit, and its size too
pub sized_fits : (ws bs : List ℕ) (p : SectionAddress) (size : ℕ) → p.address + size < 2 ^ 32 → Fitting ws bs Sized p (size / 4)
sized_fits ws bs p size h =
    record { places = omega arith; size = λ v. omega (arith, few_passed (word_reading ws bs Sized p) (size / 4) 0) }
