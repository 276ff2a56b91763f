-- A table's outcome depends on the data only through the words examined, the stopping one included.
-- Assumes nothing.
use Prim.Native.Nat.{ℕ, zero, suc, ◌+◌, ◌-◌, ◌*◌, ◌/◌, ◌%◌, ◌≤◌, ◌<◌}
use mathlib.Core.Path.{◌≡◌, refl, ap}
use mathlib.Core.Bool.{Bool, true, false}
use mathlib.Core.List.{List, [], ◌∷◌}
use native.Mathlib.Omega.{arith}
use lib.ListN.{length}
use lib.Dec.{eqb}
use Rattle.std.specs.Prelude.{Option, Some, None}
use Rattle.words.specs.Choice.{pick}
use Rattle.places.specs.declared.SectionAddress.{SectionAddress}
use Rattle.image.specs.Layout.{section_at}
use Rattle.image.specs.Rules.{end_of}
use Rattle.lookups.specs.Bytes.{word_at}
use Rattle.jump_tables.specs.declared.How.{How}
use Rattle.jump_tables.specs.declared.How.TheVariants.{Sized, Guessed}
use Rattle.jump_tables.specs.declared.Reading.{Reading}
use Rattle.jump_tables.specs.declared.Reading.TheVariants.{Stopped, Skipped, Faulty, Nowhere, Entry}
use Rattle.jump_tables.specs.declared.TableError.{TableError}
use Rattle.jump_tables.specs.declared.TableError.TheVariants as error
use Rattle.jump_tables.specs.Readings.{sized_reading, guessed_reading, reading_of}
use Rattle.jump_tables.specs.Tables.{on_stop, passed, verdict, Outcome, on_verdict, fitted, entries_of, read_off, word_place, word_reading, words_passed, clamped_size, size_of, is_table, sized_table, guessed_table, table_in}
use Rattle.jump_tables.specs.Examined.{on_good, examined, words_examined}

-- readings with one outcome: the same verdict, and all the same where none is bad
record Alike (rs qs : List Reading) : Type 0 where
  verdicts : verdict rs ≡ verdict qs
  readings : verdict rs ≡ None → rs ≡ qs

bad_not_none : {A : Type 0} (b : TableError) → Some b ≡ None → A
bad_not_none b e = let z : ◌≡◌ {A = ℕ} 0 1 = cc in absurd (omega arith)

one_more : (r : Reading) (rs qs : List Reading) (m : ℕ) → (on_good r m ≡ m → Alike rs qs) → Alike (on_stop r [] (r ∷ rs)) (on_stop r [] (r ∷ qs))
unfolding verdict
one_more Stopped rs qs m h = record { verdicts = refl; readings = λ v. refl }
one_more Skipped rs qs m h = let t = h refl in record { verdicts = t.verdicts; readings = λ v. ap (λ (l : List Reading). Skipped ∷ l) (t.readings v) }
one_more Faulty rs qs m h = record { verdicts = refl; readings = λ v. bad_not_none error.RelocationError v }
one_more Nowhere rs qs m h = record { verdicts = refl; readings = λ v. bad_not_none error.PointsNowhere v }
one_more (Entry t) rs qs m h = let a = h refl in record { verdicts = a.verdicts; readings = λ v. ap (λ (l : List Reading). Entry t ∷ l) (a.readings v) }

alike : (f g : ℕ → Reading) (n i : ℕ) → ((k : ℕ) → i ≤ k → k < i + examined f n i → f k ≡ g k) → Alike (passed f n i) (passed g n i)
unfolding passed examined
alike f g zero i h = record { verdicts = refl; readings = λ v. refl }
alike f g (suc n) i h =
    rw (← h i (omega arith) (omega arith))
    (one_more (f i) (passed f n (suc i)) (passed g n (suc i)) (examined f n (suc i))
    (λ z. alike f g n (suc i) (λ k l m. h k (omega arith) (omega arith))))

by_verdict : (a : Option TableError) (o q : Outcome) (room : ℕ) → (a ≡ None → o ≡ q) → on_verdict a o room ≡ on_verdict a q room
by_verdict None o q room h = h refl
by_verdict (Some e) o q room h = refl

pub outcome_by_examined : (f g : ℕ → Reading) (n room : ℕ) → ((k : ℕ) → k < examined f n 0 → f k ≡ g k) → read_off (passed f n 0) room ≡ read_off (passed g n 0) room
unfolding read_off
outcome_by_examined f g n room h =
    let a = alike f g n 0 (λ k l m. h k (omega arith)) in
    let rs = passed f n 0 in
    let qs = passed g n 0 in
    rw (← a.verdicts)
    (by_verdict (verdict rs) (fitted (entries_of rs []) (length rs * 4) room) (fitted (entries_of qs []) (length qs * 4) room) room
    (λ v. ap (λ (l : List Reading). fitted (entries_of l []) (length l * 4) room) (a.readings v)))

-- a word's reading depends on the data through that word
pub reading_by_word : (ws bs cs : List ℕ) (how : How) (q : SectionAddress) → word_at ws bs q ≡ word_at ws cs q → reading_of ws bs how q ≡ reading_of ws cs how q
unfolding sized_reading guessed_reading
reading_by_word ws bs cs Sized q e = rw e
reading_by_word ws bs cs (Guessed start e₀) q e = rw e

-- two buffers that agree on the words examined of a table give one outcome
module _ (ws bs cs : List ℕ) (p : SectionAddress) (n : ℕ) (start : SectionAddress) (e : Option SectionAddress) (room : ℕ) where
  agree : (how : How) (m : ℕ) → ((k : ℕ) → k < examined (word_reading ws bs how p) m 0 → word_at ws bs (word_place p k) ≡ word_at ws cs (word_place p k))
      → read_off (words_passed ws bs how p m) room ≡ read_off (words_passed ws cs how p m) room
  agree how m h = outcome_by_examined (word_reading ws bs how p) (word_reading ws cs how p) m room (λ k l. reading_by_word ws bs cs how (word_place p k) (h k l))

  size_case : (b : Bool) (m : ℕ) → ((k : ℕ) → k < pick b (examined (word_reading ws bs Sized p) m 0) 0 → word_at ws bs (word_place p k) ≡ word_at ws cs (word_place p k))
      → (o : Outcome) → pick b (read_off (words_passed ws bs Sized p m) room) o ≡ pick b (read_off (words_passed ws cs Sized p m) room) o
  size_case true m h o = agree Sized m h
  size_case false m h o = refl

  how_case : (b c : Bool) (m k : ℕ) (o : Outcome)
      → ((j : ℕ) → j < pick b (examined (word_reading ws bs (Guessed start e) p) m 0) (pick c (examined (word_reading ws bs Sized p) k 0) 0) → word_at ws bs (word_place p j) ≡ word_at ws cs (word_place p j))
      → pick b (read_off (words_passed ws bs (Guessed start e) p m) room) (pick c (read_off (words_passed ws bs Sized p k) room) o)
      ≡ pick b (read_off (words_passed ws cs (Guessed start e) p m) room) (pick c (read_off (words_passed ws cs Sized p k) room) o)
  how_case true c m k o h = agree (Guessed start e) m h
  how_case false c m k o h = size_case c k h o

  place_case : (t b c : Bool) (m k : ℕ) (o empty : Outcome)
      → ((j : ℕ) → j < pick t (pick b (examined (word_reading ws bs (Guessed start e) p) m 0) (pick c (examined (word_reading ws bs Sized p) k 0) 0)) 0 → word_at ws bs (word_place p j) ≡ word_at ws cs (word_place p j))
      → pick t (pick b (read_off (words_passed ws bs (Guessed start e) p m) room) (pick c (read_off (words_passed ws bs Sized p k) room) o)) empty
      ≡ pick t (pick b (read_off (words_passed ws cs (Guessed start e) p m) room) (pick c (read_off (words_passed ws cs Sized p k) room) o)) empty
  place_case true b c m k o empty h = how_case b c m k o h
  place_case false b c m k o empty h = refl

  pub table_by_examined : ((k : ℕ) → k < words_examined ws bs p n start e → word_at ws bs (word_place p k) ≡ word_at ws cs (word_place p k))
      → table_in ws bs p n start e room ≡ table_in ws cs p n start e room
  unfolding words_examined table_in guessed_table sized_table
  table_by_examined h =
      place_case (is_table ws p) (eqb (size_of ws p n) 0) (eqb (clamped_size ws p (size_of ws p n) % 4) 0)
      ((end_of (section_at ws p.section) - p.address) / 4 + 1) (clamped_size ws p (size_of ws p n) / 4) _ _ h
