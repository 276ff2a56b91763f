-- A jump table: the words passed, the first bad one, then the entries, ascending and distinct.
-- Assumes nothing.
use Rattle.std.specs.Prelude.{ℕ, zero, suc, ◌+◌, ◌-◌, ◌*◌, ◌/◌, ◌%◌, ◌^◌, ◌<◌, min, ◌≡◌, Bool, ◌&&◌, ◌||◌, Option, Some, None, Result, Ok, Err, List, [], ◌∷◌, ◌++◌, length, replicate, leb, ltb, eqb}
use Rattle.words.specs.Choice.{pick}
use Rattle.places.specs.declared.SectionAddress.{SectionAddress}
use Rattle.image.specs.Numbers.{data_kind, read_only_kind}
use Rattle.image.specs.Layout.{sections, section_at}
use Rattle.image.specs.Rules.{holds, end_of, sound}
use Rattle.lookups.specs.Sections.{known_size}
use Rattle.jump_tables.specs.declared.How.{How}
use Rattle.jump_tables.specs.declared.How.TheVariants.{Sized, Guessed}
use Rattle.jump_tables.specs.declared.Reading.{Reading}
use Rattle.jump_tables.specs.declared.Reading.TheVariants.{Stopped, Skipped, Faulty, Nowhere, Entry}
use Rattle.jump_tables.specs.declared.TableError.{TableError}
use Rattle.jump_tables.specs.declared.TableError.TheVariants as error
use Rattle.jump_tables.specs.declared.Table.{Table}
use Rattle.jump_tables.specs.Keys.{key_of, insert_key}
use Rattle.jump_tables.specs.Readings.{reading_of}

-- document 01's number of each refusal
abbrev pub error_number : TableError → ℕ
error_number error.Broken = 1
error_number error.RelocationError = 7
error_number error.Ragged = 8
error_number error.PointsNowhere = 9
error_number error.Full = 10

-- and of each answer
abbrev pub answer_of : Result Table TableError → ℕ
answer_of (Ok t) = 0
answer_of (Err e) = error_number e

-- how many entries it has, and the bytes passed; none where it is refused
abbrev pub count_of : Result Table TableError → ℕ
count_of (Ok t) = t.count
count_of (Err e) = 0

abbrev pub bytes_of : Result Table TableError → ℕ
bytes_of (Ok t) = t.size
bytes_of (Err e) = 0

-- a table's words are read from its place on; one that stops ends it and is not passed
abbrev pub on_stop : {A : Type 0} → Reading → A → A → A
on_stop Stopped z f = z
on_stop Skipped z f = f
on_stop Faulty z f = f
on_stop Nowhere z f = f
on_stop (Entry t) z f = f

-- the readings passed, of at most n from number i on
unfoldable pub passed : (ℕ → Reading) → ℕ → ℕ → List Reading
passed f zero i = []
passed f (suc n) i = on_stop (f i) [] (f i ∷ passed f n (suc i))

-- the first bad one decides, if there is one
abbrev pub verdict_of : Reading → Option TableError → Option TableError
verdict_of Stopped a = a
verdict_of Skipped a = a
verdict_of Faulty a = Some error.RelocationError
verdict_of Nowhere a = Some error.PointsNowhere
verdict_of (Entry t) a = a

unfoldable pub verdict : List Reading → Option TableError
verdict [] = None
verdict (r ∷ rs) = verdict_of r (verdict rs)

abbrev pub with_reading : Reading → List ℕ → List ℕ
with_reading Stopped ks = ks
with_reading Skipped ks = ks
with_reading Faulty ks = ks
with_reading Nowhere ks = ks
with_reading (Entry t) ks = insert_key (key_of t) ks

-- the entries, ascending and distinct
unfoldable pub entries_of : List Reading → List ℕ → List ℕ
entries_of [] ks = ks
entries_of (r ∷ rs) ks = entries_of rs (with_reading r ks)

-- the answer, and what the entry buffer holds
pub record Outcome : Type 0 where
  pub table : Result Table TableError
  pub keys : List ℕ

abbrev pub refused : TableError → ℕ → Outcome
refused e room = record { table = Err e; keys = replicate room 0 }

-- the keys, then zeros
abbrev pub filled : List ℕ → ℕ → List ℕ
filled ks room = ks ++ replicate (room - length ks) 0

-- more distinct entries than room: 10, judged after every entry was read
abbrev pub fitted : List ℕ → ℕ → ℕ → Outcome
fitted ks size room =
    pick (leb (length ks) room)
    (record { table = Ok (record { count = length ks; size = size }); keys = filled ks room })
    (refused error.Full room)

abbrev pub on_verdict : Option TableError → Outcome → ℕ → Outcome
on_verdict None o room = o
on_verdict (Some e) o room = refused e room

-- size counts the bytes passed
unfoldable pub read_off : List Reading → ℕ → Outcome
read_off rs room = on_verdict (verdict rs) (fitted (entries_of rs []) (length rs * 4) room) room

-- where no entry was bad: how many keys a buffer holds after k words, or that it had no room for one
abbrev pub done_table : Option ℕ → ℕ → Result Table TableError
done_table None k = Err error.Full
done_table (Some n) k = Ok (record { count = n; size = k * 4 })

-- word k of the table
abbrev pub word_place : SectionAddress → ℕ → SectionAddress
word_place p k = record { section = p.section; address = p.address + k * 4 }

abbrev pub word_reading : List ℕ → List ℕ → How → SectionAddress → ℕ → Reading
word_reading ws bs how p k = reading_of ws bs how (word_place p k)

-- at most n words of it
abbrev pub words_passed : List ℕ → List ℕ → How → SectionAddress → ℕ → List Reading
words_passed ws bs how p n = passed (word_reading ws bs how p) n 0

-- each of the n places fits, and so does the size where no entry is bad
pub record Fitting (ws bs : List ℕ) (how : How) (p : SectionAddress) (n : ℕ) : Type 0 where
  pub places : p.address + n * 4 < 2 ^ 32 + 4
  pub size : verdict (words_passed ws bs how p n) ≡ None → length (words_passed ws bs how p n) * 4 < 2 ^ 32

-- the table's end is the true sum, cut to the section; a cut size that is no multiple of 4: 8
abbrev pub clamped_size : List ℕ → SectionAddress → ℕ → ℕ
clamped_size ws p n = min (p.address + n) (end_of (section_at ws p.section)) - p.address

unfoldable pub sized_table : List ℕ → List ℕ → SectionAddress → ℕ → ℕ → Outcome
sized_table ws bs p n room =
    pick (eqb (clamped_size ws p n % 4) 0)
    (read_off (words_passed ws bs Sized p (clamped_size ws p n / 4)) room)
    (refused error.Ragged room)

-- a guess passes at most the words that the section has, and one more stops it
unfoldable pub guessed_table : List ℕ → List ℕ → SectionAddress → SectionAddress → Option SectionAddress → ℕ → Outcome
guessed_table ws bs p start e room =
    read_off (words_passed ws bs (Guessed start e) p ((end_of (section_at ws p.section) - p.address) / 4 + 1)) room

-- in a Data or ReadOnly section
abbrev pub is_table : List ℕ → SectionAddress → Bool
is_table ws p =
    ltb p.section (sections ws) && (eqb (section_at ws p.section).kind data_kind || eqb (section_at ws p.section).kind read_only_kind)
    && holds (section_at ws p.section) p.address

-- a known nonzero symbol size beats the found one; 0 is no size
abbrev pub size_of : List ℕ → SectionAddress → ℕ → ℕ
size_of ws p n = pick (eqb (known_size ws p) 0) n (known_size ws p)

-- of a sound image: outside a Data or ReadOnly section no entries and size 0
unfoldable pub table_in : List ℕ → List ℕ → SectionAddress → ℕ → SectionAddress → Option SectionAddress → ℕ → Outcome
table_in ws bs p n start e room =
    pick (is_table ws p)
    (pick (eqb (size_of ws p n) 0) (guessed_table ws bs p start e room) (sized_table ws bs p (size_of ws p n) room))
    (record { table = Ok (record { count = 0; size = 0 }); keys = replicate room 0 })

-- of any image: 1 leaves the entry buffer as it was
unfoldable pub table_of : List ℕ → List ℕ → SectionAddress → ℕ → SectionAddress → Option SectionAddress → List ℕ → Outcome
table_of ws bs p n start e buffer =
    pick (sound ws (length bs)) (table_in ws bs p n start e (length buffer))
    (record { table = Err error.Broken; keys = buffer })
