-- Document 01's section "Jump tables", sentence by sentence, for every image.
-- Assumes nothing.
use Prim.Native.Nat.{ℕ, zero, suc, ◌+◌, ◌-◌, ◌*◌, ◌/◌, ◌%◌, min, ◌≤◌, ◌<◌}
use mathlib.Core.Path.{◌≡◌, refl, ap, ◌∙◌}
use mathlib.Core.Bool.{Bool, true, false, ◌||◌}
use mathlib.Core.List.{List, [], ◌∷◌}
use native.Mathlib.Nat.{not-suc-le-zero}
use native.Mathlib.Omega.{arith}
use borrow.Author.Tests.{eq-eqb, ne_eqb, le-ltb, le-leb, lt-leb}
use lib.ListN.{length}
use Rattle.std.specs.Prelude.{Some, None, Ok, Err, Option}
use Rattle.words.specs.Choice.{pick}
use Rattle.places.specs.declared.SectionAddress.{SectionAddress}
use Rattle.places.specs.declared.RelocationTarget.TheVariants.{External, Address}
use Rattle.places.specs.Places.{before}
use Rattle.image.specs.Numbers.{executable_kind}
use Rattle.image.specs.Layout.{image_kind, section_at}
use Rattle.image.specs.Rules.{end_of, tables_sound, data_inside}
use Rattle.lookups.specs.declared.Wanted.TheVariants.{Absolute}
use Rattle.lookups.specs.Sections.{known_size}
use Rattle.lookups.specs.Relocations.{relocation_for}
use Rattle.lookups.specs.Bytes.{word_at}
use Rattle.jump_tables.specs.declared.How.TheVariants.{Sized}
use Rattle.jump_tables.specs.declared.Reading.{Reading}
use Rattle.jump_tables.specs.declared.Reading.TheVariants.{Stopped, Skipped, Faulty, Nowhere, Entry}
use Rattle.jump_tables.specs.declared.TableError.TheVariants as error
use Rattle.jump_tables.specs.Readings.{on_relocation, bare_entry, on_entry, past_end, in_function, guessed_target, guessed_word, sized_reading, guessed_reading}
use Rattle.jump_tables.specs.Tables.{on_stop, passed, verdict, entries_of, bytes_of, Outcome, refused, filled, read_off, words_passed, clamped_size, size_of, is_table, sized_table, table_in}
use Rattle.jump_tables.proofs.Passing.{passed_step}
use Rattle.jump_tables.proofs.Outcomes.{size_is_read, ragged_sized, whole_sized}
use Rattle.jump_tables.proofs.SizedWords.{sized_passes_all}
use Rattle.jump_tables.proofs.TablePlaces.{in_table}
use Rattle.lookups.specs.Relocations.{Relocation}
use Rattle.lookups.specs.Relocations.{relocation_error}

-- the relocation at a word is looked up first, whatever the word; an error is 7 in both readings
module _ (ws bs : List ℕ) (start : SectionAddress) (e : Option SectionAddress) (q : SectionAddress) where
  pub relocation_error_is_faulty : relocation_for ws q Absolute ≡ Err relocation_error → (sized_reading ws bs q ≡ Faulty) × (guessed_reading ws bs start e q ≡ Faulty)
  unfolding sized_reading guessed_reading
  relocation_error_is_faulty r = (rw r, rw r)

  pub relocation_is_the_entry : (t : SectionAddress) → relocation_for ws q Absolute ≡ Ok (Some (Address t))
      → (sized_reading ws bs q ≡ Entry t) × (guessed_reading ws bs start e q ≡ in_function start e t)
  unfolding sized_reading guessed_reading
  relocation_is_the_entry t r = (rw r, rw r)

  -- External points nowhere when sized and stops a guess
  pub external_entry : relocation_for ws q Absolute ≡ Ok (Some External) → (sized_reading ws bs q ≡ Nowhere) × (guessed_reading ws bs start e q ≡ Stopped)
  unfolding sized_reading guessed_reading
  external_entry r = (rw r, rw r)

  -- so does a nonzero word in no section
  pub nonzero_word_in_no_section : (v : ℕ) → relocation_for ws q Absolute ≡ Ok None → word_at ws bs q ≡ Some v → (v ≡ 0 → ⊥) → bare_entry ws v ≡ None
      → (sized_reading ws bs q ≡ Nowhere) × (guessed_reading ws bs start e q ≡ Stopped)
  unfolding sized_reading guessed_reading
  nonzero_word_in_no_section v r w z n = (rw (r, w, ne_eqb v 0 z, n), rw (r, w, n))

  -- sized, a bare 0 is skipped, even where a section holds address 0
  pub bare_zero_is_skipped : relocation_for ws q Absolute ≡ Ok None → word_at ws bs q ≡ Some 0 → sized_reading ws bs q ≡ Skipped
  unfolding sized_reading
  bare_zero_is_skipped r w = rw (r, w)

  -- guessed, every bare word is read alike, 0 too
  pub guess_gives_zero_no_special_place : (v : ℕ) → relocation_for ws q Absolute ≡ Ok None → word_at ws bs q ≡ Some v
      → guessed_reading ws bs start e q ≡ on_entry (bare_entry ws v) Stopped (in_function start e)
  unfolding guessed_reading
  guess_gives_zero_no_special_place v r w = rw (r, w)

-- a bare word finds no section in a Relocatable image
pub relocatable_word_finds_none : (ws : List ℕ) (v : ℕ) → image_kind ws ≡ 1 → bare_entry ws v ≡ None
relocatable_word_finds_none ws v k = let n : image_kind ws ≡ executable_kind → ⊥ = λ z. omega arith in rw (ne_eqb (image_kind ws) executable_kind n)

-- a target before the function's start, at its end or past it stops the guess; one between them is an entry
or_true_right : (b : Bool) (x y : Reading) → pick (b || true) x y ≡ x
or_true_right true x y = refl
or_true_right false x y = refl

pub target_before_start_stops : (start t : SectionAddress) (e : Option SectionAddress) → before t start ≡ true → in_function start e t ≡ Stopped
target_before_start_stops start t e b = rw b

pub target_past_end_stops : (start end t : SectionAddress) → before t end ≡ false → in_function start (Some end) t ≡ Stopped
target_past_end_stops start end t b = rw b (or_true_right (before t start) Stopped (Entry t))

not_before_itself : (t : SectionAddress) → before t t ≡ false
not_before_itself t = rw (le-ltb t.section t.section (omega arith), eq-eqb t.section t.section refl, le-ltb t.address t.address (omega arith))

pub target_at_end_stops : (start end : SectionAddress) → in_function start (Some end) end ≡ Stopped
target_at_end_stops start end = target_past_end_stops start end end (not_before_itself end)

pub target_inside_is_an_entry : (start end t : SectionAddress) → before t start ≡ false → before t end ≡ true
    → (in_function start (Some end) t ≡ Entry t) × (in_function start None t ≡ Entry t)
target_inside_is_an_entry start end t b c = (rw (b, c), rw b)

-- a guess answers 7 or stops: 9 is for sized reading only, and no word is skipped
pub data Guessable : Reading → Type 0 where
  stopped : Guessable Stopped
  faulty : Guessable Faulty
  entry : {t : SectionAddress} → Guessable (Entry t)

bounds_case : (b : Bool) (t : SectionAddress) → Guessable (pick b Stopped (Entry t))
bounds_case true t = Guessable.stopped
bounds_case false t = Guessable.entry

guess_in_function : (start : SectionAddress) (e : Option SectionAddress) (t : SectionAddress) → Guessable (in_function start e t)
guess_in_function start e t = bounds_case (before t start || past_end e t) t

place_case : (start : SectionAddress) (e m : Option SectionAddress) → Guessable (on_entry m Stopped (in_function start e))
place_case start e None = Guessable.stopped
place_case start e (Some t) = guess_in_function start e t

word_case : (ws : List ℕ) (start : SectionAddress) (e : Option SectionAddress) (w : Option ℕ) → Guessable (guessed_word ws start e w)
word_case ws start e None = Guessable.stopped
word_case ws start e (Some v) = place_case start e (bare_entry ws v)

relocation_case : (ws bs : List ℕ) (start : SectionAddress) (e : Option SectionAddress) (q : SectionAddress) (r : Relocation)
    → Guessable (on_relocation r (guessed_word ws start e (word_at ws bs q)) (guessed_target start e))
relocation_case ws bs start e q (Ok None) = word_case ws start e (word_at ws bs q)
relocation_case ws bs start e q (Err why) = Guessable.faulty
relocation_case ws bs start e q (Ok (Some External)) = Guessable.stopped
relocation_case ws bs start e q (Ok (Some (Address t))) = guess_in_function start e t

pub guess_never_nowhere_nor_skipped : (ws bs : List ℕ) (start : SectionAddress) (e : Option SectionAddress) (q : SectionAddress) → Guessable (guessed_reading ws bs start e q)
unfolding guessed_reading
guess_never_nowhere_nor_skipped ws bs start e q = relocation_case ws bs start e q (relocation_for ws q Absolute)

-- a known nonzero symbol size beats the found one; a known 0 is passed over
pub known_size_wins : (ws : List ℕ) (p : SectionAddress) (n : ℕ) → (known_size ws p ≡ 0 → ⊥) → size_of ws p n ≡ known_size ws p
known_size_wins ws p n k = rw (ne_eqb (known_size ws p) 0 k)

pub no_known_size : (ws : List ℕ) (p : SectionAddress) (n : ℕ) → known_size ws p ≡ 0 → size_of ws p n ≡ n
no_known_size ws p n k = rw (eq-eqb (known_size ws p) 0 k)

-- the end is cut to the section, and no sum wraps: a table that runs into the end has the bytes that are left
pub runs_into_section_end : (ws : List ℕ) (p : SectionAddress) (n : ℕ) → tables_sound ws ≡ true → is_table ws p ≡ true
    → clamped_size ws p n ≡ min n (end_of (section_at ws p.section) - p.address)
runs_into_section_end ws p n s t = let i = (in_table ws p s t).place in omega (arith, i.upto)

-- 8 whatever the words are, so before 7 and 9
pub ragged_is_8 : (ws bs : List ℕ) (p : SectionAddress) (n : ℕ) (start : SectionAddress) (e : Option SectionAddress) (room : ℕ) → is_table ws p ≡ true
    → (size_of ws p n ≡ 0 → ⊥) → (clamped_size ws p (size_of ws p n) % 4 ≡ 0 → ⊥) → table_in ws bs p n start e room ≡ refused error.Ragged room
ragged_is_8 ws bs p n start e room t z r =
    size_is_read ws bs p n start e room t z ∙ ragged_sized ws bs p (size_of ws p n) start e room (clamped_size ws p (size_of ws p n)) refl r

-- the first bad word decides, whatever comes after it
pub data Good : Reading → Type 0 where
  skipped : Good Skipped
  entry : {t : SectionAddress} → Good (Entry t)

good_case : (r : Reading) (rs : List Reading) → Good r → verdict (on_stop r [] (r ∷ rs)) ≡ verdict rs
unfolding verdict
good_case Skipped rs Good.skipped = refl
good_case (Entry t) rs Good.entry = refl
good_case Stopped rs x' = elim x' [ ]
good_case Faulty rs x'' = elim x'' [ ]
good_case Nowhere rs x3 = elim x3 [ ]

first_bad : (f : ℕ → Reading) (n k i : ℕ) → k < n → ((j : ℕ) → j < k → Good (f (i + j))) → verdict (passed f n i) ≡ verdict (passed f (n - k) (i + k))
unfolding passed
first_bad f n zero i l g = let z : n - 0 ≡ n = omega arith in let y : i + 0 ≡ i = omega arith in rw (z, y)
first_bad f zero (suc k) i l g = absurd (not-suc-le-zero l)
first_bad f (suc n) (suc k) i l g =
    let z : i + 0 ≡ i = omega arith in
    let m : suc n - suc k ≡ n - k = omega arith in
    let y : i + suc k ≡ suc i + k = omega arith in
    good_case (f i) (passed f n (suc i)) (rw z at (g 0 (omega arith)))
    ∙ first_bad f n k (suc i) (omega arith) (λ j h. let x : i + suc j ≡ suc i + j = omega arith in rw x at (g (suc j) (omega arith)))
    ∙ rw (m, y)

pub first_error_is_7 : (f : ℕ → Reading) (n k room : ℕ) → k < n → ((j : ℕ) → j < k → Good (f j)) → f k ≡ Faulty → read_off (passed f n 0) room ≡ refused error.RelocationError room
unfolding read_off verdict
first_error_is_7 f n k room l g e =
    let z : 0 + k ≡ k = omega arith in
    let v : verdict (passed f n 0) ≡ Some error.RelocationError = first_bad f n k 0 l (λ j h. let y : 0 + j ≡ j = omega arith in rw y (g j h)) ∙ rw (z, passed_step f n k l, e) in
    rw v

pub first_nowhere_is_9 : (f : ℕ → Reading) (n k room : ℕ) → k < n → ((j : ℕ) → j < k → Good (f j)) → f k ≡ Nowhere → read_off (passed f n 0) room ≡ refused error.PointsNowhere room
unfolding read_off verdict
first_nowhere_is_9 f n k room l g e =
    let z : 0 + k ≡ k = omega arith in
    let v : verdict (passed f n 0) ≡ Some error.PointsNowhere = first_bad f n k 0 l (λ j h. let y : 0 + j ≡ j = omega arith in rw y (g j h)) ∙ rw (z, passed_step f n k l, e) in
    rw v

-- 10 is judged where no entry is bad, after all were read
pub too_many_is_10 : (rs : List Reading) (room : ℕ) → verdict rs ≡ None → room < length (entries_of rs []) → read_off rs room ≡ refused error.Full room
unfolding read_off
too_many_is_10 rs room v h = rw (v, lt-leb (length (entries_of rs [])) room h)

pub fitting_is_read : (rs : List Reading) (room : ℕ) → verdict rs ≡ None → length (entries_of rs []) ≤ room
    → read_off rs room ≡ record { table = Ok (record { count = length (entries_of rs []); size = length rs * 4 }); keys = filled (entries_of rs []) room }
unfolding read_off
fitting_is_read rs room v h = rw (v, le-leb (length (entries_of rs [])) room h)

-- the size of a sized table that is read is its clamped size: skipped words count
pub sized_size : (ws bs : List ℕ) (p : SectionAddress) (n room : ℕ) → tables_sound ws ≡ true → data_inside ws (length bs) ≡ true → is_table ws p ≡ true
    → clamped_size ws p n % 4 ≡ 0 → verdict (words_passed ws bs Sized p (clamped_size ws p n / 4)) ≡ None
    → length (entries_of (words_passed ws bs Sized p (clamped_size ws p n / 4)) []) ≤ room → bytes_of (sized_table ws bs p n room).table ≡ clamped_size ws p n
sized_size ws bs p n room s d t r v h =
    let rs = words_passed ws bs Sized p (clamped_size ws p n / 4) in
    let all = sized_passes_all ws bs p n s d t in
    ap (λ (o : Outcome). bytes_of o.table) (whole_sized ws bs p n p None room (clamped_size ws p n) refl r ∙ fitting_is_read rs room v h)
    ∙ ap (λ (k : ℕ). k * 4) all ∙ whole (clamped_size ws p n) r
  where
    whole : (m : ℕ) → m % 4 ≡ 0 → m / 4 * 4 ≡ m
    whole m e = omega arith
