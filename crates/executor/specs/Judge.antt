-- What every call judges first: 1, then 12.
-- Assumes nothing.
use Rattle.std.specs.Prelude.{ℕ, Bool, true, false, ◌&&◌, ◌||◌, List, [], ◌∷◌, ltb, eqb, Result, Ok, Err, ⊤}
use Rattle.std.specs.Result.{result_and}
use Rattle.words.specs.Choice.{pick}
use Rattle.places.specs.declared.SectionAddress.{SectionAddress}
use Rattle.image.specs.Numbers.{code_kind}
use Rattle.image.specs.Layout.{sections, section_at}
use Rattle.image.specs.Rules.{end_of, sound, code_words}
use Rattle.lookups.specs.Code.{code_place}
use Rattle.stack.specs.Stack.{Entry, entries}
use Rattle.stack.specs.Valid.{valid_stack}
use Rattle.visited.specs.Bits.{has_room}
use Rattle.executor.specs.declared.Phase.{Phase}
use Rattle.executor.specs.declared.Refusal.{Refusal}
use Rattle.executor.specs.declared.Refusal.TheVariants as refusal
use Rattle.executor.specs.Standing.{on_phase}
use Rattle.lookups.specs.declared.PlaceError.TheVariants as place
use Rattle.lookups.specs.declared.PlaceError.{PlaceError}

-- a test that answers a refusal where it fails
abbrev pub test : Bool → Refusal → Result ⊤ Refusal
test t why = pick t (Ok tt) (Err why)

-- a place judged as one of code, by cases: 2, 3, an aligned code word
abbrev pub on_place : {B : Type 0} → Result ⊤ PlaceError → B → B → B → B
on_place (Err place.NotCode) n m f = n
on_place (Err place.Misaligned) n m f = m
on_place (Ok tt) n m f = f

-- an aligned code word
abbrev pub is_word : List ℕ → SectionAddress → Bool
is_word im p = on_place (code_place im p) false false true

-- the end of a place's own section, which is Code
abbrev pub is_end : List ℕ → SectionAddress → Bool
is_end im p =
    ltb p.section (sections im) && eqb (section_at im p.section).kind code_kind && eqb p.address (end_of (section_at im p.section))

-- "the handed-over running place is neither that nor its section's end (waiting: must be that)"
abbrev pub is_placed : List ℕ → Phase → SectionAddress → Bool
is_placed im ph p = on_phase ph true (is_word im p || is_end im p) (is_word im p)

-- every waiting state is at an aligned code word
unfoldable pub all_words : List ℕ → List Entry → Bool
all_words im [] = true
all_words im (e ∷ es) = is_word im e.place && all_words im es

-- stack words and count are ones that pushing writes and name aligned code words, and what is under way stands where it may
abbrev pub lawful : List ℕ → List ℕ → ℕ → Phase → SectionAddress → Bool
lawful im words n ph p = valid_stack words n && all_words im (entries words n) && is_placed im ph p

-- 1; the image has a buffer of d bytes
abbrev pub image_of : List ℕ → ℕ → Result ⊤ Refusal
image_of im d = test (sound im d) refusal.BrokenImage

-- 1, then 12
abbrev pub verdict_of : List ℕ → ℕ → List ℕ → ℕ → Phase → SectionAddress → Result ⊤ Refusal
verdict_of im d words n ph p = result_and (image_of im d) (test (lawful im words n ph p) refusal.BadStack)

-- 4
abbrev pub room_of : List ℕ → List ℕ → Result ⊤ Refusal
room_of im v = test (has_room v (code_words im)) refusal.SmallMap

-- 2, 3
abbrev pub place_answer : Result ⊤ PlaceError → Result ⊤ Refusal
place_answer x = on_place x (Err refusal.NotCode) (Err refusal.Misaligned) (Ok tt)

abbrev pub word_of : List ℕ → SectionAddress → Result ⊤ Refusal
word_of im p = place_answer (code_place im p)
