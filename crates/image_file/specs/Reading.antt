-- What an image file says, read from its bytes: docs/FORMATS.md, "The image file".
-- Assumes nothing.
use Rattle.std.specs.Prelude.{ℕ, zero, suc, ◌+◌, ◌*◌, Bool, ◌||◌, List, [], ◌∷◌, length, leb, ltb, eqb, Result, Ok, Err, ⊤, Option, Some, None}
use Rattle.std.proofs.lemmas.List.Edits.{sets}
use Rattle.words.specs.Choice.{pick}
use Rattle.words.specs.Bytes.{word_in}
use Rattle.places.specs.declared.SectionAddress.{SectionAddress}
use Rattle.image_file.specs.declared.Head.{Head}
use Rattle.image_file.specs.declared.Wrong.{Wrong}
use Rattle.image_file.specs.declared.Wrong.TheVariants as wrong
use Rattle.image_file.specs.declared.Fault.{Fault}

-- the letters GELR, and the version
abbrev pub magic : ℕ
magic = 0x47454C52

abbrev pub version : ℕ
version = 1

-- the bytes of the head
abbrev pub head_length : ℕ
head_length = 56

-- word k of the file, 0 where it ends before that
abbrev pub head_word : List ℕ → ℕ → ℕ
head_word bs k = word_in bs (k * 4)

-- where the starts and the data begin, and where the data ends
abbrev pub starts_from : List ℕ → ℕ
starts_from bs = head_length + head_word bs 2 * 4

abbrev pub data_from : List ℕ → ℕ
data_from bs = starts_from bs + head_word bs 3 * 8

abbrev pub whole_length : List ℕ → ℕ
whole_length bs = data_from bs + head_word bs 4

-- a number that may be given, a place, a place that may be given
abbrev pub base_at : List ℕ → ℕ → Option ℕ
base_at bs k = pick (eqb (head_word bs k) 1) (Some (head_word bs (k + 1))) None

abbrev pub place_at : List ℕ → ℕ → SectionAddress
place_at bs k = record { section = head_word bs k; address = head_word bs (k + 1) }

abbrev pub maybe_at : List ℕ → ℕ → Option SectionAddress
maybe_at bs k = pick (eqb (head_word bs k) 1) (Some (place_at bs (k + 1))) None

-- the head
abbrev pub head_of : List ℕ → Head
head_of bs =
    record {
      words = head_word bs 2;
      starts = head_word bs 3;
      bytes = head_word bs 4;
      two = base_at bs 5;
      thirteen = base_at bs 7;
      from = place_at bs 9;
      upto = maybe_at bs 11;
    }

-- f at n places, so many bytes apart, from a byte on
unfoldable pub each : (ℕ → ℕ) → ℕ → ℕ → ℕ → List ℕ
each f apart at zero = []
each f apart at (suc n) = f at ∷ each f apart (at + apart) n

-- n words from a byte on
abbrev pub words_from : List ℕ → ℕ → ℕ → List ℕ
words_from bs at n = each (word_in bs) 4 at n

-- a place as a key: its section's index times 2^32 plus its address
abbrev pub key_at : List ℕ → ℕ → ℕ
key_at bs at = word_in bs at * 4294967296 + word_in bs (at + 4)

-- n places from a byte on, as keys
abbrev pub keys_from : List ℕ → ℕ → ℕ → List ℕ
keys_from bs at n = each (key_at bs) 8 at n

-- the image's words, the starts
abbrev pub image_words : List ℕ → List ℕ
image_words bs = words_from bs head_length (head_word bs 2)

abbrev pub start_keys : List ℕ → List ℕ
start_keys bs = keys_from bs (starts_from bs) (head_word bs 3)

-- nothing is wrong, or that is, and shows at a byte
abbrev pub Check : Type 0
Check = Result ⊤ Fault

abbrev pub off : {A : Type 0} → Wrong → ℕ → Result A Fault
off w at = Err (record { wrong = w; at = at })

-- nothing is wrong where a test holds; else that is, and shows at a byte
abbrev pub checked : Bool → Wrong → ℕ → Check
checked fine w at = pick fine (Ok tt) (off w at)

-- the first of two that is off
abbrev pub or_else : Check → Check → Check
or_else (Ok u) b = b
or_else (Err f) b = Err f

-- the head is there, and begins with the letters and the version
abbrev pub head_judged : List ℕ → Check
head_judged bs =
    or_else (checked (leb head_length (length bs)) wrong.Short (length bs))
    (or_else (checked (eqb (head_word bs 0) magic) wrong.Magic 0) (checked (eqb (head_word bs 1) version) wrong.Version 4))

-- word k is a flag; word j is 0 unless the flag at word k is set
abbrev pub flag_is : List ℕ → ℕ → Check
flag_is bs k = checked (ltb (head_word bs k) 2) wrong.Flag (k * 4)

abbrev pub unused_is : List ℕ → ℕ → ℕ → Check
unused_is bs k j = checked (eqb (head_word bs k) 1 || eqb (head_word bs j) 0) wrong.Unused (j * 4)

-- r2, r13, the function's end
abbrev pub flags_judged : List ℕ → Check
flags_judged bs =
    or_else (or_else (flag_is bs 5) (unused_is bs 5 6))
    (or_else (or_else (flag_is bs 7) (unused_is bs 7 8)) (or_else (flag_is bs 11) (or_else (unused_is bs 11 12) (unused_is bs 11 13))))

-- the file is as long as its counts say
abbrev pub length_judged : List ℕ → Check
length_judged bs =
    or_else (checked (leb (whole_length bs) (length bs)) wrong.Truncated (length bs))
    (checked (leb (length bs) (whole_length bs)) wrong.Trailing (whole_length bs))

-- there is room for the image's words and the starts
abbrev pub room_judged : List ℕ → ℕ → ℕ → Check
room_judged bs words starts =
    or_else (checked (leb (head_word bs 2) words) wrong.WordsRoom 8) (checked (leb (head_word bs 3) starts) wrong.StartsRoom 12)

-- all of that, in order
unfoldable pub judged : List ℕ → ℕ → ℕ → Check
judged bs words starts = or_else (or_else (head_judged bs) (flags_judged bs)) (or_else (length_judged bs) (room_judged bs words starts))

-- by cases
abbrev pub on_check : {A : Type 0} → Check → A → (Wrong → ℕ → A) → A
on_check (Ok u) z f = z
on_check (Err e) z f = f e.wrong e.at

-- the answer, and what it leaves: a file that is off touches nothing
abbrev pub answered : List ℕ → ℕ → ℕ → Result Head Fault
answered bs words starts = on_check (judged bs words starts) (Ok (head_of bs)) off

abbrev pub image_left : List ℕ → List ℕ → ℕ → List ℕ
image_left bs im starts = on_check (judged bs (length im) starts) (sets im 0 (image_words bs)) (λ w at. im)

abbrev pub starts_left : List ℕ → ℕ → List ℕ → List ℕ
starts_left bs words starts = on_check (judged bs words (length starts)) (sets starts 0 (start_keys bs)) (λ w at. starts)
