-- A small image, and the same with one word changed: each change breaks one rule, or stands just inside one.
-- By computation. Assumes nothing.
use mathlib.Core.Path.{◌≡◌, refl}
use mathlib.Core.List.{List, [], ◌∷◌, ◌++◌, map}
use Prim.Native.Nat.{ℕ, zero, suc}
use lib.ListN.{set}
use Rattle.search.specs.First.{first_from}
use Rattle.search.specs.Every.{every}
use Rattle.image.specs.Rules.{sections_sound, elf_distinct, sections_apart, words_before, bounds_sound, ascending, unbounds_sound, symbols_sound, tables_sound, data_inside, judged, answer_of}

-- an Executable, module 5, with two sections and one entry in each further table
-- section 0: Code of 8 bytes at 4,096, elf number 1; section 1: Bss of 4 bytes at 8,192, elf number 2
-- an Absolute bound relocation at 4,100, its symbol without a section; an unbound one of another kind at 4,100; a symbol at 8,192
pub image : List ℕ
image =
    (0 ∷ 5 ∷ 2 ∷ 1 ∷ 1 ∷ 1 ∷ []) ++ (4096 ∷ 8 ∷ 0 ∷ 1 ∷ 0 ∷ 8 ∷ []) ++ (8192 ∷ 4 ∷ 3 ∷ 2 ∷ 8 ∷ 0 ∷ [])
    ++ (0 ∷ 4100 ∷ 0 ∷ 4294967295 ∷ 0 ∷ 0 ∷ []) ++ (1 ∷ 4100 ∷ 7 ∷ 1 ∷ 9 ∷ 0 ∷ []) ++ (1 ∷ 8192 ∷ 4 ∷ 1 ∷ [])

-- the judge's numbers where word k is v, for each (k, v), and the buffer has 8 bytes
pub answers : List ℕ → List (ℕ × ℕ) → List ℕ
unfolding first_from every sections_sound elf_distinct sections_apart words_before bounds_sound ascending unbounds_sound symbols_sound tables_sound data_inside
answers ws changes = map (λ (c : ℕ × ℕ). answer_of (judged (set ws c.0 c.1) 8)) changes

-- in order: a Relocatable; a Bss just past the Code, empty, and ending below 2^32; a target section that does not exist; a symbol outside its section
pub sound_changes : List (ℕ × ℕ)
sound_changes = (0, 1) ∷ (12, 4104) ∷ (13, 0) ∷ (13, 4294959103) ∷ (28, 77) ∷ (30, 0) ∷ []

-- in order: image kind 2; a section less than the words hold; Code misaligned, and with too little data
-- Bss over the Code, ending at 2^32, of kind 4, with the other's elf number, its place past the buffer, with data
-- a bound relocation with three bytes left, and with a symbol in section 2; an unbound one in no section, and of kind 2
-- a symbol in section 2, and with flag 2
pub broken_changes : List (ℕ × ℕ)
broken_changes =
    (0, 2) ∷ (2, 1) ∷ (6, 4098) ∷ (11, 7) ∷ (12, 4100) ∷ (13, 4294959104) ∷ (14, 4) ∷ (15, 1) ∷ (16, 9) ∷ (17, 1) ∷ (19, 4101) ∷ (21, 2) ∷ (24, 3) ∷ (27, 2) ∷ (30, 2) ∷ (33, 2)
    ∷ []

pub sound_by_computation : answers image ((0, 0) ∷ sound_changes) ≡ 0 ∷ 0 ∷ 0 ∷ 0 ∷ 0 ∷ 0 ∷ 0 ∷ []
unfolding image answers sound_changes first_from every sections_sound elf_distinct sections_apart words_before bounds_sound ascending unbounds_sound symbols_sound tables_sound data_inside
sound_by_computation = refl

pub broken_by_computation : answers image broken_changes ≡ 1 ∷ 1 ∷ 1 ∷ 1 ∷ 1 ∷ 1 ∷ 1 ∷ 1 ∷ 1 ∷ 1 ∷ 1 ∷ 1 ∷ 1 ∷ 1 ∷ 1 ∷ 1 ∷ []
unfolding image answers broken_changes first_from every sections_sound elf_distinct sections_apart words_before bounds_sound ascending unbounds_sound symbols_sound tables_sound data_inside
broken_by_computation = refl

-- in a Relocatable the Bss may stand over the Code
pub overlap_in_relocatable : answers (set image 0 1) ((12, 4100) ∷ []) ≡ 0 ∷ []
unfolding image answers first_from every sections_sound elf_distinct sections_apart words_before bounds_sound ascending unbounds_sound symbols_sound tables_sound data_inside
overlap_in_relocatable = refl

-- two bound relocations ascend strictly
pub two_bounds : ℕ → ℕ → List ℕ
two_bounds a b =
    (0 ∷ 0 ∷ 1 ∷ 2 ∷ 0 ∷ 0 ∷ []) ++ (4096 ∷ 8 ∷ 0 ∷ 1 ∷ 0 ∷ 8 ∷ []) ++ (0 ∷ a ∷ 1 ∷ 0 ∷ 0 ∷ 0 ∷ []) ++ (0 ∷ b ∷ 1 ∷ 0 ∷ 0 ∷ 0 ∷ [])

pub strictly_ascending : (answer_of (judged (two_bounds 4096 4097) 8) ≡ 0) × (answer_of (judged (two_bounds 4097 4097) 8) ≡ 1)
unfolding two_bounds first_from every sections_sound elf_distinct sections_apart words_before bounds_sound ascending unbounds_sound symbols_sound tables_sound data_inside
strictly_ascending = (refl, refl)

-- one Code section: 262,144 words are allowed, one more is not
pub code_of : ℕ → List ℕ
code_of size = (0 ∷ 0 ∷ 1 ∷ 0 ∷ 0 ∷ 0 ∷ []) ++ (4096 ∷ size ∷ 0 ∷ 1 ∷ 0 ∷ size ∷ [])

pub code_limit : (answer_of (judged (code_of 1048576) 1048576) ≡ 0) × (answer_of (judged (code_of 1048580) 1048580) ≡ 1)
unfolding code_of first_from every sections_sound elf_distinct sections_apart words_before bounds_sound ascending unbounds_sound symbols_sound tables_sound data_inside
code_limit = (refl, refl)

-- empty Data sections: 64 are allowed, 65 and none are not
empties : ℕ → ℕ → List ℕ
empties zero elf = []
empties (suc n) elf = (0 ∷ 0 ∷ 1 ∷ elf ∷ 0 ∷ 0 ∷ []) ++ empties n (suc elf)

pub many : ℕ → List ℕ
many n = (0 ∷ 0 ∷ n ∷ 0 ∷ 0 ∷ 0 ∷ []) ++ empties n 0

pub section_limit : (answer_of (judged (many 64) 0) ≡ 0) × (answer_of (judged (many 65) 0) ≡ 1) × (answer_of (judged (many 0) 0) ≡ 1)
unfolding many empties first_from every sections_sound elf_distinct sections_apart words_before bounds_sound ascending unbounds_sound symbols_sound tables_sound data_inside
section_limit = (refl, refl, refl)
