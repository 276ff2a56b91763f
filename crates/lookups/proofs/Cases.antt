-- One image that breaks no rule, and what the lookups find in it, by computation: its tables hold each of document 01's
-- corners. Assumes nothing.
use Rattle.std.specs.Prelude.{Ok, Err, Some, None}
use mathlib.Core.Path.{◌≡◌, refl}
use mathlib.Core.Bool.{true}
use mathlib.Core.List.{List, [], ◌∷◌}
use Prim.Native.Nat.{ℕ}
use Rattle.places.specs.declared.SectionAddress.{SectionAddress}
use Rattle.places.specs.declared.RelocationTarget.TheVariants.{External, Address}
use Rattle.search.specs.Every.{every}
use Rattle.search.specs.First.{first_from}
use Rattle.image.specs.Rules.{sections_sound, elf_distinct, sections_apart, words_before, bounds_sound, ascending, unbounds_sound, symbols_sound, tables_sound}
use Rattle.lookups.specs.declared.Wanted.TheVariants.{Any, Absolute, Other}
use Rattle.lookups.specs.Sections.{known_size}
use Rattle.lookups.specs.Relocations.{relocation_for, section_address_for}
use Rattle.lookups.specs.Code.{code_place, word_number}
use Rattle.lookups.specs.declared.PlaceError.TheVariants.{Misaligned, NotCode}
use Rattle.lookups.specs.Relocations.{relocation_error}

abbrev at : ℕ → ℕ → SectionAddress
at s a = record { section = s; address = a }

-- Executable, module 7: Code of 16 bytes and Data of 8
abbrev tables : List ℕ
tables =
    0 ∷ 7 ∷ 2 ∷ 2 ∷ 3 ∷ 1
    -- sections
    ∷ 0x80003000 ∷ 16 ∷ 0 ∷ 1 ∷ 0 ∷ 16
    ∷ 0x80004000 ∷ 8 ∷ 1 ∷ 4 ∷ 16 ∷ 8
    -- bound: 4 below the Data; of another kind and without a section
    ∷ 0 ∷ 0x80003004 ∷ 0 ∷ 1 ∷ 0x80004000 ∷ 0xFFFFFFFC
    ∷ 0 ∷ 0x80003008 ∷ 1 ∷ 0xFFFFFFFF ∷ 0 ∷ 0
    -- unbound: another module and another kind; a second entry for the same place; a sum of 2^32
    ∷ 1 ∷ 0x8000300C ∷ 9 ∷ 1 ∷ 4 ∷ 0
    ∷ 1 ∷ 0x8000300C ∷ 7 ∷ 0 ∷ 4 ∷ 4
    ∷ 4 ∷ 0x80004000 ∷ 7 ∷ 0 ∷ 4 ∷ 0x7FFFC000
    -- symbol
    ∷ 1 ∷ 0x80004000 ∷ 8 ∷ 1 ∷ []

is_sound : tables_sound tables ≡ true
unfolding tables_sound sections_sound elf_distinct sections_apart words_before bounds_sound ascending unbounds_sound symbols_sound every first_from
is_sound = refl

signed_addend : relocation_for tables (at 0 0x80003004) Any ≡ Ok (Some (Address (at 1 0x80003FFC)))
unfolding relocation_for first_from
signed_addend = refl

kind_before_external : (relocation_for tables (at 0 0x80003008) Absolute ≡ Err relocation_error) × (relocation_for tables (at 0 0x80003008) Other ≡ Ok (Some External))
unfolding relocation_for first_from
kind_before_external = (refl, refl)

external_before_kind_and_first_match : relocation_for tables (at 0 0x8000300C) Absolute ≡ Ok (Some External)
unfolding relocation_for first_from
external_before_kind_and_first_match = refl

sum_of_2^32 : relocation_for tables (at 1 0x80004000) Absolute ≡ Err relocation_error
unfolding relocation_for first_from
sum_of_2^32 = refl

in_no_section : relocation_for tables (at 2 0x80004000) Any ≡ Ok None
unfolding relocation_for first_from
in_no_section = refl

values : (section_address_for tables (at 0 0x80003000) 0x80004007 ≡ Some (Address (at 1 0x80004007)))
    × (section_address_for tables (at 0 0x80003000) 0x80004008 ≡ None)
    × (section_address_for tables (at 0 0x80003008) 0x80003000 ≡ Some External)
unfolding section_address_for relocation_for first_from
values = (refl, refl, refl)

symbol_size : (known_size tables (at 1 0x80004000) ≡ 8) × (known_size tables (at 1 0x80004004) ≡ 0)
unfolding first_from
symbol_size = (refl, refl)

places : (code_place tables (at 0 0x8000300C) ≡ Ok tt) × (code_place tables (at 0 0x8000300E) ≡ Err Misaligned) × (code_place tables (at 0 0x80003010) ≡ Err NotCode)
    × (code_place tables (at 1 0x80004000) ≡ Err NotCode)
places = (refl, refl, refl, refl)

number : word_number tables (at 0 0x8000300C) ≡ 3
unfolding words_before
number = refl
