-- Rule 1: what makes an image sound, a named line for each sentence of document 01, section "The image".
-- Assumes nothing.
use Rattle.std.specs.Prelude.{ℕ, zero, suc, ◌+◌, ◌-◌, ◌/◌, ◌%◌, ◌^◌, min, max, Bool, true, false, ◌&&◌, ◌||◌, not, List, length, leb, ltb, eqb, Result, Ok, Err, ⊤, Option}
use Rattle.words.specs.Choice.{pick}
use Rattle.places.specs.declared.SectionAddress.{SectionAddress}
use Rattle.places.specs.Places.{before}
use Rattle.search.specs.First.{first, on_found}
use Rattle.search.specs.Every.{every}
use Rattle.image.specs.declared.Section.{Section}
use Rattle.image.specs.declared.Bound.{Bound}
use Rattle.image.specs.declared.Unbound.{Unbound}
use Rattle.image.specs.declared.Symbol.{Symbol}
use Rattle.image.specs.Numbers.{max_sections, max_entries, max_code_words, executable_kind, code_kind, bss_kind, absolute_kind, no_section}
use Rattle.image.specs.Layout.{image_kind, sections, bounds, unbounds, symbols, words_in_all, section_at, bound_at, unbound_at, symbol_at}
use Rattle.image.specs.declared.BrokenImage.{BrokenImage}

-- the words are as many as the head says
abbrev pub laid_out : List ℕ → Bool
laid_out ws = eqb (length ws) (words_in_all ws)

-- 1 to 64 sections, at most 4,096 entries in each further table
abbrev pub counted : List ℕ → Bool
counted ws = leb 1 (sections ws) && leb (sections ws) max_sections && leb (bounds ws) max_entries && leb (unbounds ws) max_entries && leb (symbols ws) max_entries

-- Executable or Relocatable
abbrev pub kind_known : List ℕ → Bool
kind_known ws = ltb (image_kind ws) 2

-- the address just past a section
abbrev pub end_of : Section → ℕ
end_of s = s.address + s.size

-- an address lies in a section
abbrev pub holds : Section → ℕ → Bool
holds s a = leb s.address a && ltb a (end_of s)

-- Code address and size are multiples of 4
abbrev pub aligned : Section → Bool
aligned s = pick (eqb s.kind code_kind) (eqb (s.address % 4) 0 && eqb (s.size % 4) 0) true

-- a known kind, an end below 2^32, data of exactly size bytes and none for Bss, Code aligned
abbrev pub section_sound : Section → Bool
section_sound s = ltb s.kind 4 && ltb (end_of s) (2 ^ 32) && eqb s.length (pick (eqb s.kind bss_kind) 0 s.size) && aligned s

unfoldable pub sections_sound : List ℕ → Bool
sections_sound ws = every (λ (i : ℕ). section_sound (section_at ws i)) (sections ws)

-- elf numbers are distinct
unfoldable pub elf_distinct : List ℕ → Bool
elf_distinct ws = every (λ (i : ℕ). every (λ (j : ℕ). not (eqb (section_at ws j).elf (section_at ws i).elf)) i) (sections ws)

-- two sections share no byte: what both hold runs from the larger address to the smaller end
abbrev pub apart : Section → Section → Bool
apart s t = leb (min (end_of s) (end_of t)) (max s.address t.address)

-- in an Executable no byte is in two sections
unfoldable pub sections_apart : List ℕ → Bool
sections_apart ws =
    pick (eqb (image_kind ws) executable_kind)
    (every (λ (i : ℕ). every (λ (j : ℕ). apart (section_at ws j) (section_at ws i)) i) (sections ws))
    true

-- the Code words of a section
abbrev pub words_of : Section → ℕ
words_of s = pick (eqb s.kind code_kind) (s.size / 4) 0

-- the Code words of the sections before number i
unfoldable pub words_before : List ℕ → ℕ → ℕ
words_before ws zero = 0
words_before ws (suc i) = words_before ws i + words_of (section_at ws i)

-- W, the Code words in all
abbrev pub code_words : List ℕ → ℕ
code_words ws = words_before ws (sections ws)

abbrev pub few_code_words : List ℕ → Bool
few_code_words ws = leb (code_words ws) max_code_words

-- a relocation lies in its section; an Absolute one has all four bytes there
abbrev pub lies_in : Section → ℕ → ℕ → Bool
lies_in s a kind = leb s.address a && leb (a + pick (eqb kind absolute_kind) 4 1) (end_of s)

-- the sections with a given elf number: the first, since there is at most one
abbrev pub has_elf : List ℕ → ℕ → ℕ → Bool
has_elf ws elf i = eqb (section_at ws i).elf elf

abbrev pub elf_index : List ℕ → ℕ → Option ℕ
elf_index ws elf = first (has_elf ws elf) (sections ws)

-- bound relocations: an existing section that holds them, a known kind, an existing symbol section or none
abbrev pub bound_sound : List ℕ → Bound → Bool
bound_sound ws r =
    ltb r.section (sections ws) && ltb r.kind 2 && lies_in (section_at ws r.section) r.address r.kind
    && (eqb r.symbol_section no_section || ltb r.symbol_section (sections ws))

unfoldable pub bounds_sound : List ℕ → Bool
bounds_sound ws = every (λ (j : ℕ). bound_sound ws (bound_at ws j)) (bounds ws)

-- the places of the sorted tables
abbrev pub bound_place : List ℕ → ℕ → SectionAddress
bound_place ws j = record { section = (bound_at ws j).section; address = (bound_at ws j).address }

abbrev pub symbol_place : List ℕ → ℕ → SectionAddress
symbol_place ws j = record { section = (symbol_at ws j).section; address = (symbol_at ws j).address }

-- strictly ascending: each of n places stands before the next
unfoldable pub ascending : (ℕ → SectionAddress) → ℕ → Bool
ascending at n = every (λ (j : ℕ). before (at j) (at (j + 1))) (n - 1)

abbrev pub bounds_ascend : List ℕ → Bool
bounds_ascend ws = ascending (bound_place ws) (bounds ws)

-- unbound relocations: a known kind, in the section with their elf number, which exists
abbrev pub unbound_sound : List ℕ → Unbound → Bool
unbound_sound ws r =
    ltb r.kind 2 && on_found (elf_index ws r.section) (λ (i : ℕ). lies_in (section_at ws i) r.address r.kind) false

unfoldable pub unbounds_sound : List ℕ → Bool
unbounds_sound ws = every (λ (j : ℕ). unbound_sound ws (unbound_at ws j)) (unbounds ws)

-- object symbols: an existing section, a flag of 0 or 1
abbrev pub symbol_sound : List ℕ → Symbol → Bool
symbol_sound ws s = ltb s.section (sections ws) && ltb s.known 2

unfoldable pub symbols_sound : List ℕ → Bool
symbols_sound ws = every (λ (j : ℕ). symbol_sound ws (symbol_at ws j)) (symbols ws)

abbrev pub symbols_ascend : List ℕ → Bool
symbols_ascend ws = ascending (symbol_place ws) (symbols ws)

-- the rules on the tables
unfoldable pub tables_sound : List ℕ → Bool
tables_sound ws =
    laid_out ws && counted ws && kind_known ws && sections_sound ws && elf_distinct ws && sections_apart ws && few_code_words ws
    && bounds_sound ws && bounds_ascend ws && unbounds_sound ws && symbols_sound ws && symbols_ascend ws

-- the rule on the data: each section's lies in a buffer of that many bytes
unfoldable pub data_inside : List ℕ → ℕ → Bool
data_inside ws n = every (λ (i : ℕ). leb ((section_at ws i).place + (section_at ws i).length) n) (sections ws)

-- an image is sound where no rule is broken
abbrev pub sound : List ℕ → ℕ → Bool
sound ws n = tables_sound ws && data_inside ws n

-- the answer, and its number in document 01: 1 for a broken rule
abbrev pub broken : BrokenImage
broken = record {}

abbrev pub judged : List ℕ → ℕ → Result ⊤ BrokenImage
judged ws n = pick (sound ws n) (Ok tt) (Err broken)

abbrev pub answer_of : Result ⊤ BrokenImage → ℕ
answer_of (Ok tt) = 0
answer_of (Err why) = 1
