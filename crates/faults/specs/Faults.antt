-- The first rule that an image breaks: the rules are those of image/specs/Rules.antt, in their order there.
-- Assumes nothing.
use Rattle.std.specs.Prelude.{ℕ, Bool, List, Option, Some, None}
use Rattle.words.specs.Choice.{pick}
use Rattle.image.specs.Rules.{laid_out, counted, kind_known, sections_sound, elf_distinct, sections_apart, few_code_words, bounds_sound, bounds_ascend, unbounds_sound, symbols_sound, symbols_ascend, data_inside}
use Rattle.faults.specs.declared.Rule.{Rule}
use Rattle.faults.specs.declared.Rule.TheVariants.{Words, Counts, Kind, Sections, ElfNumbers, Overlaps, CodeWords, Bounds, BoundOrder, Unbounds, Symbols, SymbolOrder, Data}

-- a rule where its test fails, else what comes after it
abbrev pub unless : Bool → Rule → Option Rule → Option Rule
unless holds r later = pick holds later (Some r)

unfoldable pub symbol_rule : List ℕ → ℕ → Option Rule
symbol_rule ws n =
    unless (symbols_sound ws) Symbols (unless (symbols_ascend ws) SymbolOrder (unless (data_inside ws n) Data None))

unfoldable pub table_rule : List ℕ → ℕ → Option Rule
table_rule ws n =
    unless (bounds_sound ws) Bounds (unless (bounds_ascend ws) BoundOrder (unless (unbounds_sound ws) Unbounds (symbol_rule ws n)))

unfoldable pub section_rule : List ℕ → ℕ → Option Rule
section_rule ws n =
    unless (kind_known ws) Kind
    (unless (sections_sound ws) Sections
    (unless (elf_distinct ws) ElfNumbers
    (unless (sections_apart ws) Overlaps (unless (few_code_words ws) CodeWords (table_rule ws n)))))

-- every rule, in order
unfoldable pub broken_rule : List ℕ → ℕ → Option Rule
broken_rule ws n = unless (laid_out ws) Words (unless (counted ws) Counts (section_rule ws n))
