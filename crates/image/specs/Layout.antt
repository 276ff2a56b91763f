-- Where the image's records stand in its words: docs/FORMATS.md, "The image".
-- Assumes nothing.
use Rattle.std.specs.Prelude.{ℕ, ◌+◌, ◌*◌, List, get_or}
use Rattle.image.specs.declared.Section.{Section}
use Rattle.image.specs.declared.Bound.{Bound}
use Rattle.image.specs.declared.Unbound.{Unbound}
use Rattle.image.specs.declared.Symbol.{Symbol}

-- word k of the tables
abbrev pub word : List ℕ → ℕ → ℕ
word ws k = get_or ws k 0

-- the head: kind, module, and how many records each table has
abbrev pub image_kind : List ℕ → ℕ
image_kind ws = word ws 0

abbrev pub module_number : List ℕ → ℕ
module_number ws = word ws 1

abbrev pub sections : List ℕ → ℕ
sections ws = word ws 2

abbrev pub bounds : List ℕ → ℕ
bounds ws = word ws 3

abbrev pub unbounds : List ℕ → ℕ
unbounds ws = word ws 4

abbrev pub symbols : List ℕ → ℕ
symbols ws = word ws 5

-- where each table begins, and where the last one ends
abbrev pub bounds_from : List ℕ → ℕ
bounds_from ws = sections ws * 6 + 6

abbrev pub unbounds_from : List ℕ → ℕ
unbounds_from ws = bounds_from ws + bounds ws * 6

abbrev pub symbols_from : List ℕ → ℕ
symbols_from ws = unbounds_from ws + unbounds ws * 6

abbrev pub words_in_all : List ℕ → ℕ
words_in_all ws = symbols_from ws + symbols ws * 4

-- the records
abbrev pub section_at : List ℕ → ℕ → Section
section_at ws i =
    record {
      address = word ws (i * 6 + 6);
      size = word ws (i * 6 + 7);
      kind = word ws (i * 6 + 8);
      elf = word ws (i * 6 + 9);
      place = word ws (i * 6 + 10);
      length = word ws (i * 6 + 11);
    }

abbrev pub bound_at : List ℕ → ℕ → Bound
bound_at ws j =
    record {
      section = word ws (bounds_from ws + j * 6);
      address = word ws (bounds_from ws + j * 6 + 1);
      kind = word ws (bounds_from ws + j * 6 + 2);
      symbol_section = word ws (bounds_from ws + j * 6 + 3);
      symbol_address = word ws (bounds_from ws + j * 6 + 4);
      addend = word ws (bounds_from ws + j * 6 + 5);
    }

abbrev pub unbound_at : List ℕ → ℕ → Unbound
unbound_at ws j =
    record {
      section = word ws (unbounds_from ws + j * 6);
      address = word ws (unbounds_from ws + j * 6 + 1);
      «module» = word ws (unbounds_from ws + j * 6 + 2);
      kind = word ws (unbounds_from ws + j * 6 + 3);
      target = word ws (unbounds_from ws + j * 6 + 4);
      addend = word ws (unbounds_from ws + j * 6 + 5);
    }

abbrev pub symbol_at : List ℕ → ℕ → Symbol
symbol_at ws j =
    record {
      section = word ws (symbols_from ws + j * 4);
      address = word ws (symbols_from ws + j * 4 + 1);
      size = word ws (symbols_from ws + j * 4 + 2);
      known = word ws (symbols_from ws + j * 4 + 3);
    }
