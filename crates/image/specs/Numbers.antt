-- The numbers of document 01 and of the image's words, each named once.
-- Assumes nothing.
use Rattle.std.specs.Prelude.{ℕ}

-- limits
abbrev pub max_sections : ℕ
max_sections = 64

abbrev pub max_entries : ℕ
max_entries = 4096

abbrev pub max_code_words : ℕ
max_code_words = 262144

-- image kinds
abbrev pub executable_kind : ℕ
executable_kind = 0

-- section kinds: Code, Data, ReadOnly, Bss
abbrev pub code_kind : ℕ
code_kind = 0

abbrev pub data_kind : ℕ
data_kind = 1

abbrev pub read_only_kind : ℕ
read_only_kind = 2

abbrev pub bss_kind : ℕ
bss_kind = 3

-- relocation kinds: Absolute, other
abbrev pub absolute_kind : ℕ
absolute_kind = 0

-- a symbol without a section
abbrev pub no_section : ℕ
no_section = 0xFFFFFFFF
