-- Document 01's cases C1 to C13: one computation over the table, and each case by it.
-- Assumes nothing.
use mathlib.Core.Path.{◌≡◌, refl, ap}
use mathlib.Core.List.Memᴰ
use mathlib.Core.List.{List, [], ◌∷◌, map, Memᴰ}
use Rattle.words.specs.Bits.{number, mask_of, rotated}
use Rattle.words.specs.Sums.{complement_of}
use Rattle.search.specs.First.{first_from}
use Rattle.search.specs.Every.{every}
use Rattle.image.specs.Rules.{sections_sound, elf_distinct, sections_apart, words_before, bounds_sound, ascending, unbounds_sound, symbols_sound, tables_sound, data_inside}
use Rattle.lookups.specs.Relocations.{relocation_for, section_address_for}
use Rattle.decoder.specs.Table.{rows, first}
use Rattle.decoder.specs.Decode.{row_of, decoded}
use Rattle.vm.specs.Rules.{rotate_of}
use Rattle.vm.specs.Splits.{split_of}
use Rattle.step.specs.Arms.{addis_gpr, addi_gpr, compare_of, to_spr, effect_by}
use Rattle.step.specs.Ways.{conditional_of, leave_of, left_of}
use Rattle.step.specs.Step.{done_of, step_of}
use Rattle.varint.specs.Groups.{groups}
use Rattle.report.specs.Runs.{runs, tab}
use Rattle.report.specs.Bytes.{run_bytes, sections_bytes}
use Rattle.cases.specs.Asks.{last, answer}
use Rattle.cases.specs.Table.{Case, table}

-- the whole table at once
computed : map (λ c. answer c.asks) table ≡ map (λ c. c.gives) table
unfolding answer last step_of done_of effect_by addis_gpr addi_gpr compare_of to_spr conditional_of leave_of left_of rotate_of split_of decoded row_of rows first number mask_of rotated complement_of relocation_for section_address_for first_from every sections_sound elf_distinct sections_apart words_before bounds_sound ascending unbounds_sound symbols_sound tables_sound data_inside groups runs tab run_bytes sections_bytes
computed = refl

abbrev head_or : {B : Type 0} → B → List B → B
head_or z [] = z
head_or z (x ∷ l) = x

abbrev rest : {B : Type 0} → List B → List B
rest [] = []
rest (x ∷ l) = l

-- two functions that agree along a list agree at each of its members
agree_at : {A B : Type 0} (f g : A → B) {x : A} {l : List A} → map f l ≡ map g l → Memᴰ x l → f x ≡ g x
agree_at f g {l = []} e m = absurd (Memᴰ.not-nil m)
agree_at f g {x} {l = y ∷ l} e (Memᴰ.head h) = rw h (ap (head_or (f y)) e)
agree_at f g {l = y ∷ l} e (Memᴰ.tail m) = agree_at f g (ap rest e) m

-- every case of the table gives what it must
pub cases : (c : Case) → Memᴰ c table → answer c.asks ≡ c.gives
cases c m = agree_at (λ c. answer c.asks) (λ c. c.gives) computed m
