-- A straight run of words in an image: the abstract states and the machine's registers after each word.
-- Assumes nothing.
use Rattle.std.specs.Prelude.{ℕ, zero, suc, ◌+◌, ◌*◌, ◌^◌, ◌<◌, ◌≡◌, true, List, length, Ok, None}
use Rattle.words.specs.Bytes.{be32}
use Rattle.places.specs.declared.SectionAddress.{SectionAddress}
use Rattle.image.specs.Layout.{section_at}
use Rattle.image.specs.Rules.{sound}
use Rattle.lookups.specs.Relocations.{bound_index, unbound_index}
use Rattle.lookups.specs.Bytes.{data_from}
use Rattle.lookups.specs.Code.{code_place}
use Rattle.vm.specs.declared.VM.{VM}
use Rattle.step.specs.declared.Stepped.{Stepped}
use Rattle.step.specs.Step.{stepped_of}
use Rattle.straight.specs.Manual.{Kind, Is, executed, gpr}

-- the place k words on, in the same section
abbrev pub place_of : SectionAddress → ℕ → SectionAddress
place_of p k = record { section = p.section; address = p.address + k * 4 }

-- the word there, read from the section itself
abbrev pub word_of : List ℕ → List ℕ → SectionAddress → ℕ
word_of ws bs p = be32 (data_from ws bs p) 0

-- no relocation at its address, in either table
abbrev pub Bare : List ℕ → SectionAddress → Type 0
Bare ws p = (bound_index ws p ≡ None) × (unbound_index ws (section_at ws p.section).elf p.address ≡ None)

-- n words from p on, inside one Code section of a sound image, of these kinds, none with a relocation at its address
pub record StraightRun (ws bs : List ℕ) (p : SectionAddress) (kinds : ℕ → Kind) (n : ℕ) : Type 0 where
  pub image : sound ws (length bs) ≡ true
  pub inside : (k : ℕ) → k < n → code_place ws (place_of p k) ≡ Ok tt
  pub words : (k : ℕ) → k < n → Is (kinds k) (word_of ws bs (place_of p k))
  pub bare : (k : ℕ) → k < n → Bare ws (place_of p k)

-- what the public `step` answers at word k, from a state
abbrev pub step_at : List ℕ → List ℕ → SectionAddress → ℕ → VM → Stepped
step_at ws bs p k s = stepped_of ws (length bs) (place_of p k) (word_of ws bs (place_of p k)) s

-- the abstract state after k words
unfoldable pub state_after : List ℕ → List ℕ → SectionAddress → VM → ℕ → VM
state_after ws bs p s zero = s
state_after ws bs p s (suc k) = (step_at ws bs p k (state_after ws bs p s k)).vm

-- the machine's registers after k words
unfoldable pub machine_after : List ℕ → List ℕ → SectionAddress → (ℕ → Kind) → List ℕ → ℕ → List ℕ
machine_after ws bs p kinds m zero = m
machine_after ws bs p kinds m (suc k) = executed (kinds k) (word_of ws bs (place_of p k)) (machine_after ws bs p kinds m k)

-- the machine has thirty-two registers, each of 32 bits
pub record Machine (m : List ℕ) : Type 0 where
  pub registers : length m ≡ 32
  pub words : (r : ℕ) → gpr m r < 2 ^ 32
