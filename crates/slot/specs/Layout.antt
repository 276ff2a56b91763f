-- The layout of a slot, the one place that says it: the place's two words, then eight words for each of thirty-two registers, eight
-- for each of eight compare records, four each for LR and CTR. Assumes nothing.
use Rattle.std.specs.Prelude.{Bool, List, [], ◌∷◌, ◌++◌, ℕ, ◌+◌, ◌*◌, ◌/◌, ◌%◌, eqb, get_or}
use Rattle.places.specs.declared.SectionAddress.{SectionAddress}
use Rattle.vm.specs.Registers.{blank, no_cr}
use Rattle.vm.specs.declared.Cr.{Cr}
use Rattle.vm.specs.declared.Gpr.{Gpr}
use Rattle.vm.specs.declared.GprValue.{GprValue}
use Rattle.vm.specs.declared.Held.{Held}
use Rattle.vm.specs.declared.VM.{VM}
use Rattle.slot.specs.Put.{matches, many, listed}
use Rattle.slot.specs.Values.{numbers_of, value_of, address_numbers, maybe_of, bit_of}
use Rattle.slot.specs.declared.AddressNumbers.{AddressNumbers}
use Rattle.slot.specs.declared.Numbers.{Numbers}

-- how many words a slot has, and how many a state
abbrev pub slot_size : ℕ
slot_size = 330

abbrev pub state_size : ℕ
state_size = 328

abbrev pub quad : ℕ → Numbers → List ℕ
quad head n = head ∷ n.a ∷ n.b ∷ n.c ∷ []

abbrev pub pair : AddressNumbers → AddressNumbers → List ℕ
pair h l = h.section ∷ h.address ∷ l.section ∷ l.address ∷ []

-- the first word of a register: the value's tag, and in the next two bits whether the places are there
abbrev pub register_head : Gpr → ℕ
register_head g = (numbers_of g.value).tag + 16 * (address_numbers g.hi_addr).known + 32 * (address_numbers g.lo_addr).known

abbrev pub register_words : Gpr → List ℕ
register_words g = quad (register_head g) (numbers_of g.value) ++ pair (address_numbers g.hi_addr) (address_numbers g.lo_addr)

-- the first word of a compare record: the left value's tag, and in the next bit whether it is signed
abbrev pub compare_head : Cr → ℕ
compare_head r = (numbers_of r.left).tag + 16 * bit_of r.signed

abbrev pub compare_words : Cr → List ℕ
compare_words r = quad (compare_head r) (numbers_of r.left) ++ quad (numbers_of r.right).tag (numbers_of r.right)

abbrev pub value_words : GprValue → List ℕ
value_words v = quad (numbers_of v).tag (numbers_of v)

abbrev pub ends_words : Held → Held → List ℕ
ends_words lr ctr = value_words lr.value ++ value_words ctr.value

unfoldable pub state_words : VM → List ℕ
state_words s = many register_words blank 32 s.gpr ++ (many compare_words no_cr 8 s.cr ++ ends_words s.lr s.ctr)

abbrev pub place_words : SectionAddress → List ℕ
place_words p = p.section ∷ p.address ∷ []

-- the words of a place and a state
abbrev pub slot_words : SectionAddress → VM → List ℕ
slot_words p s = place_words p ++ state_words s

-- read back from the words at a number of a list

abbrev pub value_at : List ℕ → ℕ → ℕ → GprValue
value_at ws tag at = value_of tag (get_or ws (at + 1) 0) (get_or ws (at + 2) 0) (get_or ws (at + 3) 0)

abbrev pub register_at : List ℕ → ℕ → Gpr
register_at ws at = record {
  value = value_at ws (get_or ws at 0 % 16) at;
  hi_addr = maybe_of (get_or ws at 0 / 16 % 2) (get_or ws (at + 4) 0) (get_or ws (at + 5) 0);
  lo_addr = maybe_of (get_or ws at 0 / 32 % 2) (get_or ws (at + 6) 0) (get_or ws (at + 7) 0);
}

abbrev pub compare_at : List ℕ → ℕ → Cr
compare_at ws at = record {
  left = value_at ws (get_or ws at 0 % 16) at;
  right = value_at ws (get_or ws (at + 4) 0) (at + 4);
  signed = eqb (get_or ws at 0 / 16 % 2) 1;
}

abbrev pub held_at : List ℕ → ℕ → Held
held_at ws at = record { value = value_at ws (get_or ws at 0) at }

unfoldable pub state_at : List ℕ → ℕ → VM
state_at ws at = record {
  gpr = listed (λ (i : ℕ). register_at ws (at + i * 8)) 32;
  cr = listed (λ (i : ℕ). compare_at ws (at + 256 + i * 8)) 8;
  lr = held_at ws (at + 320);
  ctr = held_at ws (at + 324);
}

-- the place and the state of the slot that begins at a number of a list
abbrev pub place_in : List ℕ → ℕ → SectionAddress
place_in ws at = record { section = get_or ws at 0; address = get_or ws (at + 1) 0 }

abbrev pub state_in : List ℕ → ℕ → VM
state_in ws at = state_at ws (at + 2)

-- whether the words there are ones that some place and state write: they are what the place and state that are read there write
abbrev pub is_slot : List ℕ → ℕ → Bool
is_slot ws at = matches ws at (slot_words (place_in ws at) (state_in ws at))
