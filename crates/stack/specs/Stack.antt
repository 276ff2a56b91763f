-- A stack of waiting states in words: word 0 is how many slots were used since it was last empty, word 1 how many of the lowest states
-- are in order, then a table with a slot number for each slot, then the slots. How many states are held is a number beside the words.
use Rattle.std.specs.Prelude.{true, List, ◌≡◌, ℕ, ◌+◌, ◌-◌, ◌*◌, ◌/◌, ◌≤◌, ◌<◌, min, eqb, length, get_or}
use Rattle.places.specs.declared.SectionAddress.{SectionAddress}
use Rattle.slot.specs.Layout.{slot_size, place_in, state_in, is_slot}
use Rattle.slot.specs.Put.{listed}
use Rattle.vm.specs.declared.VM.{VM}
use Rattle.words.specs.Choice.{pick}

-- a waiting state and its place
pub record Entry : Type 0 where
  pub place : SectionAddress
  pub state : VM

-- how many slots n words have room for; a slot's number is one word
unfoldable pub room : ℕ → ℕ
room n = min ((n - 2) / (slot_size + 1)) 4294967295

-- where slot k begins
abbrev pub slot_at : List ℕ → ℕ → ℕ
slot_at ws k = 2 + room (length ws) + k * slot_size

-- the slot of the i-th state, counted from the lowest
abbrev pub order_at : List ℕ → ℕ → ℕ
order_at ws i = get_or ws (2 + i) 0

-- what slot k holds
abbrev pub entry_at : List ℕ → ℕ → Entry
entry_at ws k = record { place = place_in ws (slot_at ws k); state = state_in ws (slot_at ws k) }

-- the i-th state with its place
abbrev pub held_at : List ℕ → ℕ → Entry
held_at ws i = entry_at ws (order_at ws i)

-- the n held states, the next to pop last
abbrev pub entries : List ℕ → ℕ → List Entry
entries ws n = listed (held_at ws) n

-- places in order: by section, then by address
abbrev pub place_key : SectionAddress → ℕ
place_key p = p.section * 4294967296 + p.address

abbrev pub entry_key : Entry → ℕ
entry_key e = place_key e.place

-- the place of slot k as a number
abbrev pub slot_key : List ℕ → ℕ → ℕ
slot_key ws k = place_key (place_in ws (slot_at ws k))

abbrev pub key_at : List ℕ → ℕ → ℕ
key_at ws i = slot_key ws (order_at ws i)

-- slots in use: none while nothing is held, whatever the words
abbrev pub high_of : List ℕ → ℕ → ℕ
high_of ws n = pick (eqb n 0) 0 (get_or ws 0 0)

-- states in order: popping may leave word 1 above the count
abbrev pub sorted_of : List ℕ → ℕ → ℕ
sorted_of ws n = min (get_or ws 1 0) n

-- the first n numbers of the table name slots that are there, and their places are in order
pub record Ordered (ws : List ℕ) (n : ℕ) : Type 0 where
  pub within : n ≤ room (length ws)
  pub named : (i : ℕ) → i < n → order_at ws i < room (length ws)
  pub sorted : (i j : ℕ) → i ≤ j → j < n → key_at ws i ≤ key_at ws j

-- n states are held in the words: what every function here keeps, and asks of its callers
pub record Stack (ws : List ℕ) (n : ℕ) : Type 0 where
  pub count : n ≤ high_of ws n
  pub within : high_of ws n ≤ room (length ws)
  pub first : 0 < n → get_or ws 1 0 ≤ high_of ws n
  pub named : (i : ℕ) → i < high_of ws n → order_at ws i < high_of ws n
  pub apart : (i j : ℕ) → i < high_of ws n → j < high_of ws n → order_at ws i ≡ order_at ws j → i ≡ j
  pub sorted : (i j : ℕ) → i ≤ j → j < sorted_of ws n → key_at ws i ≤ key_at ws j
  pub slots : (i : ℕ) → i < n → is_slot ws (slot_at ws (order_at ws i)) ≡ true
