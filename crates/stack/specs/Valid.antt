-- Which words and count are a stack, as a test: 12 is answered where it fails.
-- Assumes nothing: any words and any count.
use Rattle.std.specs.Prelude.{Bool, true, not, ◌&&◌, List, ℕ, ◌+◌, ◌-◌, eqb, leb, ltb, length, get_or}
use Rattle.search.specs.Every.{every}
use Rattle.slot.specs.Layout.{is_slot}
use Rattle.words.specs.Choice.{pick}
use Rattle.stack.specs.Stack.{room, slot_at, order_at, key_at, sorted_of}

-- number i of the table is none of those before it
abbrev pub is_fresh : List ℕ → ℕ → Bool
is_fresh ws i = every (λ (j : ℕ). not (eqb (order_at ws j) (order_at ws i))) i

-- the first h numbers of the table are 0, 1, .., h - 1 in some order
abbrev pub is_named : List ℕ → ℕ → Bool
is_named ws h = every (λ (i : ℕ). (ltb (order_at ws i) h) && (is_fresh ws i)) h

-- the first n states are in order of place
abbrev pub is_ordered : List ℕ → ℕ → Bool
is_ordered ws n = every (λ (i : ℕ). leb (key_at ws i) (key_at ws (i + 1))) (n - 1)

-- each of n slots holds words that some state at some place writes
abbrev pub is_held : List ℕ → ℕ → Bool
is_held ws n = every (λ (i : ℕ). is_slot ws (slot_at ws (order_at ws i))) n

-- nothing is held, or word 0 lies between the count and the room, word 1 below it, and table and slots are as pushing leaves them
abbrev pub valid_stack : List ℕ → ℕ → Bool
valid_stack ws n =
    pick (eqb n 0) true
    ((leb n (get_or ws 0 0)) && (leb (get_or ws 0 0) (room (length ws))) && (leb (get_or ws 1 0) (get_or ws 0 0))
    && (is_named ws (get_or ws 0 0)) && (is_ordered ws (sorted_of ws n)) && (is_held ws n))
