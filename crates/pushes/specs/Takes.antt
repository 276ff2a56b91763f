-- What pushing leaves, piece by piece, in the words of crate `turns` (`Piles`).
-- Assumes nothing.
use Rattle.std.specs.Prelude.{ℕ, ◌≡◌, Bool, true, false, List, ◌∷◌, map, length, take, eqb, Option}
use Rattle.places.specs.declared.SectionAddress.{SectionAddress}
use Rattle.places.specs.Places.{moved}
use Rattle.places.specs.declared.RelocationTarget.{RelocationTarget}
use Rattle.places.specs.declared.RelocationTarget.TheVariants as target
use Rattle.lookups.specs.Code.{code_place}
use Rattle.vm.specs.declared.VM.{VM}
use Rattle.vm.specs.declared.BranchTarget.{BranchTarget}
use Rattle.vm.specs.declared.BranchTarget.TheVariants as branch
use Rattle.step.specs.declared.Leave.{Leave}
use Rattle.stack.specs.Stack.{Stack, Entry, room}
use Rattle.jump_tables.specs.Tables.{Outcome}
use Rattle.turns.specs.Grounds.{Way, to, table, leave, Pile}
use Rattle.turns.specs.Turns.{push_at, push_each, take_way, take_ways}
use Rattle.turns.specs.Moves.{Asked, Lent, is_fine, place_of, asked_of, ways_of, ground_of, table_room}
use Rattle.turns.specs.Straight.{leaving}
use Rattle.turns.specs.Heads.{Piles}
use Rattle.pushes.specs.declared.Taken.{Taken}

-- nothing was pushed onto n states
abbrev pub none : ℕ → Taken
none n = record { held = n; full = false; read = 0; not_read = 0 }

-- the same for a table that was not read
abbrev pub unread : ℕ → Taken
unread n = record { held = n; full = false; read = 0; not_read = 1 }

-- a target that is a word of code or a table; to any other nothing is pushed
abbrev pub place_is_way : List ℕ → RelocationTarget → Bool
place_is_way ws target.External = false
place_is_way ws (target.Address q) = is_fine (code_place ws q)

abbrev pub is_way : List ℕ → BranchTarget → Bool
is_way ws branch.Unknown = false
is_way ws branch.Return = false
is_way ws (branch.Address t) = place_is_way ws t
is_way ws (branch.JumpTable t n) = true

-- a target that is an address in the section of p
abbrev pub place_stays_in : SectionAddress → RelocationTarget → Bool
place_stays_in p target.External = false
place_stays_in p (target.Address q) = eqb q.section p.section

abbrev pub stays_in : SectionAddress → BranchTarget → Bool
stays_in p branch.Unknown = false
stays_in p branch.Return = false
stays_in p (branch.Address t) = place_stays_in p t
stays_in p (branch.JumpTable t n) = false

-- pushing in some way onto n states in the words left these words, this buffer and this answer
abbrev pub Takes : (Pile SectionAddress VM Asked Outcome Entry Lent → Pile SectionAddress VM Asked Outcome Entry Lent)
    → List ℕ → ℕ → List ℕ → List ℕ → List ℕ → Taken → Type 0
Takes push words n buffer words' buffer' r = Piles push words n buffer words' r.held buffer' r.full r.read r.not_read

-- one place with a state, whatever the data, the function bounds and the entry buffer are
pub record PushedAt (ws words : List ℕ) (n : ℕ) (q : SectionAddress) (s : VM) (words' : List ℕ) (r : Taken) : Type 0 where
  pub piles : (bs : List ℕ) (from : SectionAddress) (upto : Option SectionAddress) (buffer : List ℕ)
      → Piles (push_at (ground_of ws bs from upto (room (length words))) q s) words n buffer words' r.held buffer r.full 0 0
  pub read : r.read ≡ 0
  pub not_read : r.not_read ≡ 0

-- the first e keys in order, each with the same state
pub record PushedKeys (ws words : List ℕ) (n : ℕ) (keys : List ℕ) (e : ℕ) (s : VM) (words' : List ℕ) (r : Taken) : Type 0 where
  pub piles : (bs : List ℕ) (from : SectionAddress) (upto : Option SectionAddress) (buffer : List ℕ)
      → Piles (push_each (ground_of ws bs from upto (room (length words))) s (map place_of (take e keys))) words n buffer words' r.held buffer r.full 0 0
  pub read : r.read ≡ 0
  pub not_read : r.not_read ≡ 0

-- a table that the word at any place asks for
abbrev pub TakenTable : List ℕ → List ℕ → SectionAddress → Option SectionAddress → List ℕ → ℕ → List ℕ → RelocationTarget → Option ℕ → VM → List ℕ → List ℕ → Taken → Type 0
TakenTable ws bs from upto words n buffer t size s words' buffer' r =
    (p : SectionAddress) → Takes (take_way (ground_of ws bs from upto (room (length words))) p (table (asked_of t size) s)) words n buffer words' buffer' r

-- a target that the word at any place leads to
abbrev pub TakenTarget : List ℕ → List ℕ → SectionAddress → Option SectionAddress → List ℕ → ℕ → List ℕ → BranchTarget → VM → List ℕ → List ℕ → Taken → Type 0
TakenTarget ws bs from upto words n buffer t s words' buffer' r =
    (p : SectionAddress) → Takes (take_ways (ground_of ws bs from upto (room (length words))) p (ways_of t s)) words n buffer words' buffer' r

-- all ways of a word that leaves; of a jump inside the section only that a stack is left
pub record TakenWays (ws bs : List ℕ) (from : SectionAddress) (upto : Option SectionAddress) (words : List ℕ) (n : ℕ) (buffer : List ℕ)
    (at : SectionAddress) (l : Leave) (s : VM) (words' buffer' : List ℕ) (r : Taken) : Type 0 where
  pub ways : (ys : List (Way SectionAddress VM Asked)) → leaving l at s ≡ leave ys
      → Takes (take_ways (ground_of ws bs from upto (room (length words))) at ys) words n buffer words' buffer' r
  pub held : Stack words' r.held
  pub words_length : length words' ≡ length words
  pub buffer_length : length buffer' ≡ table_room

-- the next word with one state, then a target with another: the ways of any word that leaves by those two
abbrev pub TakenTwo : List ℕ → List ℕ → SectionAddress → Option SectionAddress → List ℕ → ℕ → List ℕ → SectionAddress → BranchTarget → VM → VM → VM → List ℕ → List ℕ → Taken → Type 0
TakenTwo ws bs from upto words n buffer at t s₁ s₂ s words' buffer' r =
    (l : Leave) → leaving l at s ≡ leave (to (moved at 4) s₁ ∷ ways_of t s₂) → TakenWays ws bs from upto words n buffer at l s words' buffer' r
