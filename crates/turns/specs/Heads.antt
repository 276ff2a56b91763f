-- Where the code of a walk stands between two blocks: what it holds in words and numbers, and the turns that lead there.
-- Assumes nothing.
use Rattle.std.specs.Prelude.{ℕ, ◌+◌, ◌≡◌, Bool, false, Ok, Err, List, ◌++◌, length}
use Rattle.words.specs.Choice.{pick}
use Rattle.places.specs.declared.SectionAddress.{SectionAddress}
use Rattle.vm.specs.declared.VM.{VM}
use Rattle.stack.specs.Stack.{Entry, Stack, entries, room}
use Rattle.jump_tables.specs.Tables.{Outcome}
use Rattle.turns.specs.declared.WalkError.TheVariants as error
use Rattle.turns.specs.Grounds.{idle, Event, Pile, pile_of, conf}
use Rattle.turns.specs.Turns.{Reach, left_in}
use Rattle.turns.specs.Histories.{Tally}
use Rattle.turns.specs.Moves.{Asked, Lent, is_read}
use Rattle.turns.specs.Walks.{Given, Leaves, ground_in, start_in}

-- n states held in the stack's words, the entry buffer, whether a push was refused, and a history
abbrev pub pile_in : List ℕ → ℕ → List ℕ → Bool → List (Event SectionAddress VM Asked Outcome) → Pile SectionAddress VM Asked Outcome Entry Lent
pile_in words n buffer full l = pile_of (entries words n) full l (record { stack = words; entries = buffer })

-- what pushing in some way does to the words, the count and the buffer, whatever the history: the events it tells, of which r are tables
-- read and m tables not read
pub record Piles (push : Pile SectionAddress VM Asked Outcome Entry Lent → Pile SectionAddress VM Asked Outcome Entry Lent)
    (words : List ℕ) (n : ℕ) (buffer words' : List ℕ) (n' : ℕ) (buffer' : List ℕ) (full : Bool) (r m : ℕ) : Type 0 where
  pub extra : List (Event SectionAddress VM Asked Outcome)
  pub same : (l : List (Event SectionAddress VM Asked Outcome)) → push (pile_in words n buffer false l) ≡ pile_in words' n' buffer' full (extra ++ l)
  pub tally : Tally is_read extra 0 0 r m
  pub held : Stack words' n'
  pub words_length : length words' ≡ length words

-- nothing runs; the four counts are the history's
pub record Head (i : Given) (vis : List ℕ) (lent : Lent) (words : List ℕ) (n : ℕ) (buffer : List ℕ) (full : Bool) (v : List ℕ) (a b c d : ℕ) : Type 0 where
  pub log : List (Event SectionAddress VM Asked Outcome)
  pub reach : Reach (ground_in i lent) (start_in i vis lent) (conf idle (pile_in words n buffer full log) v)
  pub tally : Tally is_read log a b c d
  pub held : Stack words n
  pub slots : room (length words) ≡ room (length lent.stack)

-- a measure of the loop over blocks
abbrev pub head_left : Given → Lent → ℕ → List ℕ → ℕ
head_left i lent n v = left_in (ground_in i lent) idle v + n

-- what the walk leaves there, where it is done
abbrev pub left_at : List ℕ → ℕ → List ℕ → Bool → List ℕ → ℕ → ℕ → ℕ → ℕ → Leaves
left_at words n buffer full v a b c d = record {
  result = record { answer = pick full (Err error.StackFull) (Ok tt); stepped = a; begun = b; read = c; not_read = d; held = n };
  vis = v;
  lent = record { stack = words; entries = buffer };
}
