-- The walk's stack in words: what a push of crate `stack` is to the walk, and what a pop is.
-- Assumes words that hold a stack, with the walk's slots.
use Prim.Native.Nat.{ℕ, ◌≤◌, ◌<◌}
use mathlib.Core.Path.{◌≡◌, refl, ◌∙◌}
use mathlib.Core.Bool.{true, false, not}
use mathlib.Core.List.{List, [], ◌∷◌, ◌++◌}
use native.Mathlib.Decide.{dec_lt}
use native.Mathlib.Omega.{arith}
use lib.ListN.{length}
use Rattle.places.specs.declared.SectionAddress.{SectionAddress}
use Rattle.lookups.specs.Code.{code_place}
use Rattle.vm.specs.declared.VM.{VM}
use Rattle.slot.proofs.PutLaws.{listed_length}
use Rattle.std.specs.Prelude.{Option, is_some, unwrap_or}
use Rattle.stack.specs.Sort.{sort_by}
use Rattle.stack.specs.Stack.{Stack, entries, entry_key, held_at, room}
use Rattle.stack.specs.Push.{Pushes, pushed_words}
use Rattle.stack.proofs.Stacks as stacks
use Rattle.jump_tables.specs.Tables.{Outcome}
use Rattle.turns.specs.Grounds.{Event, pile_of}
use Rattle.turns.specs.Turns.{push_at}
use Rattle.turns.specs.Moves.{Asked, is_fine, ground_of}
use Rattle.turns.specs.Heads.{pile_in}
use Rattle.turns.proofs.TurnLaws.{push_taken, push_refused}

-- as many entries as are held
pub entries_length : (words : List ℕ) (n : ℕ) → length (entries words n) ≡ n
entries_length words n = listed_length (held_at words) n

module _ (ws bs : List ℕ) (from : SectionAddress) (upto : Option SectionAddress) (q : SectionAddress) (s : VM)
    (words : List ℕ) (n : ℕ) (buffer : List ℕ) (l : List (Event SectionAddress VM Asked Outcome)) (st : Stack words n)
    (r : Option ℕ) (words' : List ℕ) (d : Pushes words n q s true r words') where
  -- the pile after a push: the held states are sorted, and the words are those that pushing writes
  taken : n < room (length words)
      → pile_of (sort_by entry_key (entries words n ++ (record { place = q; state = s } ∷ []))) false l
      (record { stack = pushed_words words (length (entries words n)) q s true; entries = buffer })
      ≡ pile_in words' (unwrap_or r n) buffer (not (is_some r)) l
  taken free =
      let sorted = (stacks.sorted_push words n q s st r words' d free).0 in
      let yes-taken = stacks.push_taken words n q s st true r words' d free in
      let written = stacks.push_words words n q s st true r words' d free in
      rw (yes-taken, sorted, entries_length words n, written)

  refused : room (length words) ≤ n → pile_in words n buffer true l ≡ pile_in words' (unwrap_or r n) buffer (not (is_some r)) l
  refused full =
      let same = stacks.push_full words n q s st true r words' d full in
      rw (same.0, same.1, same.2)

  -- a push of crate `stack` is the walk's push
  pub push_is : is_fine (code_place ws q) ≡ true
      → push_at (ground_of ws bs from upto (room (length words))) q s (pile_in words n buffer false l) ≡ pile_in words' (unwrap_or r n) buffer (not (is_some r)) l
  push_is w = by (dec_lt n (room (length words)))
    where
      by : Dec (n < room (length words))
          → push_at (ground_of ws bs from upto (room (length words))) q s (pile_in words n buffer false l) ≡ pile_in words' (unwrap_or r n) buffer (not (is_some r)) l
      by (yes a) =
          push_taken (ground_of ws bs from upto (room (length words))) q s (pile_in words n buffer false l) refl w (rw (entries_length words n) a)
          ∙ taken a
      by (no a) =
          push_refused (ground_of ws bs from upto (room (length words))) q s (pile_in words n buffer false l) refl w
          (rw (entries_length words n) (let z : room (length words) ≤ n = omega arith in z))
          ∙ refused (omega arith)
