-- Document 01's sentences on the walk, of every image, and the order of refusals.
-- Assumes of each law on the walk itself that nothing is refused; of the others nothing.
use Prim.Native.Nat.{ℕ, ◌*◌, ◌≤◌, ◌<◌}
use mathlib.Core.Path.{◌≡◌, refl, ap}
use mathlib.Core.Bool.{Bool, true, false}
use mathlib.Core.List.{List, [], ◌∷◌}
use native.Mathlib.Omega.{arith}
use lib.ListN.{length}
use borrow.Author.Tests.{leb-true}
use Rattle.std.specs.Prelude.{⊤, Result, Ok, Err}
use Rattle.words.specs.Choice.{pick}
use Rattle.places.specs.declared.SectionAddress.{SectionAddress}
use Rattle.image.specs.Rules.{code_words, sound}
use Rattle.lookups.specs.Code.{code_place, word_number}
use Rattle.vm.specs.declared.VM.{VM}
use Rattle.vm.specs.States.{bases_of}
use Rattle.stack.specs.Stack.{room}
use Rattle.visited.specs.Bits.{bit_at, visited_at, has_room, ones_below}
use Rattle.turns.specs.declared.WalkError.{WalkError}
use Rattle.turns.specs.declared.WalkError.TheVariants as error
use Rattle.turns.specs.Turns.{ended}
use Rattle.turns.specs.Histories.{steps, first_visits, blocks, tables, ReachedFrom}
use Rattle.turns.specs.Moves.{Lent, is_fine}
use Rattle.turns.specs.Walks.{Given, ground_in, starts_judged, judged_by, judged, walk_over, left_by, refused_with, walked}
use Rattle.turns.proofs.Lawful.{Lawful}
use Rattle.turns.proofs.Counts.{Sound}
use Rattle.turns.proofs.TurnLaws.{ended_empty}
use Rattle.turns.proofs.Starts.{end_sound, ends_on_any_input, blocks_never_exceed, steps_never_exceed, tables_never_exceed}
use Rattle.turns.proofs.Reached.{Honest, nothing_made_up, visited_was_reached}
use Rattle.turns.proofs.Missed.{Wanted, nothing_missed}
use Rattle.turns.proofs.HighBits.{high_bits_stay}
use Rattle.turns.proofs.SoundGround.{image_lawful}

-- answers are told apart by their numbers
done_or_not : (t : Bool) (a z : Result ⊤ WalkError) → pick t a z ≡ Ok tt → (z ≡ Ok tt → ⊥) → t ≡ true
done_or_not true a z e n = refl
done_or_not false a z e n = absurd (n e)

number_of : {a b : Result ⊤ WalkError} → a ≡ b → Rattle.turns.specs.Walks.answer_of a ≡ Rattle.turns.specs.Walks.answer_of b
number_of e = ap (λ (a : Result ⊤ WalkError). Rattle.turns.specs.Walks.answer_of a) e

module _ (i : Given) (vis : List ℕ) (lent : Lent) (fine : judged i vis ≡ Ok tt) where
  -- the image is sound, the map has its bits
  pub image_sound : sound i.tables (length i.bytes) ≡ true
  unfolding judged
  image_sound = done_or_not (sound i.tables (length i.bytes)) _ (Err error.BrokenImage) fine (λ e. let z = number_of e in omega arith)

  pub map_room : code_words i.tables ≤ length vis * 32
  unfolding judged
  map_room =
      leb-true _ _ (done_or_not (has_room vis (code_words i.tables)) _ (Err error.MapTooSmall) (rw image_sound at fine) (λ e. let z = number_of e in omega arith))

  pub lawful : Lawful (ground_in i lent)
  lawful = image_lawful i.tables i.bytes i.from i.upto (room (length lent.stack)) image_sound

  -- the result is the walk's
  pub walked_whole : walked i vis lent ≡ left_by (walk_over i vis lent)
  unfolding walked
  walked_whole = rw fine

  -- the walk ends on any input
  pub walk_ends : ended (ground_in i lent) (walk_over i vis lent) ≡ true
  unfolding walk_over
  walk_ends = ends_on_any_input (ground_in i lent) lawful i.starts (bases_of i.two i.thirteen) lent vis map_room

  walk_sound : Sound (ground_in i lent) (length vis) (walk_over i vis lent)
  unfolding walk_over
  walk_sound = end_sound (ground_in i lent) lawful i.starts (bases_of i.two i.thirteen) lent vis map_room

  -- "Steps that found their word unvisited number exactly the ones below bit W"
  pub first_visits_lem : first_visits (walk_over i vis lent).pile.log ≡ ones_below (walk_over i vis lent).vis (code_words i.tables)
  first_visits_lem = walk_sound.counted

  -- "Blocks begun never exceed W"
  pub few_blocks : blocks (walk_over i vis lent).pile.log ≤ code_words i.tables
  unfolding walk_over
  few_blocks = blocks_never_exceed (ground_in i lent) lawful i.starts (bases_of i.two i.thirteen) lent vis map_room

  -- "steps never exceed W times W"
  pub few_steps : steps (walk_over i vis lent).pile.log ≤ code_words i.tables * code_words i.tables
  unfolding walk_over
  few_steps = steps_never_exceed (ground_in i lent) lawful i.starts (bases_of i.two i.thirteen) lent vis map_room

  pub few_tables : tables (walk_over i vis lent).pile.log ≤ 2 * (code_words i.tables * code_words i.tables)
  unfolding walk_over
  few_tables = tables_never_exceed (ground_in i lent) lawful i.starts (bases_of i.two i.thirteen) lent vis map_room

  -- bits from W up, and the map's length, stay
  pub high_bits : (b : ℕ) → code_words i.tables ≤ b → bit_at (walk_over i vis lent).vis b ≡ bit_at vis b
  unfolding walk_over
  high_bits b high = high_bits_stay (ground_in i lent) lawful b high i.starts (bases_of i.two i.thirteen) lent vis

  pub map_length : length (walk_over i vis lent).vis ≡ length vis
  map_length = walk_sound.map_length

  -- nothing is made up: what was stepped, asked for, visited or waits was reached from a start, with its state
  pub all_reached : Honest (ground_in i lent) i.starts (bases_of i.two i.thirteen) (walk_over i vis lent)
  unfolding walk_over
  all_reached = nothing_made_up (ground_in i lent) i.starts (bases_of i.two i.thirteen) lawful lent vis

  pub visited_reached : (b : ℕ) → b < code_words i.tables → bit_at (walk_over i vis lent).vis b ≡ 1
      → (p : SectionAddress) × (s : VM) × ReachedFrom (ground_in i lent) i.starts (bases_of i.two i.thirteen) p s
      × (is_fine (code_place i.tables p) ≡ true) × (word_number i.tables p ≡ b)
  unfolding walk_over
  visited_reached = visited_was_reached (ground_in i lent) i.starts (bases_of i.two i.thirteen) lawful lent vis

  -- nothing is missed: unless 5 stops it, a walk visits every start, and every word of code that a stepped word leads to
  pub none_missed : (walk_over i vis lent).pile.full ≡ false → (q : SectionAddress) → Wanted (ground_in i lent) lawful i.starts (walk_over i vis lent).pile.log q
      → is_fine (code_place i.tables q) ≡ true → visited_at (walk_over i vis lent).vis (word_number i.tables q) ≡ true
  unfolding walk_over
  none_missed = nothing_missed (ground_in i lent) lawful i.starts (bases_of i.two i.thirteen) lent vis map_room

  -- a walk that is not stopped by 5 leaves nothing waiting
  pub done_empty : (walk_over i vis lent).pile.full ≡ false → (walk_over i vis lent).pile.stack ≡ []
  done_empty f = ended_empty (ground_in i lent) (walk_over i vis lent) f walk_ends

-- refusals: 1, 4, then the starts in turn, 2 before 3 for each; nothing is touched and the counts are 0
pub refuses_1 : (i : Given) (vis : List ℕ) (lent : Lent) → sound i.tables (length i.bytes) ≡ false
    → walked i vis lent ≡ refused_with error.BrokenImage vis lent
unfolding walked judged
refuses_1 i vis lent e = rw e

pub refuses_4 : (i : Given) (vis : List ℕ) (lent : Lent) → sound i.tables (length i.bytes) ≡ true → has_room vis (code_words i.tables) ≡ false
    → walked i vis lent ≡ refused_with error.MapTooSmall vis lent
unfolding walked judged
refuses_4 i vis lent e r = rw (e, r)

pub judges_starts : (i : Given) (vis : List ℕ) → sound i.tables (length i.bytes) ≡ true → has_room vis (code_words i.tables) ≡ true
    → judged i vis ≡ starts_judged i.tables i.starts
unfolding judged
judges_starts i vis e r = rw (e, r)

pub start_refused : (ws : List ℕ) (p : SectionAddress) (ps : List SectionAddress) → starts_judged ws (p ∷ ps) ≡ judged_by (code_place ws p) (starts_judged ws ps)
unfolding starts_judged
start_refused ws p ps = refl
