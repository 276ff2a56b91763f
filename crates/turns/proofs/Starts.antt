-- The walk from its starts: sound at the beginning and at the end, so that document 01's sentences on counts hold of it.
-- Assumes a lawful ground and a map with a bit for each word.
use Prim.Native.Nat.{ℕ, ◌*◌, ◌≤◌}
use mathlib.Core.Path.{◌≡◌, sym}
use mathlib.Core.Bool.{true, false}
use mathlib.Core.List.{List, []}
use native.Mathlib.Omega.{arith}
use lib.ListN.{length}
use Rattle.visited.specs.Bits.{ones_below}
use Rattle.visited.proofs.Clearing.{cleared_length}
use Rattle.visited.proofs.Visits.{cleared_counts_nothing}
use Rattle.turns.specs.Grounds.{Ground, pile_of}
use Rattle.turns.specs.Turns.{ended, start_of, walk_from}
use Rattle.turns.specs.Histories.{total, steps, first_visits, blocks, tables}
use Rattle.turns.proofs.Lists.{Each}
use Rattle.turns.proofs.Lawful.{Lawful}
use Rattle.turns.proofs.Pushes.{pushes_silent, pushed_wait}
use Rattle.turns.proofs.Counts.{Sound}
use Rattle.turns.proofs.WalkEnds.{reach_sound, walk_ends, walk_reached, few_blocks, few_steps}

module _ {P S A O E M : Type 0} (g : Ground P S A O E M) (laws : Lawful g) (starts : List P) (s : S) (m : M) (v : List ℕ)
    (bits : g.words ≤ length v * 32) where
  pub start_sound : Sound g (length v) (start_of g starts s m v)
  unfolding Each total
  start_sound =
      let silent = pushes_silent g s starts (pile_of [] false [] m) in
      let none = cleared_counts_nothing v g.words g.words (omega arith) in
      record {
        map_length = cleared_length v g.words;
        waiting = pushed_wait g laws.place_kept s starts (pile_of [] false [] m) tt;
        counted = rw silent (sym none);
        once = rw silent (omega arith);
        short = rw silent (omega arith);
        asked = rw silent (omega arith);
      }

  pub end_sound : Sound g (length v) (walk_from g starts s m v)
  end_sound = reach_sound g (length v) laws bits (walk_reached g (start_of g starts s m v)) start_sound

  -- the walk ends: nothing runs and nothing waits, or a push was refused
  pub ends_on_any_input : ended g (walk_from g starts s m v) ≡ true
  ends_on_any_input = walk_ends g (length v) laws bits (start_of g starts s m v) start_sound

  -- "Steps that found their word unvisited number exactly the ones below bit W"
  pub first_visits_are_ones : first_visits (walk_from g starts s m v).pile.log ≡ ones_below (walk_from g starts s m v).vis g.words
  first_visits_are_ones = end_sound.counted

  -- "Blocks begun never exceed W"
  pub blocks_never_exceed : blocks (walk_from g starts s m v).pile.log ≤ g.words
  blocks_never_exceed = few_blocks g (length v) laws bits (walk_from g starts s m v) end_sound

  -- "steps never exceed W times W"
  pub steps_never_exceed : steps (walk_from g starts s m v).pile.log ≤ g.words * g.words
  steps_never_exceed = few_steps g (length v) laws bits (walk_from g starts s m v) end_sound

  -- each step asks for two tables at most
  pub tables_never_exceed : tables (walk_from g starts s m v).pile.log ≤ 2 * (g.words * g.words)
  tables_never_exceed = omega (arith, end_sound.asked, steps_never_exceed)
