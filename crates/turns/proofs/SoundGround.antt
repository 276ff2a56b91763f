-- Every sound image is lawful ground: its words are numbered in order, and no word pushes more than two tables' entries.
-- Assumes a sound image.
use Prim.Native.Nat.{ℕ, ◌+◌, ◌*◌, ◌/◌, ◌%◌, ◌≤◌}
use mathlib.Core.Path.{◌≡◌, refl, sym, ap, ◌∙◌}
use mathlib.Core.Bool.{Bool, true, false, true≢false}
use mathlib.Core.List.{List, [], ◌∷◌, ◌++◌}
use native.Mathlib.Nat.{mod-eq_of_lt}
use native.Mathlib.Omega.{arith}
use lib.ListN.{length, replicate, length-append, length-map, length-take}
use lib.Dec.{eqb, leb}
use borrow.Author.Tests.{eqb-true, leb-true}
use Rattle.std.specs.Prelude.{Option, Some, None, Ok, Err}
use Rattle.words.specs.Choice.{pick}
use Rattle.words.specs.Sums.{sum}
use Rattle.places.specs.declared.SectionAddress.{SectionAddress}
use Rattle.places.specs.declared.RelocationTarget.{RelocationTarget}
use Rattle.places.specs.declared.RelocationTarget.TheVariants as target
use Rattle.image.specs.Rules.{sound}
use Rattle.image.proofs.SoundTables.{tables_of_sound}
use Rattle.lookups.specs.Code.{in_code, code_place, word_number}
use Rattle.lookups.proofs.SoundSections.{InCode, in_code_lem}
use Rattle.lookups.proofs.WordNumbers.{word_number_below, next_word_number}
use Rattle.vm.specs.declared.VM.{VM}
use Rattle.vm.specs.declared.BranchTarget.{BranchTarget}
use Rattle.vm.specs.declared.BranchTarget.TheVariants as branch
use Rattle.step.specs.declared.StepResult.{StepResult}
use Rattle.step.specs.declared.StepResult.TheVariants as result
use Rattle.step.specs.declared.Stepped.{Stepped}
use Rattle.step.specs.Step.{step_of}
use Rattle.jump_tables.specs.declared.TableError.{TableError}
use Rattle.jump_tables.specs.declared.TableError.TheVariants as error
use Rattle.jump_tables.specs.declared.Reading.{Reading}
use Rattle.jump_tables.specs.declared.How.TheVariants.{Sized}
use Rattle.jump_tables.specs.Tables.{count_of, Outcome, refused, filled, fitted, on_verdict, verdict, entries_of, read_off, sized_table, guessed_table, is_table, size_of, table_in, clamped_size, words_passed}
use Rattle.turns.specs.Grounds.{Way, to, Move, jump, leave, on_move}
use Rattle.turns.specs.Moves.{table_room, most_pushed, Asked, is_fine, word_of, asked_of, way_to, ways_of, jump_to, jump_by, move_by, move_at, look_to, look_at, listed_in, ground_of}
use Rattle.turns.proofs.Lawful.{widths, Lawful}
use Rattle.lookups.specs.declared.PlaceError.TheVariants as place

-- an aligned code address is in code, and aligned
pub fine_place : (ws : List ℕ) (p : SectionAddress) → is_fine (code_place ws p) ≡ true → (in_code ws p ≡ true) × (p.address % 4 ≡ 0)
fine_place ws p = by (in_code ws p) (eqb (p.address % 4) 0) refl
  where
    by : (c a : Bool) → eqb (p.address % 4) 0 ≡ a → is_fine (pick c (pick a (Ok tt) (Err place.Misaligned)) (Err place.NotCode)) ≡ true → (c ≡ true) × (p.address % 4 ≡ 0)
    by true true e h = (refl, eqb-true _ _ e)
    by true false e h = absurd (true≢false (sym h))
    by false a e h = absurd (true≢false (sym h))

-- the next word of code is no step round the end of the numbers
pub next_address : (ws : List ℕ) (p : SectionAddress) → InCode ws p → p.address % 4 ≡ 0 → sum p.address 4 ≡ p.address + 4
next_address ws p c a =
    mod-eq_of_lt
    (omega (arith, c.place.upto, c.place.sound.ends, c.place.sound.code_address c.code, c.place.sound.code_size c.code))

-- a table has no more entries than room
few_either : (t : Bool) (room : ℕ) (a b : Outcome) → count_of a.table ≤ room → count_of b.table ≤ room → count_of (pick t a b).table ≤ room
few_either true room a b h i = h
few_either false room a b h i = i

fitted_few : (ks : List ℕ) (n room : ℕ) → count_of (fitted ks n room).table ≤ room
fitted_few ks n room = by (leb (length ks) room) refl
  where
    by : (t : Bool) → leb (length ks) room ≡ t
        → count_of (pick t (record { table = Ok (record { count = length ks; size = n }); keys = filled ks room }) (refused error.Full room)).table ≤ room
    by true e = leb-true _ _ e
    by false e = omega arith

verdict_few : (a : Option TableError) (o : Outcome) (room : ℕ) → count_of o.table ≤ room → count_of (on_verdict a o room).table ≤ room
verdict_few None o room h = h
verdict_few (Some e) o room h = omega arith

read_few : (rs : List Reading) (room : ℕ) → count_of (read_off rs room).table ≤ room
unfolding read_off
read_few rs room = verdict_few (verdict rs) (fitted (entries_of rs []) (length rs * 4) room) room (fitted_few (entries_of rs []) (length rs * 4) room)

sized_few : (ws bs : List ℕ) (p : SectionAddress) (n room : ℕ) → count_of (sized_table ws bs p n room).table ≤ room
unfolding sized_table
sized_few ws bs p n room =
    few_either (eqb (clamped_size ws p n % 4) 0) room (read_off (words_passed ws bs Sized p (clamped_size ws p n / 4)) room) (refused error.Ragged room)
    (read_few _ room) (omega arith)

guessed_few : (ws bs : List ℕ) (p from : SectionAddress) (upto : Option SectionAddress) (room : ℕ) → count_of (guessed_table ws bs p from upto room).table ≤ room
unfolding guessed_table
guessed_few ws bs p from upto room = read_few _ room

pub table_few : (ws bs : List ℕ) (p : SectionAddress) (n : ℕ) (from : SectionAddress) (upto : Option SectionAddress) (room : ℕ)
    → count_of (table_in ws bs p n from upto room).table ≤ room
unfolding table_in
table_few ws bs p n from upto room =
    few_either (is_table ws p) room
    (pick (eqb (size_of ws p n) 0) (guessed_table ws bs p from upto room) (sized_table ws bs p (size_of ws p n) room))
    (record { table = Ok (record { count = 0; size = 0 }); keys = replicate room 0 })
    (few_either (eqb (size_of ws p n) 0) room (guessed_table ws bs p from upto room) (sized_table ws bs p (size_of ws p n) room)
    (guessed_few ws bs p from upto room) (sized_few ws bs p (size_of ws p n) room))
    (omega arith)

module _ (ws bs : List ℕ) (from : SectionAddress) (upto : Option SectionAddress) (slots : ℕ) where
  look_few : (t : RelocationTarget) (n : ℕ) → count_of (look_to ws bs from upto t n).table ≤ table_room
  look_few target.External n = omega arith
  look_few (target.Address p) n = table_few ws bs p n from upto table_room

  listed_few : (a : Asked) → length (listed_in (look_at ws bs from upto a)) ≤ table_room
  unfolding look_at
  listed_few a = simp (length-map, length-take) (omega (arith, look_few a.target a.size))

  -- a word's ways
  append_widths : (xs ys : List (Way SectionAddress VM Asked))
      → widths (ground_of ws bs from upto slots) (xs ++ ys) ≡ widths (ground_of ws bs from upto slots) xs + widths (ground_of ws bs from upto slots) ys
  unfolding widths
  append_widths [] ys = omega arith
  append_widths (x ∷ xs) ys = omega (arith, append_widths xs ys)

  way_few : (t : RelocationTarget) (s : VM) → widths (ground_of ws bs from upto slots) (way_to t s) ≤ table_room
  unfolding widths
  way_few target.External s = omega arith
  way_few (target.Address q) s = omega arith

  ways_few : (t : BranchTarget) (s : VM) → widths (ground_of ws bs from upto slots) (ways_of t s) ≤ table_room
  unfolding widths
  ways_few branch.Unknown s = omega arith
  ways_few branch.Return s = omega arith
  ways_few (branch.Address t) s = way_few t s
  ways_few (branch.JumpTable t n) s = omega (arith, listed_few (asked_of t n))

  -- how many places a move pushes at most
  abbrev pushes : Move SectionAddress VM Asked → ℕ
  pushes m = on_move m (λ t. 0) (λ q t. 0) (widths (ground_of ws bs from upto slots))

  jump_few : (p : SectionAddress) (t : RelocationTarget) (s : VM) → pushes (jump_to p t s) ≤ most_pushed
  unfolding widths
  jump_few p target.External s = omega arith
  jump_few p (target.Address q) s = by (eqb q.section p.section)
    where
      by : (t : Bool) → pushes (pick t (jump q s) (leave (to q s ∷ []))) ≤ most_pushed
      by true = omega arith
      by false = omega arith

  move_few : (p : SectionAddress) (r : StepResult) (s o : VM) → pushes (move_by p r s o) ≤ most_pushed
  unfolding move_by widths
  move_few p result.Continue s o = omega arith
  move_few p (result.LoadStore t g a) s o = omega arith
  move_few p result.Illegal s o = omega arith
  move_few p (result.Jump t) s o = by t
    where
      by : (t : BranchTarget) → pushes (jump_by p t s) ≤ most_pushed
      by branch.Unknown = omega arith
      by branch.Return = omega arith
      by (branch.Address t) = jump_few p t s
      by (branch.JumpTable t n) = omega (arith, listed_few (asked_of t n))
  move_few p (result.Branch b c) s o =
      omega (arith, append_widths (ways_of b.target s) (ways_of c.target o), ways_few b.target s, ways_few c.target o)
  move_few p (result.Refused why) s o = omega arith

  few_pushed : (p : SectionAddress) (s : VM) → pushes (move_at ws bs p s) ≤ most_pushed
  unfolding move_at
  few_pushed p s =
      let r : Stepped = step_of ws p (word_of ws bs p) s in
      move_few p r.result r.vm r.other

  -- a word has two ways at most
  abbrev ways : Move SectionAddress VM Asked → ℕ
  ways m = on_move m (λ t. 0) (λ q t. 0) (length {A = Way SectionAddress VM Asked})

  one_way : (t : BranchTarget) (s : VM) → length (ways_of t s) ≤ 1
  one_way branch.Unknown s = omega arith
  one_way branch.Return s = omega arith
  one_way (branch.Address target.External) s = omega arith
  one_way (branch.Address (target.Address q)) s = omega arith
  one_way (branch.JumpTable t n) s = omega arith

  jump_ways : (p : SectionAddress) (t : BranchTarget) (s : VM) → ways (jump_by p t s) ≤ 2
  jump_ways p branch.Unknown s = omega arith
  jump_ways p branch.Return s = omega arith
  jump_ways p (branch.Address target.External) s = omega arith
  jump_ways p (branch.Address (target.Address q)) s = by (eqb q.section p.section)
    where
      by : (t : Bool) → ways (pick t (jump q s) (leave (to q s ∷ []))) ≤ 2
      by true = omega arith
      by false = omega arith
  jump_ways p (branch.JumpTable t n) s = omega arith

  move_ways : (p : SectionAddress) (r : StepResult) (s o : VM) → ways (move_by p r s o) ≤ 2
  unfolding move_by
  move_ways p result.Continue s o = omega arith
  move_ways p (result.LoadStore t g a) s o = omega arith
  move_ways p result.Illegal s o = omega arith
  move_ways p (result.Jump t) s o = jump_ways p t s
  move_ways p (result.Branch b c) s o =
      omega (arith, length-append (ways_of b.target s) (ways_of c.target o), one_way b.target s, one_way c.target o)
  move_ways p (result.Refused why) s o = omega arith

  two_ways : (p : SectionAddress) (s : VM) → ways (move_at ws bs p s) ≤ 2
  unfolding move_at
  two_ways p s =
      let r : Stepped = step_of ws p (word_of ws bs p) s in
      move_ways p r.result r.vm r.other

  -- lawful ground
  pub image_lawful : sound ws (length bs) ≡ true → Lawful (ground_of ws bs from upto slots)
  image_lawful t =
      let tables = tables_of_sound ws (length bs) t in
      record {
        below = λ p e. word_number_below ws p tables (fine_place ws p e).0;
        follows = λ p e f.
            let c = fine_place ws p e in
            ap (λ (a : ℕ). word_number ws (record { section = p.section; address = a })) (next_address ws p (in_code_lem ws p tables c.0) c.1)
            ∙ next_word_number ws p tables c.0;
        place_kept = λ p s. refl;
        state_kept = λ p s. refl;
        two = two_ways;
        few = few_pushed;
      }
