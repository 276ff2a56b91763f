-- One turn of the loop over blocks: a popped state is skipped, or its block runs and ends; what the code's loop keeps, and where it
-- ends the answer. Assumes that nothing is refused.
use Prim.Native.Nat.{ℕ, ◌+◌, ◌-◌, ◌*◌, ◌≤◌, ◌<◌}
use mathlib.Core.Path.{◌≡◌, sym, ◌∙◌}
use mathlib.Core.Bool.{Bool, true, false}
use mathlib.Core.List.{List}
use native.Mathlib.Omega.{arith}
use lib.ListN.{length}
use Rattle.std.specs.Prelude.{Some, None, Result, Ok, Err, Option}
use Rattle.places.specs.declared.SectionAddress.{SectionAddress}
use Rattle.image.specs.Numbers.{max_code_words}
use Rattle.image.specs.Rules.{code_words}
use Rattle.lookups.specs.Code.{code_place, word_number}
use Rattle.vm.specs.States.{bases_of}
use Rattle.step.specs.declared.Leave.{Leave}
use Rattle.stack.specs.Stack.{Stack, entries, held_at, room}
use Rattle.stack.proofs.Stacks.{pop_entries, pop_stack}
use Rattle.visited.specs.Bits.{visited_at}
use Rattle.turns.specs.declared.WalkError.{WalkError}
use Rattle.turns.specs.Grounds.{idle, conf}
use Rattle.turns.specs.Moves.{Lent, is_fine, ground_of}
use Rattle.turns.specs.Walks.{Given, given, ground_in, judged, refused_with, walked}
use Rattle.turns.specs.Heads.{pile_in, Head, head_left, left_at}
use Rattle.turns.proofs.Lists.{each_last}
use Rattle.turns.proofs.Pushes.{AtWord}
use Rattle.turns.proofs.Counts.{Sound}
use Rattle.turns.proofs.WalkEnds.{reach_sound}
use Rattle.turns.proofs.Starts.{start_sound}
use Rattle.turns.proofs.WalkLaws.{map_room, lawful}
use Rattle.turns.proofs.HeadLaws.{head_fits, head_full, head_empty, head_pop_old, head_past, head_jump_out, head_jump_old, head_leave}
use Rattle.pushes.specs.declared.Taken.{Taken}
use Rattle.pushes.specs.Takes.{TakenWays}
use Rattle.walk.specs.declared.Begun.{Begun}
use Rattle.walk.specs.Starts.{places_of, Begins}
use Rattle.walk.specs.Blocks.{Last, past, jumps_out, jumps_old, leaves_by, Block, Ending, Followed, stays, goes}

some_not_none : {A : Type 0} (l : Leave) → Some l ≡ None → A
some_not_none l e = let z : ◌≡◌ {A = ℕ} 0 1 = cc in absurd (omega arith)

same_leave : (l m : Leave) → Some l ≡ Some m → l ≡ m
same_leave l m e = cc

-- counts far below 2^64
abbrev Fit : ℕ → ℕ → ℕ → ℕ → Type 0
Fit a b c d = (a ≤ max_code_words * max_code_words) × (b ≤ max_code_words) × (c + d ≤ 2 * (max_code_words * max_code_words))

module _ (i : Given) (vis : List ℕ) (lent : Lent) (fine : judged i vis ≡ Ok tt) where
  module _ {words : List ℕ} {k : ℕ} {buffer : List ℕ} {full : Bool} {v : List ℕ} {a b c d : ℕ} (h : Head i vis lent words k buffer full v a b c d) where
    stands : Sound (ground_in i lent) (length vis) (conf idle (pile_in words k buffer full h.log) v)
    stands =
        reach_sound (ground_in i lent) (length vis) (lawful i vis lent fine) (map_room i vis lent fine) h.reach
        (start_sound (ground_in i lent) (lawful i vis lent fine) i.starts (bases_of i.two i.thirteen) lent vis (map_room i vis lent fine))

    -- the map has a bit for each word
    head_map : code_words i.tables ≤ length v * 32
    head_map = omega (arith, stands.map_length, map_room i vis lent fine)

    -- what waits, waits at a word of code
    head_top : 0 < k → is_fine (code_place i.tables (held_at words (k - 1)).place) ≡ true
    head_top some =
        let one : k ≡ k - 1 + 1 = omega arith in
        each_last (AtWord (ground_in i lent)) (entries words (k - 1)) (held_at words (k - 1)) (rw (← pop_entries words (k - 1), ← one) stands.waiting)

  -- the top of k states
  module _ {words : List ℕ} {k : ℕ} {buffer : List ℕ} {v : List ℕ} {a b c d : ℕ} (h : Head i vis lent words k buffer false v a b c d) (some : 0 < k) where
    one : k ≡ k - 1 + 1
    one = omega arith

    head_below : Stack words (k - 1)
    head_below = pop_stack words (k - 1) (rw (← one) h.held)

    -- its word was visited
    pub turn_old : visited_at v (word_number i.tables (held_at words (k - 1)).place) ≡ true
        → Head i vis lent words (k - 1) buffer false v a b c d × (head_left i lent (k - 1) v < head_left i lent k v)
    turn_old o = head_pop_old i vis lent fine h (k - 1) one o

    -- its word was not
    module _ (new : visited_at v (word_number i.tables (held_at words (k - 1)).place) ≡ false) {r : Ending} {v' : List ℕ}
        (block : Block (ground_in i lent) (held_at words (k - 1)).place (held_at words (k - 1)).state v r v') where
      carried : a + (block.many + 1) ≡ a + block.many + 1
      carried = omega arith

      -- its block ended with nothing to push
      turn_idle : r.leave ≡ None
          → Head i vis lent words (k - 1) buffer false v' (a + r.stepped) (b + 1 + r.begun) c d × (head_left i lent (k - 1) v' < head_left i lent k v)
      turn_idle o = by block.ends
        where
          by : Last (ground_in i lent) r.at r.vm block.map block.many r v'
              → Head i vis lent words (k - 1) buffer false v' (a + r.stepped) (b + 1 + r.begun) c d × (head_left i lent (k - 1) v' < head_left i lent k v)
          by (past w l s m) = rw (m, s) (head_past i vis lent fine h (k - 1) one new block.line w)
          by (jumps_out {x} {y} w e o l s m) = rw (m, s, carried) (head_jump_out i vis lent fine h (k - 1) one new block.line w x y e o)
          by (jumps_old {x} {y} w e o t l s m) = rw (m, s, carried) (head_jump_old i vis lent fine h (k - 1) one new block.line w x y e o t)
          by (leaves_by l ys w e f q s m) = some_not_none l (sym q ∙ o)

      -- its block's last word leaves, and its ways were taken
      turn_takes : (l : Leave) → r.leave ≡ Some l → {words' buffer' : List ℕ} {t : Taken}
          → TakenWays i.tables i.bytes i.from i.upto words (k - 1) buffer r.at l r.vm words' buffer' t
          → Head i vis lent words' t.held buffer' t.full v' (a + r.stepped) (b + 1 + r.begun) (c + t.read) (d + t.not_read)
          × (head_left i lent t.held v' < head_left i lent k v)
      turn_takes x o {words'} {buffer'} {t} taken = by block.ends
        where
          by : Last (ground_in i lent) r.at r.vm block.map block.many r v'
              → Head i vis lent words' t.held buffer' t.full v' (a + r.stepped) (b + 1 + r.begun) (c + t.read) (d + t.not_read)
              × (head_left i lent t.held v' < head_left i lent k v)
          by (past w l s m) = some_not_none x (sym o ∙ l)
          by (jumps_out w e q l s m) = some_not_none x (sym o ∙ l)
          by (jumps_old w e q u l s m) = some_not_none x (sym o ∙ l)
          by (leaves_by l ys w e f q s m) =
              rw (m, s, carried) (head_leave i vis lent fine h (k - 1) one new block.line w ys e (rw h.slots at (taken.ways ys (rw (same_leave x l (sym o ∙ q)) f))))

      -- the end of its block was followed
      pub turn_follows : {words' buffer' : List ℕ} {t : Taken} → Followed i.tables i.bytes i.from i.upto words (k - 1) buffer r words' buffer' t
          → Head i vis lent words' t.held buffer' t.full v' (a + r.stepped) (b + 1 + r.begun) (c + t.read) (d + t.not_read)
          × (head_left i lent t.held v' < head_left i lent k v)
      turn_follows (stays o e f g) =
          let read : c + 0 ≡ c = omega arith in
          let unread : d + 0 ≡ d = omega arith in
          rw (e, f, g, read, unread) (turn_idle o)
      turn_follows (goes l o taken) = turn_takes l o taken

-- what the loop keeps: from where it began, whatever the walk's starts were
abbrev pub Kept : List ℕ → List ℕ → SectionAddress → Option SectionAddress → List ℕ → ℕ → List ℕ → Bool → List ℕ
    → List ℕ → ℕ → List ℕ → Bool → List ℕ → ℕ → ℕ → ℕ → ℕ → Type 0
Kept ws bs from upto words₀ n₀ buffer₀ full₀ v₀ words n buffer full v a b c d =
    (starts : List SectionAddress) (two thirteen : Option ℕ) (vis : List ℕ) (lent : Lent) → judged (given ws bs starts two thirteen from upto) vis ≡ Ok tt
    → Head (given ws bs starts two thirteen from upto) vis lent words₀ n₀ buffer₀ full₀ v₀ 0 0 0 0
    → Head (given ws bs starts two thirteen from upto) vis lent words n buffer full v a b c d

module _ {ws bs starts : List ℕ} {two thirteen : (Option ℕ)} {vis words : List ℕ} {r : Result Begun WalkError} {vis' words' : List ℕ}
    (begins : Begins ws bs starts two thirteen vis words r vis' words') (from : SectionAddress) (upto : Option SectionAddress) (buffer : List ℕ) where
  abbrev i : Given
  i = given ws bs (places_of starts) two thirteen from upto

  abbrev lent : Lent
  lent = record { stack = words; entries = buffer }

  -- a refusal leaves everything untouched
  pub walk_refused : {e : WalkError} → r ≡ Err e → walked i vis lent ≡ refused_with e vis' (record { stack = words'; entries = buffer })
  unfolding walked
  walk_refused f =
      let same = rw f at begins.refused in
      rw (same.0 from upto, same.1, same.2)

  -- else the walk stands where its loop does
  module _ {b₀ : Begun} (ok : r ≡ Ok b₀) where
    first : (judged i vis ≡ Ok tt) × Head i vis lent words' b₀.held buffer b₀.full vis' 0 0 0 0
    first = (rw ok at begins.begun) from upto buffer

    fine : judged i vis ≡ Ok tt
    fine = first.0

    module _ {words'' : List ℕ} {k : ℕ} {buffer'' : List ℕ} {full : Bool} {v : List ℕ} {a b c d : ℕ}
        (kept : Kept ws bs from upto words' b₀.held buffer b₀.full vis' words'' k buffer'' full v a b c d) where
      walk_head : Head i vis lent words'' k buffer'' full v a b c d
      walk_head = kept (places_of starts) two thirteen vis lent fine first.1

      pub walk_held : Stack words'' k
      walk_held = walk_head.held

      pub walk_map : code_words ws ≤ length v * 32
      walk_map = head_map i vis lent fine walk_head

      pub walk_top : 0 < k → is_fine (code_place ws (held_at words'' (k - 1)).place) ≡ true
      walk_top some = head_top i vis lent fine walk_head some

      -- its answer
      pub walk_full : full ≡ true → walked i vis lent ≡ left_at words'' k buffer'' true v a b c d
      walk_full f = rw f at (head_full i vis lent fine walk_head f)

      pub walk_empty : k ≡ 0 → full ≡ false → walked i vis lent ≡ left_at words'' k buffer'' false v a b c d
      walk_empty e f = rw f at (head_empty i vis lent fine walk_head e)

      -- the next turn: its counts fit, and it brings the measure down
      module _ (some : 0 < k) (not_full : full ≡ false) where
        top_head : Head i vis lent words'' k buffer'' false v a b c d
        top_head = rw not_full at walk_head

        pub walk_below : Stack words'' (k - 1)
        walk_below = head_below i vis lent fine top_head some

        module _ (new : visited_at v (word_number ws (held_at words'' (k - 1)).place) ≡ false) {e : Ending} {v' : List ℕ}
            (block : (from : SectionAddress) (upto : Option SectionAddress) (slots : ℕ)
            → Block (ground_of ws bs from upto slots) (held_at words'' (k - 1)).place (held_at words'' (k - 1)).state v e v') where
          pub walk_follows : {words''' buffer''' : List ℕ} {t : Taken} → Followed ws bs from upto words'' (k - 1) buffer'' e words''' buffer''' t
              → Fit (a + e.stepped) (b + 1 + e.begun) (c + t.read) (d + t.not_read) × (head_left i lent t.held v' < head_left i lent k v)
          walk_follows followed =
              let turn = turn_follows i vis lent fine top_head some new (block from upto (room (length words))) followed in
              (head_fits i vis lent fine turn.0, turn.1)
