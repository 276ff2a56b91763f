-- The loop over blocks: it begins with the starts pushed, each turn of it keeps `Head` and brings its measure down, and where it ends
-- the walk's answer is what it holds. Assumes that nothing is refused.
use Prim.Native.Nat.{ℕ, ◌+◌, ◌*◌, ◌≤◌, ◌<◌}
use mathlib.Core.Path.{◌≡◌, refl, ap, ◌∙◌, subst}
use mathlib.Core.Bool.{Bool, true, false, not}
use mathlib.Core.List.{List, [], ◌∷◌, ◌++◌}
use native.Mathlib.Omega.{arith}
use native.Mathlib.Nat.{le_trans, mul-le-mul, mul-le-mul_left}
use lib.ListN.{length}
use Rattle.places.specs.declared.SectionAddress.{SectionAddress}
use Rattle.image.specs.Numbers.{max_code_words}
use Rattle.image.specs.Rules.{code_words}
use Rattle.image.proofs.SoundTables.{sound_tables, tables_of_sound}
use Rattle.lookups.specs.Code.{code_place, word_number}
use Rattle.vm.specs.declared.VM.{VM}
use Rattle.vm.specs.States.{bases_of}
use Rattle.stack.specs.Stack.{Entry, Stack, entries, held_at, room}
use Rattle.stack.proofs.Stacks as stacks
use Rattle.visited.specs.Bits.{visited_at, with_bit, cleared}
use Rattle.jump_tables.specs.Tables.{Outcome}
use Rattle.std.specs.Prelude.{Ok}
use Rattle.turns.specs.Grounds.{Way, jump, leave, idle, busy, Event, begun, stepped, Pile, pile_of, conf}
use Rattle.turns.specs.Turns.{push_each, take_ways, turn_of, Reach, here}
use Rattle.turns.specs.Histories.{Tally}
use Rattle.turns.specs.Runs.{Going}
use Rattle.turns.specs.Moves.{Asked, Lent, is_fine, is_read, move_at}
use Rattle.turns.specs.Walks.{Given, ground_in, start_in, judged, walk_over, left_by, walked}
use Rattle.turns.specs.Heads.{pile_in, Piles, Head, head_left, left_at}
use Rattle.turns.proofs.Lists.{snoc_length}
use Rattle.turns.proofs.Lawful.{Lawful}
use Rattle.turns.proofs.Counts.{Sound}
use Rattle.turns.proofs.WalkEnds.{reach_sound, few_blocks, few_steps}
use Rattle.turns.proofs.Starts.{start_sound}
use Rattle.turns.proofs.RunLaws.{pops_old, block_ends, done_full, done_empty}
use Rattle.turns.proofs.Tallies.{tally_none, read_or_not, tally_begun, tally_stepped, tally_run, tally_append}
use Rattle.turns.proofs.TurnLaws.{turn_past, turn_jump_out, turn_jump_old, turn_leave}
use Rattle.turns.proofs.WalkLaws.{image_sound, map_room, lawful, walked_whole}
use Rattle.turns.proofs.StackWords.{entries_length}

module _ (i : Given) (vis : List ℕ) (lent : Lent) (fine : judged i vis ≡ Ok tt) where
  abbrev bits : code_words i.tables ≤ length vis * 32
  bits = map_room i vis lent fine

  laws : Lawful (ground_in i lent)
  laws = lawful i vis lent fine

  begins_sound : Sound (ground_in i lent) (length vis) (start_in i vis lent)
  begins_sound = start_sound (ground_in i lent) laws i.starts (bases_of i.two i.thirteen) lent vis bits

  -- the starts are pushed
  pub head_start : (words : List ℕ) (n : ℕ) (buffer : List ℕ) (full : Bool)
      → push_each (ground_in i lent) (bases_of i.two i.thirteen) i.starts (pile_of [] false [] lent) ≡ pile_in words n buffer full []
      → Stack words n → room (length words) ≡ room (length lent.stack)
      → Head i vis lent words n buffer full (cleared vis (code_words i.tables)) 0 0 0 0
  head_start words n buffer full e st r = record {
    log = [];
    reach = subst (λ (k : _). Reach (ground_in i lent) (start_in i vis lent) (conf idle k (cleared vis (code_words i.tables)))) e here;
    tally = tally_none is_read;
    held = st;
    slots = r;
  }

  module _ {words : List ℕ} {n : ℕ} {buffer : List ℕ} {full : Bool} {v : List ℕ} {a b c d : ℕ} (h : Head i vis lent words n buffer full v a b c d) where
    head_sound : Sound (ground_in i lent) (length vis) (conf idle (pile_in words n buffer full h.log) v)
    head_sound = reach_sound (ground_in i lent) (length vis) laws bits h.reach begins_sound

    -- the counts fit
    pub head_blocks : b ≤ code_words i.tables
    head_blocks = omega (arith, h.tally.begun, few_blocks (ground_in i lent) (length vis) laws bits _ head_sound)

    pub head_steps : a ≤ code_words i.tables * code_words i.tables
    head_steps = omega (arith, h.tally.stepped, few_steps (ground_in i lent) (length vis) laws bits _ head_sound)

    pub head_tables : c + d ≤ 2 * (code_words i.tables * code_words i.tables)
    head_tables = omega (arith, h.tally.read, h.tally.not_read, read_or_not is_read h.log, head_sound.asked, few_steps (ground_in i lent) (length vis) laws bits _ head_sound)

    -- so they are far below 2^64
    pub head_fits : (a ≤ max_code_words * max_code_words) × (b ≤ max_code_words) × (c + d ≤ 2 * (max_code_words * max_code_words))
    head_fits =
        let few : code_words i.tables ≤ max_code_words = (sound_tables i.tables (tables_of_sound i.tables (length i.bytes) (image_sound i vis lent fine))).few_code_words_lem in
        let square = mul-le-mul few few in
        (le_trans head_steps square, le_trans head_blocks few, le_trans head_tables (mul-le-mul_left 2 square))

    -- where the walk is done, this is its answer
    done : walk_over i vis lent ≡ conf idle (pile_in words n buffer full h.log) v → walked i vis lent ≡ left_at words n buffer full v a b c d
    done e =
        walked_whole i vis lent fine ∙ ap left_by e
        ∙ rw (h.tally.stepped, h.tally.begun, h.tally.read, h.tally.not_read, entries_length words n)

    -- a push was refused
    pub head_full : full ≡ true → walked i vis lent ≡ left_at words n buffer full v a b c d
    unfolding walk_over
    head_full f =
        done (done_full (ground_in i lent) (length vis) laws bits begins_sound (pile_in words n buffer full h.log) v h.reach f)

    -- nothing waits
    pub head_empty : n ≡ 0 → walked i vis lent ≡ left_at words n buffer full v a b c d
    unfolding walk_over
    head_empty e =
        done (done_empty (ground_in i lent) (length vis) laws bits begins_sound (pile_in words n buffer full h.log) v h.reach
        (ap (entries words) e ∙ stacks.no_entries words))

  -- the top of k states, n below it
  module _ {words : List ℕ} {k : ℕ} {buffer : List ℕ} {v : List ℕ} {a b c d : ℕ} (h : Head i vis lent words k buffer false v a b c d) (n : ℕ) (one : k ≡ n + 1) where
    split : Reach (ground_in i lent) (start_in i vis lent)
        (conf idle (pile_of (entries words n ++ (held_at words n ∷ [])) false h.log (record { stack = words; entries = buffer })) v)
    split = rw (one, stacks.pop_entries words n) at h.reach

    top_measure : length (entries words n ++ (held_at words n ∷ [])) ≡ k
    top_measure = omega (arith, snoc_length (entries words n) (held_at words n), entries_length words n)

    -- its word was visited: it is skipped
    pub head_pop_old : visited_at v (word_number i.tables (held_at words n).place) ≡ true
        → Head i vis lent words n buffer false v a b c d × (head_left i lent n v < head_left i lent k v)
    head_pop_old o =
        let r = pops_old (ground_in i lent) (length vis) laws bits begins_sound (entries words n) (held_at words n) (pile_in words n buffer false h.log) v split refl o in
        (record { log = h.log; reach = r.0; tally = h.tally; held = stacks.pop_stack words n (rw one at h.held); slots = h.slots }, omega arith)

    -- its word was not: a block is begun there, runs as far as a line goes, and ends with one more turn
    module _ (new : visited_at v (word_number i.tables (held_at words n).place) ≡ false) {q : SectionAddress} {t : VM} {u : List ℕ} {m j : ℕ}
        (line : Going (ground_in i lent) (held_at words n).place (held_at words n).state v q t u m j) where
      -- the history when the line ends
      abbrev pub line_log : List (Event SectionAddress VM Asked Outcome)
      line_log = line.extra ++ (begun (held_at words n).place ∷ h.log)

      pub line_tally : Tally is_read line_log (a + m) (b + 1 + j) c d
      line_tally = tally_run is_read (tally_begun is_read h.tally (held_at words n).place) line.extra m j line.stepped line.begun line.quiet

      pub head_block : {words' : List ℕ} {n' : ℕ} {buffer' : List ℕ} {full' : Bool} {w : List ℕ} {a' b' c' d' : ℕ} (log' : List (Event SectionAddress VM Asked Outcome))
          → turn_of (ground_in i lent) (conf (busy q t) (pile_in words n buffer false line_log) u) ≡ conf idle (pile_in words' n' buffer' full' log') w
          → Tally is_read log' a' b' c' d' → Stack words' n' → room (length words') ≡ room (length lent.stack)
          → Head i vis lent words' n' buffer' full' w a' b' c' d' × (head_left i lent n' w < head_left i lent k v)
      head_block {words'} {n'} {buffer'} {full'} {w} log' e y st r =
          let o = block_ends (ground_in i lent) (length vis) laws bits begins_sound (entries words n) (held_at words n) (pile_in words n buffer false h.log) v split refl new
          q t u m j line (pile_in words' n' buffer' full' log') w e in (
            record { log = log'; reach = o.0; tally = y; held = st; slots = r },
            omega (arith, o.1, top_measure, entries_length words' n'),
          )

      below : Stack words n
      below = stacks.pop_stack words n (rw one at h.held)

      -- the line met the section's end
      pub head_past : is_fine (code_place i.tables q) ≡ false
          → Head i vis lent words n buffer false u (a + m) (b + 1 + j) c d × (head_left i lent n u < head_left i lent k v)
      head_past w = head_block line_log (turn_past (ground_in i lent) q t (pile_in words n buffer false line_log) u w) line_tally below h.slots

      -- the word there was stepped
      module _ (word : is_fine (code_place i.tables q) ≡ true) where
        abbrev step_log : List (Event SectionAddress VM Asked Outcome)
        step_log = stepped q (not (visited_at u (word_number i.tables q))) t ∷ line_log

        step_tally : Tally is_read step_log (a + m + 1) (b + 1 + j) c d
        step_tally = tally_stepped is_read line_tally q (not (visited_at u (word_number i.tables q))) t

        -- it jumps to what is no word of code
        pub head_jump_out : (x : SectionAddress) (y : VM) → move_at i.tables i.bytes q t ≡ jump x y → is_fine (code_place i.tables x) ≡ false
            → Head i vis lent words n buffer false (with_bit u (word_number i.tables q)) (a + m + 1) (b + 1 + j) c d
            × (head_left i lent n (with_bit u (word_number i.tables q)) < head_left i lent k v)
        head_jump_out x y e w =
            head_block step_log (turn_jump_out (ground_in i lent) q t (pile_in words n buffer false line_log) u x y word e w) step_tally below h.slots

        -- it jumps to a visited word
        pub head_jump_old : (x : SectionAddress) (y : VM) → move_at i.tables i.bytes q t ≡ jump x y → is_fine (code_place i.tables x) ≡ true
            → visited_at (with_bit u (word_number i.tables q)) (word_number i.tables x) ≡ true
            → Head i vis lent words n buffer false (with_bit u (word_number i.tables q)) (a + m + 1) (b + 1 + j) c d
            × (head_left i lent n (with_bit u (word_number i.tables q)) < head_left i lent k v)
        head_jump_old x y e w o =
            head_block step_log (turn_jump_old (ground_in i lent) q t (pile_in words n buffer false line_log) u x y word e w o) step_tally below h.slots

        -- it leaves by ways, which push
        pub head_leave : {words' : List ℕ} {n' : ℕ} {buffer' : List ℕ} {full : Bool} {r o : ℕ} (ys : List (Way SectionAddress VM Asked))
            → move_at i.tables i.bytes q t ≡ leave ys → Piles (take_ways (ground_in i lent) q ys) words n buffer words' n' buffer' full r o
            → Head i vis lent words' n' buffer' full (with_bit u (word_number i.tables q)) (a + m + 1) (b + 1 + j) (c + r) (d + o)
            × (head_left i lent n' (with_bit u (word_number i.tables q)) < head_left i lent k v)
        head_leave ys e pushed =
            head_block (pushed.extra ++ step_log)
            (turn_leave (ground_in i lent) q t (pile_in words n buffer false line_log) u ys word e
            ∙ ap (λ (x : Pile SectionAddress VM Asked Outcome Entry Lent). conf idle x (with_bit u (word_number i.tables q))) (pushed.same step_log))
            (leave_tally (tally_append is_read step_tally pushed.tally))
            pushed.held
            (ap room pushed.words_length ∙ h.slots)
          where
            leave_tally : {l : List (Event SectionAddress VM Asked Outcome)} {x y z w : ℕ} → Tally is_read l (x + 0) (y + 0) z w → Tally is_read l x y z w
            leave_tally c = record { stepped = omega (arith, c.stepped); begun = omega (arith, c.begun); read = c.read; not_read = c.not_read }
