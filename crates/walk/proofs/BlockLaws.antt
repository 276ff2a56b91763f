-- A block, run by run: what its loop keeps, and what each end gives.
-- Assumes a sound image, a map with a bit for each word, and a block that begins at a word of code.
use Prim.Native.Nat.{ℕ, ◌+◌, ◌-◌, ◌*◌, ◌/◌, ◌≤◌, ◌<◌}
use mathlib.Core.Path.{◌≡◌, refl, sym, ap, ◌∙◌, subst}
use mathlib.Core.Bool.{Bool, true, false, ◌&&◌, not, true≢false}
use mathlib.Core.List.{List}
use native.Mathlib.Omega.{arith}
use native.Mathlib.Nat.{mul-le-mul}
use lib.ListN.{length}
use borrow.Author.Tests.{not-true}
use Rattle.std.specs.Prelude.{Some, None, Option}
use Rattle.words.specs.Choice.{pick}
use Rattle.search.proofs.EveryLaws.{and_left, and_right}
use Rattle.places.specs.declared.SectionAddress.{SectionAddress}
use Rattle.image.specs.Numbers.{max_code_words}
use Rattle.image.specs.Rules.{code_words, tables_sound, data_inside, sound}
use Rattle.image.proofs.SoundTables.{sound_tables, tables_of_sound}
use Rattle.lookups.specs.Bytes.{data_from}
use Rattle.lookups.specs.Code.{code_place, word_number}
use Rattle.vm.specs.declared.VM.{VM}
use Rattle.step.specs.declared.Stopped.{Stopped}
use Rattle.cells.specs.Cells.{state_of}
use Rattle.cells.proofs.CellLaws.{cells_state}
use Rattle.runs.specs.declared.Halted.{Halted}
use Rattle.runs.specs.Went.{Halts}
use Rattle.step.specs.Runs.{run_of}
use Rattle.visited.specs.Bits.{visited_at, with_bit, with_run, ones_below}
use Rattle.turns.specs.Grounds.{busy, jump}
use Rattle.turns.specs.Turns.{left_in}
use Rattle.turns.specs.Runs.{Going}
use Rattle.turns.specs.Moves.{most_pushed, is_fine, move_at, ground_of}
use Rattle.turns.specs.Straight.{is_ended, leaving, Ran}
use Rattle.turns.proofs.RunLaws.{going_here, going_then, going_jump, jump_falls}
use Rattle.turns.proofs.SoundGround.{image_lawful}
use Rattle.turns.proofs.StraightRuns.{straight_run}
use Rattle.turns.proofs.Leavings.{marks_leaver}
use Rattle.walk.specs.Blocks.{jump_in, Block, past, jumps_out, jumps_old, leaves_by}
use Rattle.walk.proofs.Jumps.{Asks, leaver_asks}

-- both rules on an image are all
pub image_sound : (ws : List ℕ) (n : ℕ) → tables_sound ws ≡ true → data_inside ws n ≡ true → sound ws n ≡ true
image_sound ws n h i = rw (h, i)

-- the measure of a block's loop
abbrev pub left_at : List ℕ → List ℕ → SectionAddress → VM → List ℕ → ℕ
left_at ws bs p s v = left_in (ground_of ws bs p None 0) (busy p s) v

at_most : (t : Bool) (x y m : ℕ) → x ≤ m → y ≤ m → pick t x y ≤ m
at_most true x y m a b = a
at_most false x y m a b = b

-- it is never more than this
abbrev most_left : ℕ
most_left = max_code_words * (max_code_words + most_pushed + 3) + (most_pushed + 2 + max_code_words)

left_few : (ws bs : List ℕ) → code_words ws ≤ max_code_words → (p : SectionAddress) (s : VM) (v : List ℕ) → left_at ws bs p s v ≤ most_left
left_few ws bs few p s v =
    let ahead = at_most (is_fine (code_place ws p)) (code_words ws - word_number ws p) 0 max_code_words (omega arith) (omega arith) in
    let weight =
    at_most (is_fine (code_place ws p) && not (visited_at v (word_number ws p))) 0 (most_pushed + 2 + pick (is_fine (code_place ws p)) (code_words ws - word_number ws p) 0)
    (most_pushed + 2 + max_code_words) (omega arith) (omega arith) in
    let unvisited : code_words ws - ones_below v (code_words ws) ≤ max_code_words = omega arith in
    let each : code_words ws + most_pushed + 3 ≤ max_code_words + most_pushed + 3 = omega arith in
    omega (arith, mul-le-mul unvisited each)

-- where the loop stands: at the word p, n words stepped and b blocks begun since the word p₀
pub record Within (ws bs : List ℕ) (p₀ : SectionAddress) (s₀ : VM) (v₀ : List ℕ) (p : SectionAddress) (t : VM) (v : List ℕ) (n b : ℕ) : Type 0 where
  pub line : (from : SectionAddress) (upto : Option SectionAddress) (slots : ℕ) → Going (ground_of ws bs from upto slots) p₀ s₀ v₀ p t v n b
  pub word : is_fine (code_place ws p) ≡ true
  pub few : n ≤ b * max_code_words
  pub fewer : b + left_at ws bs p t v ≤ left_at ws bs p₀ s₀ v₀

pub block_begins : (ws bs : List ℕ) (p : SectionAddress) (s : VM) (v : List ℕ) → is_fine (code_place ws p) ≡ true → Within ws bs p s v p s v 0 0
block_begins ws bs p s v w = record {
  line = λ from upto slots. going_here (ground_of ws bs from upto slots) p s v;
  word = w;
  few = omega arith;
  fewer = omega arith;
}

-- where a run halted, with the state in the cells, is where the run stops
pub halted : {ws code vs : List ℕ} {at : SectionAddress} {s : VM} {r : Halted} → Halts ws code at s r vs
    → ◌≡◌ {A = Stopped} (record { leave = r.leave; at = r.at; vm = state_of vs }) (run_of ws code 0 (length code / 4) at s)
halted h = rw (h.leave, h.place, cells_state h.cells)

module _ {ws bs : List ℕ} (fine : sound ws (length bs) ≡ true) {p₀ : SectionAddress} {s₀ : VM} {v₀ : List ℕ} (bits : code_words ws ≤ length v₀ * 32)
    {p : SectionAddress} {t : VM} {v : List ℕ} {n b : ℕ} (h : Within ws bs p₀ s₀ v₀ p t v n b) where
  few_words : code_words ws ≤ max_code_words
  few_words = (sound_tables ws (tables_of_sound ws (length bs) fine)).few_code_words_lem

  block_bits : code_words ws ≤ length v * 32
  block_bits = omega (arith, bits, (h.line p None 0).map_length)

  -- the counts fit
  pub block_few : (b ≤ most_left) × (n ≤ most_left * max_code_words)
  block_few =
      let begun : b ≤ most_left = omega (arith, h.fewer, left_few ws bs few_words p₀ s₀ v₀) in
      (begun, omega (arith, h.few))

  -- the straight run from there
  module _ {r : Stopped} (e : r ≡ run_of ws (data_from ws bs p) 0 (length (data_from ws bs p) / 4) p t) where
    abbrev pub many : ℕ
    many = (r.at.address - p.address) / 4

    abbrev pub run_map : List ℕ
    run_map = with_run v (word_number ws p) many

    ran : (from : SectionAddress) (upto : Option SectionAddress) (slots : ℕ) → Ran (ground_of ws bs from upto slots) p t v r
    ran from upto slots = subst (λ (x : Stopped). Ran (ground_of ws bs from upto slots) p t v x) (sym e) (straight_run ws bs from upto slots fine p h.word t v block_bits)

    many_is : (from : SectionAddress) (upto : Option SectionAddress) (slots : ℕ) → (ran from upto slots).many ≡ many
    many_is from upto slots = omega (arith, (ran from upto slots).address_is)

    pub run_ahead : p.address ≤ r.at.address
    run_ahead = omega (arith, (ran p None 0).address_is)

    run_line : (from : SectionAddress) (upto : Option SectionAddress) (slots : ℕ) → Going (ground_of ws bs from upto slots) p₀ s₀ v₀ r.at r.vm run_map (n + many) b
    run_line from upto slots =
        let none : b + 0 ≡ b = omega arith in
        rw (many_is from upto slots, none) at (going_then (ground_of ws bs from upto slots) (h.line from upto slots) (ran from upto slots).line)

    -- the section's end
    pub block_past : is_ended r.leave ≡ true → (from : SectionAddress) (upto : Option SectionAddress) (slots : ℕ)
        → Block (ground_of ws bs from upto slots) p₀ s₀ v₀ (record { leave = None; at = r.at; vm = r.vm; stepped = n + many; begun = b }) run_map
    block_past w from upto slots = record {
      many = n + many;
      map = run_map;
      line = run_line from upto slots;
      ends = past ((ran from upto slots).word ∙ ap not w) refl refl refl;
    }

    -- a word that leaves
    module _ (w : is_ended r.leave ≡ false) where
      abbrev pub leave_map : List ℕ
      leave_map = with_run v (word_number ws p) (many + 1)

      leaver : is_fine (code_place ws r.at) ≡ true
      leaver = (ran p None 0).word ∙ ap not w

      marked : (from : SectionAddress) (upto : Option SectionAddress) (slots : ℕ) → leave_map ≡ with_bit run_map (word_number ws r.at)
      marked from upto slots = rw (← many_is from upto slots) (sym (marks_leaver (ground_of ws bs from upto slots) p t v r (ran from upto slots)))

      run_few : many + 1 ≤ max_code_words
      run_few =
          omega (arith, few_words, (image_lawful ws bs p None 0 fine).below r.at leaver, (ran p None 0).number_is, many_is p None 0)

      moves : (from : SectionAddress) (upto : Option SectionAddress) (slots : ℕ) → move_at ws bs r.at r.vm ≡ leaving r.leave r.at r.vm
      moves from upto slots = (ran from upto slots).asks w

      -- it leaves by ways
      pub block_leaves : jump_in r.leave r.at.section ≡ None → (from : SectionAddress) (upto : Option SectionAddress) (slots : ℕ)
          → Block (ground_of ws bs from upto slots) p₀ s₀ v₀ (record { leave = Some r.leave; at = r.at; vm = r.vm; stepped = n + many + 1; begun = b }) leave_map
      block_leaves j from upto slots =
          let a : Asks None (leaving r.leave r.at r.vm) r.vm = rw j at (leaver_asks r.at r.vm r.leave) in
          record {
            many = n + many;
            map = run_map;
            line = run_line from upto slots;
            ends = leaves_by r.leave a.0 leaver (moves from upto slots ∙ a.1) a.1 refl refl (marked from upto slots);
          }

      -- it jumps inside the section
      module _ {q : SectionAddress} (j : jump_in r.leave r.at.section ≡ Some q) where
        jumps : move_at ws bs r.at r.vm ≡ jump q r.vm
        jumps = moves p None 0 ∙ (rw j at (leaver_asks r.at r.vm r.leave))

        -- to no word of code, or to a visited one
        pub block_stays : is_fine (code_place ws q) && not (visited_at leave_map (word_number ws q)) ≡ false → (from : SectionAddress) (upto : Option SectionAddress) (slots : ℕ)
            → Block (ground_of ws bs from upto slots) p₀ s₀ v₀ (record { leave = None; at = r.at; vm = r.vm; stepped = n + many + 1; begun = b }) leave_map
        block_stays o from upto slots = by (is_fine (code_place ws q)) refl (visited_at leave_map (word_number ws q)) refl
          where
            by : (x : Bool) → is_fine (code_place ws q) ≡ x → (y : Bool) → visited_at leave_map (word_number ws q) ≡ y
                → Block (ground_of ws bs from upto slots) p₀ s₀ v₀ (record { leave = None; at = r.at; vm = r.vm; stepped = n + many + 1; begun = b }) leave_map
            by false f y g = record {
              many = n + many;
              map = run_map;
              line = run_line from upto slots;
              ends = jumps_out leaver jumps f refl refl (marked from upto slots);
            }
            by true f true g = record {
              many = n + many;
              map = run_map;
              line = run_line from upto slots;
              ends = jumps_old leaver jumps f (rw (← marked from upto slots) g) refl refl (marked from upto slots);
            }
            by true f false g = absurd (true≢false (rw (f, g) at o))

        -- to an unvisited word: the loop goes on there
        module _ (o : is_fine (code_place ws q) && not (visited_at leave_map (word_number ws q)) ≡ true) where
          x : is_fine (code_place ws q) ≡ true
          x = and_left (is_fine (code_place ws q)) _ o

          y : visited_at leave_map (word_number ws q) ≡ false
          y = not-true (visited_at leave_map (word_number ws q)) (and_right (is_fine (code_place ws q)) (not (visited_at leave_map (word_number ws q))) o)

          pub block_falls : left_at ws bs q r.vm leave_map < left_at ws bs p t v
          block_falls =
              rw (marked p None 0)
              (jump_falls (ground_of ws bs p None 0) (image_lawful ws bs p None 0 fine) block_bits (run_only p None 0) leaver q r.vm x (rw (← marked p None 0) y))
            where
              run_only : (from : SectionAddress) (upto : Option SectionAddress) (slots : ℕ) → Going (ground_of ws bs from upto slots) p t v r.at r.vm run_map many 0
              run_only from upto slots = rw (← many_is from upto slots) (ran from upto slots).line

          pub block_jumps : Within ws bs p₀ s₀ v₀ q r.vm leave_map (n + many + 1) (b + 1)
          block_jumps = record {
            line = λ from upto slots.
                rw (marked from upto slots)
                (going_jump (ground_of ws bs from upto slots) (image_lawful ws bs from upto slots fine) bits (run_line from upto slots) leaver q r.vm jumps x (rw (← marked from upto slots) y));
            word = x;
            few = omega (arith, h.few, run_few);
            fewer = omega (arith, h.fewer, block_falls);
          }
