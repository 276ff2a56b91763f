-- A straight run of crate `step` is so many turns of the walk, whatever the stack holds.
-- Assumes a sound image and a run that begins at a word of code.
use Rattle.std.specs.Prelude.{Option}
use Prim.Native.Nat.{ℕ, zero, suc, ◌+◌, ◌-◌, ◌*◌, ◌/◌, ◌≤◌, ◌<◌}
use mathlib.Core.Path.{◌≡◌, refl, sym, ap, ◌∙◌}
use mathlib.Core.Bool.{Bool, true, false, not, true≢false}
use mathlib.Core.List.{List}
use native.Mathlib.Numerals.{add-one}
use native.Mathlib.Omega.{arith}
use lib.ListN.{length}
use Rattle.words.specs.Choice.{pick}
use Rattle.places.specs.declared.SectionAddress.{SectionAddress}
use Rattle.image.specs.Layout.{section_at}
use Rattle.image.specs.Rules.{end_of, code_words, sound}
use Rattle.lookups.specs.Bytes.{data_from}
use Rattle.lookups.specs.Code.{code_place, word_number}
use Rattle.vm.specs.declared.VM.{VM}
use Rattle.step.specs.declared.Leave.TheVariants.{Ended}
use Rattle.step.specs.declared.Stepped.{Stepped}
use Rattle.step.specs.Step.{effect_in, step_of}
use Rattle.step.specs.Runs.{leave_by, stopped_at, run_of}
use Rattle.visited.specs.Bits.{with_run}
use Rattle.turns.specs.Runs.{Going}
use Rattle.turns.specs.Moves.{is_fine, word_of, ground_of}
use Rattle.turns.specs.Straight.{Ran}
use Rattle.turns.proofs.RunLaws.{going_here, going_on}
use Rattle.turns.proofs.SoundGround.{image_lawful}
use Rattle.turns.proofs.Stepping.{goes_on, going_by, goes_move, step_leaves, leaves_move}
use Rattle.turns.proofs.WordsInCode.{words_on, below_end, whole_words, word_there, no_word_there, number_there, next_there, code_length, word_in_code}

module _ (ws bs : List ℕ) (from : SectionAddress) (upto : Option SectionAddress) (slots : ℕ) (fine : sound ws (length bs) ≡ true)
    (p : SectionAddress) (word : is_fine (code_place ws p) ≡ true) (s : VM) (v : List ℕ)
    (bits : code_words ws ≤ length v * 32) where
  -- k words went on
  abbrev Gone : ℕ → VM → Type 0
  Gone k t = Going (ground_of ws bs from upto slots) p s v (words_on p k) t (with_run v (word_number ws p) k) k 0

  abbrev stepped : ℕ → VM → Stepped
  stepped k t = step_of ws (words_on p k) (word_of ws bs (words_on p k)) t

  abbrev end : ℕ
  end = end_of (section_at ws p.section)

  one_more : (k : ℕ) (t : VM) → p.address + k * 4 < end → goes_on (stepped k t).result ≡ true → Gone k t → Gone (suc k) (stepped k t).vm
  unfolding with_run
  one_more k t l e r =
      rw (← next_there ws bs fine p word k l, ← number_there ws bs fine p word k, ← add-one k)
      (going_on (ground_of ws bs from upto slots) (image_lawful ws bs from upto slots fine) bits r (word_there ws bs fine p word k l) (stepped k t).vm (goes_move ws bs (words_on p k) t e))

  -- the section's end
  at_end_lem : (k : ℕ) (t : VM) → end ≤ p.address + k * 4 → Gone k t → Ran (ground_of ws bs from upto slots) p s v (stopped_at Ended (words_on p k) t)
  at_end_lem k t l r = record {
    many = k;
    section_is = refl;
    address_is = refl;
    number_is = number_there ws bs fine p word k;
    line = r;
    word = no_word_there ws bs fine p word k l;
    asks = λ e. absurd (true≢false e);
  }

  -- a word that leaves
  at_leave : (k : ℕ) (t : VM) → p.address + k * 4 < end → goes_on (stepped k t).result ≡ false → Gone k t
      → Ran (ground_of ws bs from upto slots) p s v
      (stopped_at (leave_by (effect_in ws (words_on p k) (word_of ws bs (words_on p k)) t) ws (words_on p k) (word_of ws bs (words_on p k)) t) (words_on p k) t)
  at_leave k t l e r =
      let out = step_leaves ws (words_on p k) (word_of ws bs (words_on p k)) t e in
      record {
        many = k;
        section_is = refl;
        address_is = refl;
        number_is = number_there ws bs fine p word k;
        line = r;
        word = word_there ws bs fine p word k l ∙ sym (ap not out.not_end);
        asks = λ f. leaves_move ws bs (words_on p k) t e;
      }

  run_none : (k : ℕ) (t : VM) → end ≤ p.address + k * 4 → Gone k t
      → Ran (ground_of ws bs from upto slots) p s v (run_of ws (data_from ws bs p) (k * 4) zero (words_on p k) t)
  unfolding run_of
  run_none k t l r = at_end_lem k t l r

  -- a word, by whether it goes on
  either : (n k : ℕ) (t : VM) (l : p.address + k * 4 < end) → Gone k t
      → (goes_on (stepped k t).result ≡ true → Ran (ground_of ws bs from upto slots) p s v (run_of ws (data_from ws bs p) (suc k * 4) n (words_on p (suc k)) (stepped k t).vm))
      → (b : Bool) → goes_on (stepped k t).result ≡ b
      → Ran (ground_of ws bs from upto slots) p s v
      (pick b (run_of ws (data_from ws bs p) (suc k * 4) n (words_on p (suc k)) (stepped k t).vm)
      (stopped_at (leave_by (effect_in ws (words_on p k) (word_of ws bs (words_on p k)) t) ws (words_on p k) (word_of ws bs (words_on p k)) t) (words_on p k) t))
  either n k t l r ih true f = ih f
  either n k t l r ih false f = at_leave k t l f r

  run_some : (n k : ℕ) (t : VM) (l : p.address + k * 4 < end) → Gone k t
      → (goes_on (stepped k t).result ≡ true → Ran (ground_of ws bs from upto slots) p s v (run_of ws (data_from ws bs p) (suc k * 4) n (words_on p (suc k)) (stepped k t).vm))
      → Ran (ground_of ws bs from upto slots) p s v (run_of ws (data_from ws bs p) (k * 4) (suc n) (words_on p k) t)
  unfolding run_of
  run_some n k t l r ih =
      let i : k * 4 + 4 ≡ suc k * 4 = omega arith in
      rw (word_in_code ws bs fine p word k l, i, next_there ws bs fine p word k l, going_by)
      (either n k t l r ih (goes_on (stepped k t).result) refl)

  run_from : (n k : ℕ) (t : VM) → k * 4 + n * 4 ≡ end - p.address → p.address ≤ end → Gone k t
      → Ran (ground_of ws bs from upto slots) p s v (run_of ws (data_from ws bs p) (k * 4) n (words_on p k) t)
  run_from zero k t e h r = run_none k t (omega arith) r
  run_from (suc n) k t e h r =
      run_some n k t (omega arith) r (λ f. run_from n (suc k) (stepped k t).vm (omega arith) h (one_more k t (omega arith) f r))

  no_words_on : words_on p 0 ≡ p
  no_words_on = let e : p.address + 0 * 4 ≡ p.address = omega arith in ap (λ (a : ℕ). record { section = p.section; address = a }) e

  none_gone : Gone 0 s
  unfolding with_run
  none_gone = rw no_words_on (going_here (ground_of ws bs from upto slots) p s v)

  whole : (q : SectionAddress) → words_on p 0 ≡ q → (n : ℕ) → n ≡ (end - p.address) / 4
      → Ran (ground_of ws bs from upto slots) p s v (run_of ws (data_from ws bs p) 0 n q s)
  whole q e n f =
      rw (← e) (run_from n 0 s (omega (arith, whole_words ws bs fine p word)) (omega (arith, below_end ws bs fine p word)) none_gone)

  -- the whole run, as `runs::run` answers it
  pub straight_run : Ran (ground_of ws bs from upto slots) p s v (run_of ws (data_from ws bs p) 0 (length (data_from ws bs p) / 4) p s)
  straight_run = whole p no_words_on (length (data_from ws bs p) / 4) (ap (λ (n : ℕ). n / 4) (code_length ws bs fine p word))
