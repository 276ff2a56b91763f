-- What a judgement says: a sound image, a stack, words of code.
-- Assumes nothing.
use Prim.Native.Nat.{ℕ, zero, suc, ◌+◌, ◌-◌, ◌<◌, ◌≤◌}
use mathlib.Core.Path.{◌≡◌, refl, ◌∙◌}
use Rattle.std.specs.Prelude.{Ok, Result, Err, ⊤, Some}
use Rattle.std.specs.Result.{result_and}
use mathlib.Core.Bool.{Bool, true, false, ◌&&◌}
use mathlib.Core.List.{List}
use native.Mathlib.Omega.{arith}
use lib.ListN.{length}
use Rattle.words.specs.Bytes.{be32}
use Rattle.places.specs.declared.SectionAddress.{SectionAddress}
use Rattle.image.specs.Laid.{Laid}
use Rattle.image.specs.Rules.{sound, tables_sound, data_inside}
use Rattle.image.proofs.SoundTables.{laid, tables_of_sound, data_of_sound}
use Rattle.lookups.specs.Code.{in_code, code_place}
use Rattle.lookups.specs.Bytes.{offset_in, word_at}
use Rattle.lookups.proofs.CodeBytes.{fine_place, code_bytes, code_word_at}
use Rattle.slot.proofs.PutLaws.{every_holds}
use Rattle.search.proofs.EveryLaws.{and_left, and_right, every_at}
use Rattle.stack.specs.Stack.{Stack, entries, held_at}
use Rattle.stack.specs.Valid.{valid_stack}
use Rattle.stack.proofs.ValidLaws.{valid_stack_lem, stack_valid}
use Rattle.stack.proofs.Stacks.{pop_stack}
use Rattle.executor.specs.declared.Phase.{Phase}
use Rattle.executor.specs.declared.Refusal.{Refusal}
use Rattle.executor.specs.declared.Refusal.TheVariants as refusal
use Rattle.executor.specs.Judge.{test, on_place, is_word, is_placed, all_words, lawful, verdict_of}
use Rattle.executor.proofs.Waiting.{all_held}
use Rattle.lookups.specs.declared.PlaceError.TheVariants as place
use Rattle.lookups.specs.declared.PlaceError.{PlaceError}

-- a test that refuses nothing has passed
pub tested : (t : Bool) (why : Refusal) → test t why ≡ Ok tt → t ≡ true
tested true why e = refl
tested false why e = absurd (cc)

-- the two tests of a judgement
both_passed : (s t : Bool) → result_and (test s refusal.BrokenImage) (test t refusal.BadStack) ≡ Ok tt → (s ≡ true) × (t ≡ true)
both_passed true true e = (refl, refl)
both_passed true false e = absurd (cc)
both_passed false t e = absurd (cc)

pub lawful_says : (im : List ℕ) (d : ℕ) (words : List ℕ) (n : ℕ) (ph : Phase) (p : SectionAddress) → verdict_of im d words n ph p ≡ Ok tt
    → (sound im d ≡ true) × (lawful im words n ph p ≡ true)
lawful_says im d words n ph p e = both_passed (sound im d) (lawful im words n ph p) e

-- a lawful call: a stack whose states wait at words, and what is under way stands where it may
pub record Lawful (im words : List ℕ) (n : ℕ) (ph : Phase) (p : SectionAddress) : Type 0 where
  pub held : Stack words n
  pub at_words : all_words im (entries words n) ≡ true
  pub placed : is_placed im ph p ≡ true

pub lawful_holds : (im words : List ℕ) (n : ℕ) (ph : Phase) (p : SectionAddress) → lawful im words n ph p ≡ true → Lawful im words n ph p
lawful_holds im words n ph p e =
    let first_two = and_left (valid_stack words n && all_words im (entries words n)) (is_placed im ph p) e in
    record {
      held = valid_stack_lem words n (and_left (valid_stack words n) (all_words im (entries words n)) first_two);
      at_words = and_right (valid_stack words n) (all_words im (entries words n)) first_two;
      placed = and_right (valid_stack words n && all_words im (entries words n)) (is_placed im ph p) e;
    }

-- a call that the judge lets pass: what the code below asks
pub record Judged (im : List ℕ) (d : ℕ) (words : List ℕ) (n : ℕ) (ph : Phase) (p : SectionAddress) : Type 0 where
  pub image : sound im d ≡ true
  pub tables : tables_sound im ≡ true
  pub inside : data_inside im d ≡ true
  pub there : Laid im
  pub held : Stack words n
  pub at_words : all_words im (entries words n) ≡ true
  pub placed : is_placed im ph p ≡ true

pub judged : (im : List ℕ) (d : ℕ) (words : List ℕ) (n : ℕ) (ph : Phase) (p : SectionAddress) → verdict_of im d words n ph p ≡ Ok tt → Judged im d words n ph p
judged im d words n ph p e =
    let both = lawful_says im d words n ph p e in
    let tables = tables_of_sound im d both.0 in
    let rest = lawful_holds im words n ph p both.1 in
    record {
      image = both.0;
      tables = tables;
      inside = data_of_sound im d both.0;
      there = laid im tables;
      held = rest.held;
      at_words = rest.at_words;
      placed = rest.placed;
    }

-- and back
pub lawful_by : (im : List ℕ) (d : ℕ) (words : List ℕ) (n : ℕ) (ph : Phase) (p : SectionAddress)
    → sound im d ≡ true → Stack words n → all_words im (entries words n) ≡ true → is_placed im ph p ≡ true → verdict_of im d words n ph p ≡ Ok tt
lawful_by im d words n ph p s st w h = rw (s, stack_valid words n st, w, h)

-- a word is a fine place, and in code
fine : (x : Result ⊤ PlaceError) → on_place x false false true ≡ true → x ≡ Ok tt
fine (Err place.NotCode) e = absurd (cc)
fine (Err place.Misaligned) e = absurd (cc)
fine (Ok tt) e = refl

pub word_fine : (im : List ℕ) (p : SectionAddress) → is_word im p ≡ true → code_place im p ≡ Ok tt
word_fine im p e = fine (code_place im p) e

pub word_in_code : (im : List ℕ) (p : SectionAddress) → is_word im p ≡ true → in_code im p ≡ true
word_in_code im p e = (fine_place im p (word_fine im p e)).0

-- the i-th held state waits at a word
pub held_word : (im words : List ℕ) (n i : ℕ) → all_words im (entries words n) ≡ true → i < n → is_word im (held_at words i).place ≡ true
held_word im words n i e l = every_at (λ (k : ℕ). is_word im (held_at words k).place) n i (rw (← all_held im words n) e) l

-- fewer states wait at words too
pub fewer_words : (im words : List ℕ) (n m : ℕ) → m ≤ n → all_words im (entries words n) ≡ true → all_words im (entries words m) ≡ true
fewer_words im words n m l e =
    all_held im words m ∙ every_holds (λ (k : ℕ). is_word im (held_at words k).place) m (λ i h. held_word im words n i e (omega arith))

-- the word that is read at a word's place
pub word_read : (im bs : List ℕ) (p : SectionAddress) (w : ℕ) → tables_sound im ≡ true → data_inside im (length bs) ≡ true → is_word im p ≡ true
    → Some w ≡ word_at im bs p → w ≡ be32 bs (offset_in im p.section p.address)
word_read im bs p w t d e r =
    same_read w _ (r ∙ code_word_at im bs p (code_bytes im (length bs) p t d (word_fine im p e)))
  where
    same_read : (a b : ℕ) → Some a ≡ Some b → a ≡ b
    same_read a b q = cc

-- popping leaves a stack
pub fewer_held : (words : List ℕ) (n m : ℕ) → Stack words n → m ≤ n → Stack words m
fewer_held words n m st l = down (n - m) m (let e : m + (n - m) ≡ n = omega arith in rw e st)
  where
    down : (k m : ℕ) → Stack words (m + k) → Stack words m
    down zero m s = let e : m + 0 ≡ m = omega arith in rw e at s
    down (suc k) m s = down k m (pop_stack words (m + k) (let e : m + k + 1 ≡ m + suc k = omega arith in rw e s))
