-- What a push means, over the list of waiting states: one more on top, or the whole sorted stably; and its words are fit for the next call.
-- Assumes what the state's type says of it, which `push` hands on.
use Prim.Native.Nat.{ℕ, ◌+◌, ◌%◌}
use mathlib.Core.Path.{◌≡◌, refl, sym, ap, ◌∙◌, subst}
use Rattle.std.specs.Prelude.{Ok}
use mathlib.Core.Bool.{Bool, true, false, ◌&&◌}
use mathlib.Core.List.{List, [], ◌∷◌, ◌++◌}
use lib.Dec.{ltb, eqb}
use lib.ListN.{length}
use borrow.Author.Tests.{ltb-true}
use Rattle.words.specs.Choice.{pick}
use Rattle.search.proofs.EveryLaws.{and_left, and_right}
use Rattle.places.specs.declared.SectionAddress.{SectionAddress}
use Rattle.image.specs.Rules.{sound}
use Rattle.lookups.specs.Code.{in_code}
use Rattle.vm.specs.declared.VM.{VM}
use Rattle.slot.specs.Fits.{Fits}
use Rattle.std.specs.Prelude.{Option, Some}
use Rattle.stack.specs.Sort.{insert_by, insert_all, sort_by}
use Rattle.stack.specs.Stack.{Entry, Stack, entries, entry_key, room}
use Rattle.stack.specs.Push.{pushed_words, Pushes}
use Rattle.stack.proofs.Stacks.{plain_push, sorted_push}
use Rattle.executor.specs.declared.Phase.{Phase}
use Rattle.executor.specs.declared.Phase.TheVariants as phase
use Rattle.executor.specs.Standing.{number_of, kept_of, first_failing}
use Rattle.executor.specs.Judge.{is_word, is_placed, all_words, lawful, verdict_of}
use Rattle.executor.specs.Push as call
use Rattle.executor.specs.Push.{pushes, push_call}
use Rattle.executor.proofs.Judging.{Judged, judged, lawful_by}
use Rattle.executor.proofs.Waiting.{all_last}
use Rattle.executor.proofs.Refusals.{push_number}
use Rattle.executor.proofs.Accepted.{passed}

-- sorting keeps words
both : (a b : Bool) → a ≡ true → b ≡ true → a && b ≡ true
both a b e f = rw (e, f)

insert_words : (im : List ℕ) (e : Entry) (es : List Entry) → is_word im e.place ≡ true → all_words im es ≡ true → all_words im (insert_by entry_key e es) ≡ true
unfolding all_words insert_by
insert_words im e [] w h = both (is_word im e.place) true w refl
insert_words im e (x ∷ es) w h =
    by (ltb (entry_key e) (entry_key x)) (insert_words im e es w (and_right (is_word im x.place) (all_words im es) h))
  where
    by : (t : Bool) → all_words im (insert_by entry_key e es) ≡ true → all_words im (pick t (e ∷ x ∷ es) (x ∷ insert_by entry_key e es)) ≡ true
    by true i = both (is_word im e.place) (is_word im x.place && all_words im es) w h
    by false i = both (is_word im x.place) (all_words im (insert_by entry_key e es)) (and_left (is_word im x.place) (all_words im es) h) i

all_words_sorted : (im : List ℕ) (to es : List Entry) → all_words im to ≡ true → all_words im es ≡ true → all_words im (insert_all entry_key to es) ≡ true
unfolding all_words insert_all
all_words_sorted im to [] g h = g
all_words_sorted im to (e ∷ es) g h =
    all_words_sorted im (insert_by entry_key e to) es
    (insert_words im e to (and_left (is_word im e.place) (all_words im es) h) g) (and_right (is_word im e.place) (all_words im es) h)

module _ (im : List ℕ) (d : ℕ) (words : List ℕ) (n : ℕ) (p : SectionAddress) (s : VM) (sorted : Bool)
    (accepted : number_of (push_call im d words n p s sorted).result ≡ 0) (fits : Fits s) where
  abbrev entry : Entry
  entry = record { place = p; state = s }

  -- the waiting states after it
  abbrev pushed : List Entry
  pushed = pick sorted (sort_by entry_key (entries words n ++ (entry ∷ []))) (entries words n ++ (entry ∷ []))

  one : (sound im d ≡ true) × (first_failing ((lawful im words n phase.Idle p, 12) ∷ (in_code im p, 2) ∷ (eqb (p.address % 4) 0, 3) ∷ (ltb n (room (length words)), 5) ∷ []) ≡ 0)
  one = passed 0 (sound im d) _ (sym (push_number im d words n p s sorted) ∙ accepted)

  twelve : (lawful im words n phase.Idle p ≡ true) × (first_failing ((in_code im p, 2) ∷ (eqb (p.address % 4) 0, 3) ∷ (ltb n (room (length words)), 5) ∷ []) ≡ 0)
  twelve = passed 11 (lawful im words n phase.Idle p) _ one.1

  two : (in_code im p ≡ true) × (first_failing ((eqb (p.address % 4) 0, 3) ∷ (ltb n (room (length words)), 5) ∷ []) ≡ 0)
  two = passed 1 (in_code im p) _ twelve.1

  three : (eqb (p.address % 4) 0 ≡ true) × (first_failing ((ltb n (room (length words)), 5) ∷ []) ≡ 0)
  three = passed 2 (eqb (p.address % 4) 0) _ two.1

  free : ltb n (room (length words)) ≡ true
  free = (passed 4 (ltb n (room (length words))) _ three.1).0

  fine : Judged im d words n phase.Idle p
  fine = judged im d words n phase.Idle p (rw (one.0, twelve.0))

  word : is_word im p ≡ true
  word = rw (two.0, three.0)

  push_is : push_call im d words n p s sorted ≡ pushes (Ok (n + 1)) (pushed_words words n p s sorted)
  push_is = rw (one.0, twelve.0, two.0, three.0, free)

  means : (t : Bool)
      → (entries (pushed_words words n p s t) (n + 1) ≡ pick t (sort_by entry_key (entries words n ++ (entry ∷ []))) (entries words n ++ (entry ∷ [])))
      × Stack (pushed_words words n p s t) (n + 1)
  means t = by t
    where
      r : Option ℕ
      r = Some (n + 1)

      kept : (t : Bool) → Pushes words n p s t r (pushed_words words n p s t)
      kept t = record { taken = sym free; count = refl; words = refl; fits = λ e. fits }

      by : (t : Bool)
          → (entries (pushed_words words n p s t) (n + 1) ≡ pick t (sort_by entry_key (entries words n ++ (entry ∷ []))) (entries words n ++ (entry ∷ [])))
          × Stack (pushed_words words n p s t) (n + 1)
      by true = sorted_push words n p s fine.held r (pushed_words words n p s true) (kept true) (ltb-true _ _ free)
      by false = plain_push words n p s fine.held r (pushed_words words n p s false) (kept false) (ltb-true _ _ free)

  -- the states in the words that a push leaves
  pub push_means : entries (push_call im d words n p s sorted).words (kept_of n (push_call im d words n p s sorted).result) ≡ pushed
  push_means = rw push_is (means sorted).0

  -- and they are fit, wherever the caller's own execution stands
  pushed_words_lem : (t : Bool) → all_words im (pick t (sort_by entry_key (entries words n ++ (entry ∷ []))) (entries words n ++ (entry ∷ []))) ≡ true
  unfolding all_words
  pushed_words_lem t = by t (all_last im (entries words n) entry ∙ both (all_words im (entries words n)) (is_word im p) fine.at_words word)
    where
      by : (t : Bool) → all_words im (entries words n ++ (entry ∷ [])) ≡ true
          → all_words im (pick t (sort_by entry_key (entries words n ++ (entry ∷ []))) (entries words n ++ (entry ∷ []))) ≡ true
      by true h = all_words_sorted im [] (entries words n ++ (entry ∷ [])) refl h
      by false h = h

  pub push_lawful : (ph : Phase) (at : SectionAddress) → is_placed im ph at ≡ true
      → verdict_of im d (push_call im d words n p s sorted).words (kept_of n (push_call im d words n p s sorted).result) ph at ≡ Ok tt
  push_lawful ph at h =
      subst (λ (q : call.Pushes). verdict_of im d q.words (kept_of n q.result) ph at ≡ Ok tt) (sym push_is)
      (lawful_by im d (pushed_words words n p s sorted) (n + 1) ph at fine.image (means sorted).1 (ap (all_words im) (means sorted).0 ∙ pushed_words_lem sorted) h)
