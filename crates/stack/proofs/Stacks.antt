-- What pushing and popping mean, over lists of places with their states, the next to pop last.
-- Assumes a stack (`Stack`), which every push and pop leaves; the test of `is_stack` says yes to exactly that.
use mathlib.Core.Bool.{Bool, true, false}
use mathlib.Core.List.{List, [], ◌∷◌, ◌++◌}
use mathlib.Core.Path.{◌≡◌, refl, sym, ap, ◌∙◌, subst}
use Prim.Native.Nat.{ℕ, ◌+◌, ◌≤◌, ◌<◌}
use native.Mathlib.Decide.{dec_lt, ℕ_discrete}
use native.Mathlib.Omega.{arith}
use lib.Dec.{ltb}
use lib.ListN.{length, get_or}
use borrow.Author.Tests.{lt-ltb, le-ltb, eq-eqb, ne_eqb}
use Rattle.places.specs.Places.{before}
use Rattle.places.specs.declared.SectionAddress.{SectionAddress}
use Rattle.slot.proofs.PutLaws.{listed_one}
use Rattle.slot.specs.Put.{listed}
use Rattle.vm.specs.declared.VM.{VM}
use Rattle.std.specs.Prelude.{Option, Some, None, is_some, unwrap_or}
use Rattle.words.specs.Choice.{pick}
use Rattle.stack.specs.Push.{appended, pushed_words, Pushes}
use Rattle.stack.specs.Sort.{insert_by, sort_by}
use Rattle.stack.specs.Stack.{Entry, room, held_at, entries, entry_key, place_key, high_of, Stack}
use Rattle.stack.proofs.AppendLaws.{high_word, append_stack, append_entries}
use Rattle.stack.proofs.ArrangeLaws.{sorted_stack, sorted_entries}
use Rattle.stack.proofs.SortLaws.{Sorted, sort_kept, insert_all_snoc}
use Rattle.stack.proofs.ValidLaws.{empty_stack}

-- the entry that is pushed
abbrev pub entry : SectionAddress → VM → Entry
entry p s = record { place = p; state = s }

-- by section, then by address
pub key_order : (p q : SectionAddress) → p.address < 4294967296 → q.address < 4294967296 → ltb (place_key p) (place_key q) ≡ before p q
key_order p q a b =
    elim (dec_lt p.section q.section) [
      | yes l ↦ rw (lt-ltb p.section q.section l) (lt-ltb (place_key p) (place_key q) (omega arith))
      | no l ↦ rw (le-ltb p.section q.section (omega arith))
          (elim (ℕ_discrete p.section q.section) [
            | yes e ↦ rw (eq-eqb p.section q.section e) (elim (dec_lt p.address q.address) [ yes m ↦ rw (lt-ltb p.address q.address m) (lt-ltb (place_key p) (place_key q) (omega arith)) | no m ↦ rw (le-ltb p.address q.address (omega arith)) (le-ltb (place_key p) (place_key q) (omega arith)) ])
            | no e ↦ rw (ne_eqb p.section q.section e) (le-ltb (place_key p) (place_key q) (omega arith))
          ])
    ]

module _ (ws : List ℕ) (n : ℕ) (p : SectionAddress) (s : VM) (st : Stack ws n) where
  -- a push is refused exactly while all slots are held, and leaves every word and the count
  pub push_full : (sorted : Bool) (r : Option ℕ) (vs : List ℕ) → Pushes ws n p s sorted r vs → room (length ws) ≤ n → (is_some r ≡ false) × (unwrap_or r n ≡ n) × (vs ≡ ws)
  push_full sorted r vs d h =
      let no : is_some r ≡ false = d.taken ∙ le-ltb n (room (length ws)) h in
      (no, d.count ∙ ap (λ (t : Bool). pick t (n + 1) n) no, d.words ∙ ap (λ (t : Bool). pick t (pushed_words ws n p s sorted) ws) no)

  module _ (sorted : Bool) (r : Option ℕ) (vs : List ℕ) (d : Pushes ws n p s sorted r vs) (free : n < room (length ws)) where
    -- otherwise it is taken
    pub push_taken : is_some r ≡ true
    push_taken = d.taken ∙ lt-ltb n (room (length ws)) free

    pub push_count : unwrap_or r n ≡ n + 1
    push_count = d.count ∙ ap (λ (t : Bool). pick t (n + 1) n) push_taken

    pub push_words : vs ≡ pushed_words ws n p s sorted
    push_words = d.words ∙ ap (λ (t : Bool). pick t (pushed_words ws n p s sorted) ws) push_taken

  -- a plain push puts the state on top
  pub plain_push : (r : Option ℕ) (vs : List ℕ) → Pushes ws n p s false r vs → n < room (length ws)
      → (entries vs (unwrap_or r n) ≡ entries ws n ++ (entry p s ∷ [])) × Stack vs (unwrap_or r n)
  plain_push r vs d free =
      let f = d.fits (push_taken false r vs d free) in
      rw (push_count false r vs d free, push_words false r vs d free)
      (append_entries ws n st free p s f, append_stack ws n st free p s f)

  -- a sorted push sorts the whole, stably
  pub sorted_push : (r : Option ℕ) (vs : List ℕ) → Pushes ws n p s true r vs → n < room (length ws)
      → (entries vs (unwrap_or r n) ≡ sort_by entry_key (entries ws n ++ (entry p s ∷ []))) × Stack vs (unwrap_or r n)
  sorted_push r vs d free =
      let f = d.fits (push_taken true r vs d free) in
      let ws' : List ℕ = appended ws n p s in
      let st' : Stack ws' (n + 1) = append_stack ws n st free p s f in
      rw (push_count true r vs d free, push_words true r vs d free)
      (sorted_entries ws' (n + 1) st' (omega arith) ∙ ap (sort_by entry_key) (append_entries ws n st free p s f), sorted_stack ws' (n + 1) st' (omega arith))

  taken_stack : (sorted : Bool) (r : Option ℕ) (vs : List ℕ) → Pushes ws n p s sorted r vs → n < room (length ws) → Stack vs (unwrap_or r n)
  taken_stack true r vs d free = (sorted_push r vs d free).1
  taken_stack false r vs d free = (plain_push r vs d free).1

  -- a push leaves a stack, taken or not
  pub push_stack : (sorted : Bool) (r : Option ℕ) (vs : List ℕ) → Pushes ws n p s sorted r vs → Stack vs (unwrap_or r n)
  push_stack sorted r vs d =
      elim (dec_lt n (room (length ws))) [
        | yes a ↦ taken_stack sorted r vs d a
        | no a ↦ (let e = push_full sorted r vs d (omega arith) in rw (e.1, e.2) st)
      ]

-- what is in order already takes one more in its place, behind its equals
pub sorted_insert : (es : List Entry) (e : Entry) → Sorted e entry_key es → sort_by entry_key (es ++ (e ∷ [])) ≡ insert_by entry_key e es
sorted_insert es e o = insert_all_snoc e entry_key e [] es ∙ ap (insert_by entry_key e) (sort_kept e entry_key es o)

-- a pop takes the last entry, and leaves a stack with the same words
pub pop_entries : (ws : List ℕ) (n : ℕ) → entries ws (n + 1) ≡ entries ws n ++ (held_at ws n ∷ [])
pop_entries ws n = listed_one (held_at ws) n

pub pop_stack : (ws : List ℕ) (n : ℕ) → Stack ws (n + 1) → Stack ws n
pop_stack ws n st =
    elim (ℕ_discrete n 0) [
      | yes e ↦ subst (λ (m : ℕ). Stack ws m) (sym e) (empty_stack ws)
      | no e ↦
          let some : 0 < n = (elim (dec_lt 0 n) [ yes q ↦ q | no q ↦ absurd (e (omega arith)) ]) in
          let here : high_of ws n ≡ get_or ws 0 0 = high_word ws n some in
          let then : high_of ws (n + 1) ≡ get_or ws 0 0 = high_word ws (n + 1) (omega arith) in
          record {
            count = omega (arith, st.count);
            within = omega (arith, st.within);
            first = λ h. omega (arith, st.first (omega arith));
            named = λ i h. omega (arith, st.named i (omega arith));
            apart = λ i j h g q. st.apart i j (omega arith) (omega arith) q;
            sorted = λ i j h g. st.sorted i j h (omega arith);
            slots = λ i h. st.slots i (omega arith);
          }
    ]

-- after a pop there is room: popped slots serve again
pub pop_room : (ws : List ℕ) (n : ℕ) → Stack ws (n + 1) → n < room (length ws)
pop_room ws n st = omega (arith, st.count, st.within)

-- nothing is held: no entries, whatever the words
pub no_entries : (ws : List ℕ) → entries ws 0 ≡ []
unfolding listed
no_entries ws = refl

-- the contract of a push allows one answer alone
pub push_unique : (ws : List ℕ) (n : ℕ) (p : SectionAddress) (s : VM) (sorted : Bool) (r q : Option ℕ) (vs us : List ℕ)
    → Pushes ws n p s sorted r vs → Pushes ws n p s sorted q us → (r ≡ q) × (vs ≡ us)
push_unique ws n p s sorted r q vs us d f =
    let t : is_some r ≡ is_some q = d.taken ∙ sym f.taken in
    let c : unwrap_or r n ≡ unwrap_or q n = d.count ∙ ap (λ (b : Bool). pick b (n + 1) n) t ∙ sym f.count in
    (same_answer n r q t c, d.words ∙ ap (λ (b : Bool). pick b (pushed_words ws n p s sorted) ws) t ∙ sym f.words)
  where
    same_answer : (n : ℕ) (r q : Option ℕ) → is_some r ≡ is_some q → unwrap_or r n ≡ unwrap_or q n → r ≡ q
    same_answer n None None t c = refl
    same_answer n (Some a) (Some b) t c = ap Some c
    same_answer n None (Some b) t c = cc
    same_answer n (Some a) None t c = cc
