-- A plain push: the words that it leaves are a stack, and its entries are those before it with the new one on top.
-- Assumes a stack with room, and of the state what its type says.
use mathlib.Core.Bool.{true}
use mathlib.Core.List.{List, [], ◌∷◌, ◌++◌}
use mathlib.Core.Logic.{◌≢◌}
use mathlib.Core.Path.{◌≡◌, sym, ap, ◌∙◌}
use Prim.Native.Nat.{ℕ, ◌+◌, ◌≤◌, ◌<◌}
use native.Mathlib.Decide.{dec_lt, ℕ_discrete}
use native.Mathlib.Omega.{arith}
use lib.ListN.{length, get_or, set, take, drop, length-set}
use lib.Seq.{get_or-set_same, get_or-set_other, length-take-le, set-append_left, take-set-lt, drop-set-lt}
use borrow.Author.Tests.{lt-ltb, le-ltb, ne_eqb}
use Rattle.places.specs.declared.SectionAddress.{SectionAddress}
use Rattle.slot.proofs.PutLaws.{put_length, put_low, put_high, listed_same, listed_one}
use Rattle.slot.proofs.SameLaws.{Agree}
use Rattle.slot.proofs.SlotLaws.{slot_length, place_back, state_back, slot_back}
use Rattle.slot.specs.Fits.{Fits}
use Rattle.slot.specs.Layout.{slot_size, slot_words, place_in, state_in, is_slot}
use Rattle.slot.specs.Put.{put}
use Rattle.vm.specs.declared.VM.{VM}
use Rattle.stack.specs.Push.{next_slot, next_high, claimed, appended}
use Rattle.stack.specs.Stack.{Entry, room, slot_at, order_at, entry_at, held_at, entries, key_at, slot_key, high_of, sorted_of, Stack}
use Rattle.stack.proofs.RoomLaws.{room_fits}
use Rattle.stack.proofs.SlotsKept.{key_kept, entry_kept, slot_kept}

-- a word below what is written over may be set before it or after it
put_set : (ws : List ℕ) (at : ℕ) (l : List ℕ) (i v : ℕ) → i < at → at ≤ length ws → set (put ws at l) i v ≡ put (set ws i v) at l
put_set ws at l i v h g =
    let t : length (take at ws) ≡ at = length-take-le at ws g in
    set-append_left (take at ws) (l ++ drop (at + length l) ws) i v (omega (arith, t, h))
    ∙ rw (take-set-lt at ws i v h, drop-set-lt (at + length l) ws i v (omega (arith, h)))

-- while states are held, word 0 says how many slots are in use
pub high_word : (ws : List ℕ) (n : ℕ) → 0 < n → high_of ws n ≡ get_or ws 0 0
high_word ws n h = rw (ne_eqb n 0 (λ e. omega arith))

-- the next state's slot is one that was popped, or a new one
pub data Next (ws : List ℕ) (n k high : ℕ) : Type 0 where
  again : n < high_of ws n → k ≡ order_at ws n → high ≡ high_of ws n → Next ws n k high
  anew : high_of ws n ≤ n → k ≡ n → high ≡ n + 1 → Next ws n k high

pub next : (ws : List ℕ) (n : ℕ) → Next ws n (next_slot ws n) (next_high ws n)
next ws n =
    elim (dec_lt n (high_of ws n)) [
      | yes a ↦ again a (rw (lt-ltb n (high_of ws n) a)) (rw (lt-ltb n (high_of ws n) a))
      | no a ↦ (let b : high_of ws n ≤ n = omega arith in anew b (rw (le-ltb n (high_of ws n) b)) (rw (le-ltb n (high_of ws n) b)))
    ]

module _ (ws : List ℕ) (n : ℕ) (st : Stack ws n) (free : n < room (length ws)) where
  slot_low : (k high : ℕ) → Next ws n k high → k < room (length ws)
  slot_low k high (again a e f) = omega (arith, st.named n a, st.within)
  slot_low k high (anew a e f) = omega arith

  -- a slot for the next state
  pub next_low : next_slot ws n < room (length ws)
  next_low = slot_low (next_slot ws n) (next_high ws n) (next ws n)

  slot_new : (k high : ℕ) → Next ws n k high → (i : ℕ) → i < n → order_at ws i ≢ k
  slot_new k high (again a e f) i h q = let z : i ≡ n = st.apart i n (omega arith) a (q ∙ e) in omega arith
  slot_new k high (anew a e f) i h q = let z : order_at ws i < high_of ws n = st.named i (omega (arith, st.count)) in omega arith

  -- that no held state has
  pub next_new : (i : ℕ) → i < n → order_at ws i ≢ next_slot ws n
  next_new = slot_new (next_slot ws n) (next_high ws n) (next ws n)

  high_fits : (k high : ℕ) → Next ws n k high → (n + 1 ≤ high) × (high ≤ room (length ws))
  high_fits k high (again a e f) = (omega arith, omega (arith, st.within))
  high_fits k high (anew a e f) = (omega arith, omega arith)

  slot_below : (k high : ℕ) → Next ws n k high → k < high
  slot_below k high (again a e f) = omega (arith, st.named n a)
  slot_below k high (anew a e f) = omega arith

  -- below the new mark, other than the new state's own, the table is the old one
  old_below : (k high : ℕ) → Next ws n k high → (i : ℕ) → i < high → i ≢ n → i < high_of ws n
  old_below k high (again a e f) i h q = omega arith
  old_below k high (anew a e f) i h q =
      elim (dec_lt i n) [ yes b ↦ omega (arith, st.count) | no b ↦ absurd (q (omega arith)) ]

  old_apart : (k high : ℕ) → Next ws n k high → (i : ℕ) → i < high → i ≢ n → order_at ws i ≢ k
  old_apart k high (again a e f) i h q t = q (st.apart i n (omega arith) a (t ∙ e))
  old_apart k high (anew a e f) i h q t =
      let b : i < high_of ws n = old_below k high (anew a e f) i h q in
      let z : order_at ws i < high_of ws n = st.named i b in
      omega arith

  module _ (p : SectionAddress) (s : VM) where
    abbrev k : ℕ
    k = next_slot ws n

    abbrev c : List ℕ
    c = claimed ws n

    abbrev vs : List ℕ
    vs = appended ws n p s

    -- the slot lies inside the words
    pub slot_fits : slot_at ws k + slot_size ≤ length ws
    slot_fits = omega (arith, room_fits (length ws) n free, next_low)

    claim_length : length c ≡ length ws
    claim_length = simp length-set

    slot_in : slot_at ws k + length (slot_words p s) ≤ length c
    slot_in = omega (arith, slot_fits, claim_length, slot_length p s)

    pub append_length : length vs ≡ length ws
    append_length = put_length c (slot_at ws k) (slot_words p s) slot_in ∙ claim_length

    -- the slot may be written first: what is entered lies below it
    pub append_entered : set (set (set (put ws (slot_at ws k) (slot_words p s)) 0 (next_high ws n)) 1 (sorted_of ws n)) (2 + n) k ≡ vs
    append_entered =
        let l : List ℕ = slot_words p s in
        let at : ℕ = slot_at ws k in
        let low : 2 + n < at = omega arith in
        let in0 : at ≤ length ws = omega (arith, slot_fits) in
        let in1 : at ≤ length (set ws 0 (next_high ws n)) = simp length-set in0 in
        let in2 : at ≤ length (set (set ws 0 (next_high ws n)) 1 (sorted_of ws n)) = simp length-set in0 in
        ap (λ (u : List ℕ). set (set u 1 (sorted_of ws n)) (2 + n) k) (put_set ws at l 0 (next_high ws n) (omega (arith, low)) in0)
        ∙ ap (λ (u : List ℕ). set u (2 + n) k) (put_set (set ws 0 (next_high ws n)) at l 1 (sorted_of ws n) (omega (arith, low)) in1)
        ∙ put_set (set (set ws 0 (next_high ws n)) 1 (sorted_of ws n)) at l (2 + n) k low in2

    below_slots : (i : ℕ) → i < 2 + room (length ws) → get_or vs i 0 ≡ get_or c i 0
    below_slots i h = put_low c (slot_at ws k) (slot_words p s) i (omega (arith, slot_in)) (omega arith)

    claim_top : get_or c (2 + n) 0 ≡ k
    claim_top = get_or-set_same (set (set ws 0 (next_high ws n)) 1 (sorted_of ws n)) (2 + n) k 0 (simp length-set (omega (arith, room_fits (length ws) n free)))

    claim_other : (i : ℕ) → 2 ≤ i → i ≢ 2 + n → get_or c i 0 ≡ get_or ws i 0
    claim_other i h q =
        get_or-set_other (set (set ws 0 (next_high ws n)) 1 (sorted_of ws n)) (2 + n) i k 0 q
        ∙ get_or-set_other (set ws 0 (next_high ws n)) 1 i (sorted_of ws n) 0 (λ e. omega arith)
        ∙ get_or-set_other ws 0 i (next_high ws n) 0 (λ e. omega arith)

    pub word_0 : get_or vs 0 0 ≡ next_high ws n
    word_0 =
        below_slots 0 (omega arith)
        ∙ get_or-set_other (set (set ws 0 (next_high ws n)) 1 (sorted_of ws n)) (2 + n) 0 k 0 (λ e. omega arith)
        ∙ get_or-set_other (set ws 0 (next_high ws n)) 1 0 (sorted_of ws n) 0 (λ e. omega arith)
        ∙ get_or-set_same ws 0 (next_high ws n) 0 (omega (arith, room_fits (length ws) n free))

    pub word_1 : get_or vs 1 0 ≡ sorted_of ws n
    word_1 =
        below_slots 1 (omega arith)
        ∙ get_or-set_other (set (set ws 0 (next_high ws n)) 1 (sorted_of ws n)) (2 + n) 1 k 0 (λ e. omega arith)
        ∙ get_or-set_same (set ws 0 (next_high ws n)) 1 (sorted_of ws n) 0 (simp length-set (omega (arith, room_fits (length ws) n free)))

    pub order_top : order_at vs n ≡ k
    order_top = below_slots (2 + n) (omega arith) ∙ claim_top

    pub order_other : (i : ℕ) → i < room (length ws) → i ≢ n → order_at vs i ≡ order_at ws i
    order_other i h q = below_slots (2 + i) (omega arith) ∙ claim_other (2 + i) (omega arith) (λ e. q (omega arith))

    -- every other slot keeps its words
    other_kept : (j : ℕ) → j < room (length ws) → j ≢ k → Agree ws vs (slot_at ws j) slot_size
    other_kept j h q i a =
        elim (dec_lt j k) [
          | yes b ↦ put_low c (slot_at ws k) (slot_words p s) (slot_at ws j + i) (omega (arith, slot_in)) (omega arith)
              ∙ claim_other (slot_at ws j + i) (omega arith) (λ e. omega arith)
          | no b ↦
              let m : k < j = (elim (dec_lt k j) [ yes x ↦ x | no x ↦ absurd (q (omega arith)) ]) in
              put_high c (slot_at ws k) (slot_words p s) (slot_at ws j + i) (omega (arith, slot_in)) (omega (arith, slot_length p s))
              ∙ claim_other (slot_at ws j + i) (omega arith) (λ e. omega arith)
        ]

    held_kept : (i : ℕ) → i < n → Agree ws vs (slot_at ws (order_at ws i)) slot_size
    held_kept i h = other_kept (order_at ws i) (omega (arith, st.named i (omega (arith, st.count)), st.within)) (next_new i h)

    order_held : (i : ℕ) → i < n → order_at vs i ≡ order_at ws i
    order_held i h = order_other i (omega arith) (λ e. omega arith)

    slot_there : slot_at vs k ≡ slot_at ws k
    slot_there = rw append_length

    top_place : place_in vs (slot_at vs (order_at vs n)) ≡ p
    top_place =
        ap (λ (j : ℕ). place_in vs (slot_at vs j)) order_top ∙ ap (place_in vs) slot_there
        ∙ place_back c (slot_at ws k) p s (omega (arith, slot_in))

    -- the new state is on top
    pub append_top : Fits s → held_at vs n ≡ record { place = p; state = s }
    append_top f =
        ap (λ (q : SectionAddress). mk q (state_in vs (slot_at vs (order_at vs n)))) top_place
        ∙ ap (mk p)
        (ap (λ (j : ℕ). state_in vs (slot_at vs j)) order_top ∙ ap (state_in vs) slot_there
        ∙ state_back c (slot_at ws k) p s f (omega (arith, slot_in)))
      where
        mk : SectionAddress → VM → Entry
        mk q t = record { place = q; state = t }

    held_entry : (i : ℕ) → i < n → held_at vs i ≡ held_at ws i
    held_entry i h = ap (entry_at vs) (order_held i h) ∙ entry_kept ws vs append_length (order_at ws i) (held_kept i h)

    held_key : (i : ℕ) → i < n → key_at vs i ≡ key_at ws i
    held_key i h = ap (slot_key vs) (order_held i h) ∙ key_kept ws vs append_length (order_at ws i) (held_kept i h)

    -- the entries after a plain push
    pub append_entries : Fits s → entries vs (n + 1) ≡ entries ws n ++ (record { place = p; state = s } ∷ [])
    append_entries f =
        listed_one (held_at vs) n
        ∙ ap (λ (l : List Entry). l ++ (held_at vs n ∷ [])) (listed_same (held_at vs) (held_at ws) n held_entry)
        ∙ ap (λ (e : Entry). entries ws n ++ (e ∷ [])) (append_top f)

    high_now : high_of vs (n + 1) ≡ next_high ws n
    high_now = high_word vs (n + 1) (omega arith) ∙ word_0

    abbrev high : ℕ
    high = next_high ws n

    bounds : (n + 1 ≤ high) × (high ≤ room (length ws))
    bounds = high_fits k high (next ws n)

    named_now : (i : ℕ) → i < high → order_at vs i < high
    named_now i h =
        elim (ℕ_discrete i n) [
          | yes e ↦
              let t : order_at vs i ≡ k = ap (order_at vs) e ∙ order_top in
              omega (arith, slot_below k high (next ws n))
          | no e ↦
              let b : i < high_of ws n = old_below k high (next ws n) i h e in
              omega (arith, order_other i (omega (arith, bounds.1)) e, st.named i b, old_high (next ws n))
        ]
      where
        old_high : Next ws n k high → high_of ws n ≤ high
        old_high (again a e f) = omega arith
        old_high (anew a e f) = omega arith

    top_alone : (i j : ℕ) → i < high → i ≢ n → j ≡ n → order_at vs i ≡ order_at vs j → ⊥
    top_alone i j h q e t =
        old_apart k high (next ws n) i h q
        (sym (order_other i (omega (arith, bounds.1)) q) ∙ t ∙ ap (order_at vs) e ∙ order_top)

    apart_now : (i j : ℕ) → i < high → j < high → order_at vs i ≡ order_at vs j → i ≡ j
    apart_now i j h g t =
        elim (ℕ_discrete i n) [
          | yes e ↦ elim (ℕ_discrete j n) [ yes f ↦ omega arith | no f ↦ absurd (top_alone j i g f e (sym t)) ]
          | no e ↦ elim (ℕ_discrete j n) [
            | yes f ↦ absurd (top_alone i j h e f t)
            | no f ↦ st.apart i j (old_below k high (next ws n) i h e) (old_below k high (next ws n) j g f)
                (sym (order_other i (omega (arith, bounds.1)) e) ∙ t ∙ order_other j (omega (arith, bounds.1)) f)
          ]
        ]

    le_by : {a b x y : ℕ} → a ≡ x → b ≡ y → x ≤ y → a ≤ b
    le_by e f h = omega arith

    sorted_now : (i j : ℕ) → i ≤ j → j < sorted_of vs (n + 1) → key_at vs i ≤ key_at vs j
    sorted_now i j h g =
        let b : j < sorted_of ws n = omega (arith, word_1) in
        le_by (held_key i (omega arith)) (held_key j (omega arith)) (st.sorted i j h b)

    slot_now : Fits s → (i : ℕ) → i < n + 1 → is_slot vs (slot_at vs (order_at vs i)) ≡ true
    slot_now f i h =
        elim (dec_lt i n) [
          | yes a ↦ ap (λ (j : ℕ). is_slot vs (slot_at vs j)) (order_held i a) ∙ slot_kept ws vs append_length (order_at ws i) (held_kept i a) ∙ st.slots i a
          | no a ↦
              let e : i ≡ n = omega arith in
              ap (λ (j : ℕ). is_slot vs (slot_at vs j)) (ap (order_at vs) e ∙ order_top) ∙ ap (is_slot vs) slot_there
              ∙ slot_back c (slot_at ws k) p s f (omega (arith, slot_in))
        ]

    -- a plain push leaves a stack
    pub append_stack : Fits s → Stack vs (n + 1)
    append_stack f = record {
      count = omega (arith, high_now, bounds.0);
      within = omega (arith, high_now, bounds.1, ap room append_length);
      first = λ h. omega (arith, high_now, bounds.0, word_1);
      named = λ i h. omega (arith, high_now, named_now i (omega (arith, high_now)));
      apart = λ i j h g e. apart_now i j (omega (arith, high_now)) (omega (arith, high_now)) e;
      sorted = sorted_now;
      slots = slot_now f;
    }
