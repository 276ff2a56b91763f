-- Pushing on words, piece by piece: a place, places in order, a table, ways in order. Each piece is a `Piles`, and they compose.
-- Assumes words that hold a stack, with the walk's slots.
use Prim.Native.Nat.{ℕ, ◌+◌, ◌≤◌, ◌<◌}
use mathlib.Core.Path.{◌≡◌, refl, sym, ap, ◌∙◌}
use mathlib.Core.Bool.{Bool, true, false, not}
use mathlib.Core.List.{List, [], ◌∷◌, ◌++◌, append_assoc}
use native.Mathlib.Omega.{arith}
use lib.ListN.{length, get_or}
use Rattle.places.specs.declared.SectionAddress.{SectionAddress}
use Rattle.lookups.specs.Code.{code_place}
use Rattle.vm.specs.declared.VM.{VM}
use Rattle.std.specs.Prelude.{Option, is_some, unwrap_or}
use Rattle.stack.specs.Stack.{Entry, Stack, room}
use Rattle.stack.specs.Push.{Pushes}
use Rattle.stack.proofs.Stacks as stacks
use Rattle.jump_tables.specs.Tables.{Outcome}
use Rattle.turns.specs.Grounds.{Way, table, Event, looked, Ground, Pile}
use Rattle.turns.specs.Turns.{push_at, push_each, asked_for, take_way, take_ways}
use Rattle.turns.specs.Histories.{one, Tally}
use Rattle.turns.specs.Moves.{Asked, Lent, place_of, is_fine, is_read, reading_to, look_at, ground_of}
use Rattle.turns.specs.Heads.{pile_in, Piles}
use Rattle.turns.proofs.Tallies.{tally_none, tally_read, tally_not_read, tally_append}
use Rattle.turns.proofs.TurnLaws.{push_out, pushes_after_full, ways_after_full, table_asked}
use Rattle.turns.proofs.Leavings.{takes_none, takes_more, pushes_none, pushes_more, pushes_append, places_from, places_more, places_none, places_split}
use Rattle.turns.proofs.StackWords.{push_is}

-- the walk's ground and pile
abbrev Here : Type 0
Here = Ground SectionAddress VM Asked Outcome Entry Lent

abbrev Held : Type 0
Held = Pile SectionAddress VM Asked Outcome Entry Lent

module _ {words : List ℕ} {n : ℕ} {buffer : List ℕ} where
  -- nothing is pushed
  pub piles_none : (push : Held → Held) → ((l : List (Event SectionAddress VM Asked Outcome)) → push (pile_in words n buffer false l) ≡ pile_in words n buffer false l)
      → Stack words n → Piles push words n buffer words n buffer false 0 0
  piles_none push e st = record { extra = []; same = e; tally = tally_none is_read; held = st; words_length = refl }

  -- one way of pushing after another
  pub piles_then : {words' words'' : List ℕ} {n' n'' : ℕ} {buffer' buffer'' : List ℕ} {full : Bool} {r m r' m' : ℕ} (push then : Held → Held)
      → Piles push words n buffer words' n' buffer' false r m → Piles then words' n' buffer' words'' n'' buffer'' full r' m'
      → Piles (λ k. then (push k)) words n buffer words'' n'' buffer'' full (r + r') (m + m')
  piles_then {words'} {words''} {n'} {n''} {buffer'} {buffer''} {full} push then h i = record {
    extra = i.extra ++ h.extra;
    same = λ l. ap then (h.same l) ∙ i.same (h.extra ++ l) ∙ ap (pile_in words'' n'' buffer'' full) (sym (append_assoc i.extra h.extra l));
    tally = tally_append is_read h.tally i.tally;
    held = i.held;
    words_length = i.words_length ∙ h.words_length;
  }

  -- after a refused push the rest is passed over
  pub piles_stop : {words' : List ℕ} {n' : ℕ} {buffer' : List ℕ} {r m : ℕ} (push then : Held → Held) → ((k : Held) → k.full ≡ true → then k ≡ k)
      → Piles push words n buffer words' n' buffer' true r m → Piles (λ k. then (push k)) words n buffer words' n' buffer' true r m
  piles_stop {words'} {n'} {buffer'} push then s h = record {
    extra = h.extra;
    same = λ l. ap then (h.same l) ∙ s (pile_in words' n' buffer' true (h.extra ++ l)) refl;
    tally = h.tally;
    held = h.held;
    words_length = h.words_length;
  }

  -- another name for the same pushing, other names for the same counts
  pub piles_as : {words' : List ℕ} {n' : ℕ} {buffer' : List ℕ} {full : Bool} {r m r' m' : ℕ} (push alike : Held → Held)
      → ((l : List (Event SectionAddress VM Asked Outcome)) → alike (pile_in words n buffer false l) ≡ push (pile_in words n buffer false l)) → r ≡ r' → m ≡ m'
      → Piles push words n buffer words' n' buffer' full r m → Piles alike words n buffer words' n' buffer' full r' m'
  piles_as push alike e a b h = record {
    extra = h.extra;
    same = λ l. e l ∙ h.same l;
    tally = rw (← a, ← b) h.tally;
    held = h.held;
    words_length = h.words_length;
  }

  -- the keys of a list, one by one, each with the state s
  module _ (g : Here) (s : VM) (keys : List ℕ) where
    pub piles_keys_start : Stack words n → Piles (push_each g s (places_from keys 0 0)) words n buffer words n buffer false 0 0
    piles_keys_start st =
        piles_none (push_each g s (places_from keys 0 0))
        (λ l. ap (λ (qs : List SectionAddress). push_each g s qs (pile_in words n buffer false l)) (places_none keys 0 0 (omega arith))
        ∙ pushes_none g s (pile_in words n buffer false l)) st

    pub piles_keys_more : {words' words'' : List ℕ} {n' n'' : ℕ} {full : Bool} (j : ℕ) → j < length keys
        → Piles (push_each g s (places_from keys 0 j)) words n buffer words' n' buffer false 0 0
        → Piles (push_at g (place_of (get_or keys j 0)) s) words' n' buffer words'' n'' buffer full 0 0
        → Piles (push_each g s (places_from keys 0 (j + 1))) words n buffer words'' n'' buffer full 0 0
    piles_keys_more j low h i =
        piles_as (λ k. push_at g (place_of (get_or keys j 0)) s (push_each g s (places_from keys 0 j) k)) (push_each g s (places_from keys 0 (j + 1)))
        (λ l. ap (λ (qs : List SectionAddress). push_each g s qs (pile_in words n buffer false l)) one_longer
        ∙ pushes_append g s (places_from keys 0 j) (place_of (get_or keys j 0) ∷ []) (pile_in words n buffer false l)
        ∙ pushes_more g s (place_of (get_or keys j 0)) [] (push_each g s (places_from keys 0 j) (pile_in words n buffer false l))
        ∙ pushes_none g s (push_at g (place_of (get_or keys j 0)) s (push_each g s (places_from keys 0 j) (pile_in words n buffer false l))))
        refl refl
        (piles_then (push_each g s (places_from keys 0 j)) (push_at g (place_of (get_or keys j 0)) s) h i)
      where
        one_longer : places_from keys 0 (j + 1) ≡ places_from keys 0 j ++ (place_of (get_or keys j 0) ∷ [])
        one_longer =
            places_split keys 0 j (j + 1) (omega arith) (omega arith) (omega arith)
            ∙ ap (λ (m : List SectionAddress). places_from keys 0 j ++ m)
            (places_more keys j (j + 1) (omega arith) (omega arith)
            ∙ ap (λ (m : List SectionAddress). place_of (get_or keys j 0) ∷ m) (places_none keys (j + 1) (j + 1) (omega arith)))

    pub piles_keys_stop : {words' : List ℕ} {n' : ℕ} (j e : ℕ) → j ≤ e → e ≤ length keys
        → Piles (push_each g s (places_from keys 0 j)) words n buffer words' n' buffer true 0 0
        → Piles (push_each g s (places_from keys 0 e)) words n buffer words' n' buffer true 0 0
    piles_keys_stop j e a b h =
        piles_as (λ k. push_each g s (places_from keys j e) (push_each g s (places_from keys 0 j) k)) (push_each g s (places_from keys 0 e))
        (λ l. ap (λ (qs : List SectionAddress). push_each g s qs (pile_in words n buffer false l)) (places_split keys 0 j e (omega arith) a b)
        ∙ pushes_append g s (places_from keys 0 j) (places_from keys j e) (pile_in words n buffer false l))
        refl refl
        (piles_stop (push_each g s (places_from keys 0 j)) (push_each g s (places_from keys j e)) (λ k f. pushes_after_full g s (places_from keys j e) k f) h)

  -- ways in order
  module _ (g : Here) (p : SectionAddress) where
    pub piles_no_way : Stack words n → Piles (take_ways g p []) words n buffer words n buffer false 0 0
    piles_no_way st = piles_none (take_ways g p []) (λ l. takes_none g p (pile_in words n buffer false l)) st

    pub piles_way_more : {words' words'' : List ℕ} {n' n'' : ℕ} {buffer' buffer'' : List ℕ} {full : Bool} {r m r' m' : ℕ} (y : Way SectionAddress VM Asked) (ys : List (Way SectionAddress VM Asked))
        → Piles (take_way g p y) words n buffer words' n' buffer' false r m → Piles (take_ways g p ys) words' n' buffer' words'' n'' buffer'' full r' m'
        → Piles (take_ways g p (y ∷ ys)) words n buffer words'' n'' buffer'' full (r + r') (m + m')
    piles_way_more y ys h i =
        piles_as (λ k. take_ways g p ys (take_way g p y k)) (take_ways g p (y ∷ ys)) (λ l. takes_more g p y ys (pile_in words n buffer false l)) refl refl
        (piles_then (take_way g p y) (take_ways g p ys) h i)

    pub piles_way_stop : {words' : List ℕ} {n' : ℕ} {buffer' : List ℕ} {r m : ℕ} (y : Way SectionAddress VM Asked) (ys : List (Way SectionAddress VM Asked))
        → Piles (take_way g p y) words n buffer words' n' buffer' true r m → Piles (take_ways g p (y ∷ ys)) words n buffer words' n' buffer' true r m
    piles_way_stop y ys h =
        piles_as (λ k. take_ways g p ys (take_way g p y k)) (take_ways g p (y ∷ ys)) (λ l. takes_more g p y ys (pile_in words n buffer false l)) refl refl
        (piles_stop (take_way g p y) (take_ways g p ys) (λ k f. ways_after_full g p ys k f) h)

    -- a table: asked for, then its entries
    pub piles_table : {words' : List ℕ} {n' : ℕ} {buffer' : List ℕ} {full : Bool} {r m : ℕ} (a : Asked) (s : VM)
        → Piles (asked_for g p a) words n buffer words n buffer' false r m → Piles (push_each g s (g.listed (g.look a))) words n buffer' words' n' buffer' full 0 0
        → Piles (take_way g p (table a s)) words n buffer words' n' buffer' full r m
    piles_table {r} {m} a s h i =
        piles_as (λ k. push_each g s (g.listed (g.look a)) (asked_for g p a k)) (take_way g p (table a s))
        (λ l. table_asked g p a s (pile_in words n buffer false l) refl) (let e : r + 0 ≡ r = omega arith in e) (let e : m + 0 ≡ m = omega arith in e)
        (piles_then (asked_for g p a) (push_each g s (g.listed (g.look a))) h i)

module _ (ws bs : List ℕ) (from : SectionAddress) (upto : Option SectionAddress) {words : List ℕ} {n : ℕ} {buffer : List ℕ} (slots : ℕ)
    (same-room : room (length words) ≡ slots) (st : Stack words n) where
  -- a place that is no word of code
  pub piles_out : (q : SectionAddress) (s : VM) → is_fine (code_place ws q) ≡ false
      → Piles (push_at (ground_of ws bs from upto slots) q s) words n buffer words n buffer false 0 0
  piles_out q s w =
      piles_none (push_at (ground_of ws bs from upto slots) q s)
      (λ l. push_out (ground_of ws bs from upto slots) q s (pile_in words n buffer false l) w) st

  -- a word of code: what crate `stack` does
  pub piles_push : (q : SectionAddress) (s : VM) → is_fine (code_place ws q) ≡ true → (r : Option ℕ) (words' : List ℕ) → Pushes words n q s true r words'
      → length words' ≡ length words
      → Piles (push_at (ground_of ws bs from upto slots) q s) words n buffer words' (unwrap_or r n) buffer (not (is_some r)) 0 0
  piles_push q s w r words' d e = record {
    extra = [];
    same = λ l. rw (← same-room) (push_is ws bs from upto q s words n buffer l st r words' d w);
    tally = tally_none is_read;
    held = stacks.push_stack words n q s st true r words' d;
    words_length = e;
  }

  -- a table was asked for: the buffer is its keys, or as it was where the table is External
  pub piles_asked : (p : SectionAddress) (a : Asked) (o : Outcome) → o ≡ look_at ws bs from upto a → (t : Bool) → is_read o ≡ t
      → Piles (asked_for (ground_of ws bs from upto slots) p a) words n buffer words n (reading_to a.target buffer o.keys) false (one t) (one (not t))
  piles_asked p a o e t f = record {
    extra = looked p a o ∷ [];
    same = λ l. rw e;
    tally = told t f;
    held = st;
    words_length = refl;
  }
    where
      told : (t : Bool) → is_read o ≡ t → Tally {P = SectionAddress} {S = VM} {A = Asked} {O = Outcome} is_read (looked p a o ∷ []) 0 0 (one t) (one (not t))
      told true f = tally_read is_read (tally_none is_read) p a o f
      told false f = tally_not_read is_read (tally_none is_read) p a o f
