-- One place pushed, and the keys of a table one by one, over every ground of the image.
-- Assumes words that hold a stack.
use Prim.Native.Nat.{ℕ, ◌+◌, ◌-◌, ◌≤◌, ◌<◌}
use mathlib.Core.Path.{◌≡◌, refl, ap, ◌∙◌}
use mathlib.Core.Bool.{Bool, true, false, not}
use mathlib.Core.List.{List, [], map}
use native.Mathlib.Omega.{arith}
use lib.ListN.{length, get_or, take}
use Rattle.places.specs.declared.SectionAddress.{SectionAddress}
use Rattle.lookups.specs.Code.{code_place}
use Rattle.vm.specs.declared.VM.{VM}
use Rattle.std.specs.Prelude.{Option, is_some, unwrap_or, None}
use Rattle.stack.specs.Stack.{Stack, room}
use Rattle.stack.specs.Push.{Pushes}
use Rattle.turns.specs.Turns.{push_at, push_each}
use Rattle.turns.specs.Moves.{is_fine, place_of, ground_of}
use Rattle.turns.specs.Heads.{Piles}
use Rattle.turns.proofs.Leavings.{places_from}
use Rattle.turns.proofs.PileLaws.{piles_out, piles_push, piles_keys_start, piles_keys_more, piles_keys_stop}
use Rattle.pushes.specs.declared.Taken.{Taken}
use Rattle.pushes.specs.Takes.{none, PushedAt, PushedKeys}

module _ (ws words : List ℕ) (n : ℕ) (q : SectionAddress) (s : VM) (st : Stack words n) where
  -- no word of code
  pub pushed_out : (r : Taken) → is_fine (code_place ws q) ≡ false → r ≡ none n → PushedAt ws words n q s words r
  pushed_out r w e =
      rw e
      (record { piles = λ bs from upto buffer. piles_out ws bs from upto (room (length words)) refl st q s w; read = refl; not_read = refl })

  -- a word of code
  pub pushed_word : (p : Option ℕ) (words' : List ℕ) → is_fine (code_place ws q) ≡ true → Pushes words n q s true p words' → length words' ≡ length words
      → PushedAt ws words n q s words' (record { held = unwrap_or p n; full = not (is_some p); read = 0; not_read = 0 })
  pushed_word p words' w d e = record {
    piles = λ bs from upto buffer. piles_push ws bs from upto (room (length words)) refl st q s w p words' d e;
    read = refl;
    not_read = refl;
  }

-- the same over a ground with as many slots
pub on_ground : {ws words : List ℕ} {n : ℕ} {q : SectionAddress} {s : VM} {words' : List ℕ} {r : Taken} {full : Bool} → PushedAt ws words n q s words' r
    → (slots : ℕ) → room (length words) ≡ slots → r.full ≡ full → (bs : List ℕ) (from : SectionAddress) (upto : Option SectionAddress) (buffer : List ℕ)
    → Piles (push_at (ground_of ws bs from upto slots) q s) words n buffer words' r.held buffer full 0 0
on_ground h slots e f bs from upto buffer = rw (← e, ← f) (h.piles bs from upto buffer)

-- the first j keys are pushed, and no push was refused
pub record KeysIn (ws words : List ℕ) (n : ℕ) (keys : List ℕ) (s : VM) (words' : List ℕ) (n' j : ℕ) : Type 0 where
  pub piles : (bs : List ℕ) (from : SectionAddress) (upto : Option SectionAddress) (buffer : List ℕ)
      → Piles (push_each (ground_of ws bs from upto (room (length words))) s (places_from keys 0 j)) words n buffer words' n' buffer false 0 0
  pub held : Stack words' n'
  pub words_length : length words' ≡ length words

places_first : (keys : List ℕ) (e : ℕ) → places_from keys 0 e ≡ map place_of (take e keys)
places_first keys e = let z : e - 0 ≡ e = omega arith in rw z

module _ (ws words : List ℕ) (n : ℕ) (keys : List ℕ) (s : VM) where
  pub keys_start : Stack words n → KeysIn ws words n keys s words n 0
  keys_start st = record {
    piles = λ bs from upto buffer. piles_keys_start (ground_of ws bs from upto (room (length words))) s keys st;
    held = st;
    words_length = refl;
  }

  module _ {words' : List ℕ} {n' j : ℕ} (h : KeysIn ws words n keys s words' n' j) where
    -- all of them
    pub keys_done : (e : ℕ) (r : Taken) → j ≡ e → r ≡ none n' → PushedKeys ws words n keys e s words' r
    keys_done e r same z =
        rw z
        (record {
          piles = λ bs from upto buffer. rw (← places_first keys e, ← same) (h.piles bs from upto buffer);
          read = refl;
          not_read = refl;
        })

    -- one more
    module _ {words'' : List ℕ} {r : Taken} (low : j < length keys) (p : PushedAt ws words' n' (place_of (get_or keys j 0)) s words'' r) where
      next : (full : Bool) → r.full ≡ full → (bs : List ℕ) (from : SectionAddress) (upto : Option SectionAddress) (buffer : List ℕ)
          → Piles (push_each (ground_of ws bs from upto (room (length words))) s (places_from keys 0 (j + 1))) words n buffer words'' r.held buffer full 0 0
      next full f bs from upto buffer =
          piles_keys_more (ground_of ws bs from upto (room (length words))) s keys j low (h.piles bs from upto buffer)
          (on_ground p (room (length words)) (ap room h.words_length) f bs from upto buffer)

      pub keys_more : r.full ≡ false → KeysIn ws words n keys s words'' r.held (j + 1)
      keys_more f =
          let one = p.piles [] (place_of (get_or keys j 0)) None [] in
          record { piles = next false f; held = one.held; words_length = one.words_length ∙ h.words_length }

      -- a push was refused: the rest is passed over
      pub keys_stop : (e : ℕ) → r.full ≡ true → j < e → e ≤ length keys → PushedKeys ws words n keys e s words'' r
      keys_stop e f a b = record {
        piles = λ bs from upto buffer.
            rw (← places_first keys e, f)
            (piles_keys_stop (ground_of ws bs from upto (room (length words))) s keys (j + 1) e (omega arith) b (next true f bs from upto buffer));
        read = p.read;
        not_read = p.not_read;
      }
