-- Judging and starting: the starts one by one, an answer that is no refusal, and the first `Head`.
-- Assumes of the last law that nothing is refused.
use Prim.Native.Nat.{ℕ, ◌+◌, ◌≤◌, ◌<◌}
use mathlib.Core.Path.{◌≡◌, sym, ap, subst}
use mathlib.Core.Bool.{Bool}
use mathlib.Core.List.{List, [], ◌++◌, append-nil}
use native.Mathlib.Numerals.{add-one}
use lib.ListN.{length, get_or, take, drop, drop_of_length-le}
use lib.Seq.{drop-cons, take-length}
use Rattle.std.specs.Prelude.{⊤, Result, Ok, Err, Option}
use Rattle.std.specs.Result.{IsErrAnd}
use Rattle.places.specs.declared.SectionAddress.{SectionAddress}
use Rattle.image.specs.Rules.{code_words}
use Rattle.lookups.specs.Code.{code_place}
use Rattle.vm.specs.declared.VM.{VM}
use Rattle.vm.specs.States.{bases_of}
use Rattle.stack.specs.Stack.{Entry, room}
use Rattle.stack.proofs.Stacks.{no_entries}
use Rattle.visited.specs.Bits.{cleared}
use Rattle.jump_tables.specs.Tables.{Outcome}
use Rattle.turns.specs.declared.WalkError.{WalkError}
use Rattle.turns.specs.Grounds.{idle, Pile, conf}
use Rattle.turns.specs.Turns.{push_each, Reach, here}
use Rattle.turns.specs.Moves.{Asked, Lent, place_of, ground_of}
use Rattle.turns.specs.Walks.{given, start_in, starts_judged, judged_by, judged}
use Rattle.turns.specs.Heads.{Piles, Head}
use Rattle.walk.specs.Starts.{places_of, Begins}
use Rattle.lookups.specs.declared.PlaceError.TheVariants as place
use Rattle.lookups.specs.declared.PlaceError.{PlaceError}

-- the starts from number j on
abbrev pub judged_from : List ℕ → List ℕ → ℕ → Result ⊤ WalkError
judged_from ws starts j = starts_judged ws (places_of (drop j starts))

pub judges_next : (ws starts : List ℕ) (j : ℕ) → j < length starts → (p : Result ⊤ PlaceError) → code_place ws (place_of (get_or starts j 0)) ≡ p
    → judged_from ws starts j ≡ judged_by p (judged_from ws starts (j + 1))
unfolding starts_judged
judges_next ws starts j l p e = rw (← e, add-one j, drop-cons starts j 0 l)

pub judges_none : (ws starts : List ℕ) (j : ℕ) → length starts ≤ j → judged_from ws starts j ≡ Ok tt
unfolding starts_judged
judges_none ws starts j l = rw (drop_of_length-le starts l)

-- a bad start's refusal is that of all from it on
pub start_refuses : (e : PlaceError) (z r : Result ⊤ WalkError) → IsErrAnd r (λ x. judged_by (Err e) (Ok tt) ≡ Err x) → r ≡ judged_by (Err e) z
start_refuses place.NotCode z (Err x) h = sym h
start_refuses place.Misaligned z (Err x) h = sym h
start_refuses place.NotCode z (Ok u) h = absurd h
start_refuses place.Misaligned z (Ok u) h = absurd h

-- the map cleared and the starts pushed: the loop over blocks begins
module _ (ws bs starts : List ℕ) (two thirteen : Option ℕ) (vis words : List ℕ) where
  pub begins_done : {words' : List ℕ} {n : ℕ} {full : Bool}
      → ((from : SectionAddress) (upto : Option SectionAddress) → judged (given ws bs (places_of starts) two thirteen from upto) vis ≡ Ok tt)
      → ((bs : List ℕ) (from : SectionAddress) (upto : Option SectionAddress) (buffer : List ℕ)
      → Piles (push_each (ground_of ws bs from upto (room (length words))) (bases_of two thirteen) (places_of (take (length starts) starts))) words 0 buffer words' n buffer full 0 0)
      → Begins ws bs starts two thirteen vis words (Ok (record { held = n; full = full })) (cleared vis (code_words ws)) words'
  begins_done {words'} {n} {full} fine piled = record {
    refused = tt;
    begun = λ from upto buffer. (fine from upto, first from upto buffer (rw (take-length starts) at (piled bs from upto buffer)));
  }
    where
      first : (from : SectionAddress) (upto : Option SectionAddress) (buffer : List ℕ)
          → Piles (push_each (ground_of ws bs from upto (room (length words))) (bases_of two thirteen) (places_of starts)) words 0 buffer words' n buffer full 0 0
          → Head (given ws bs (places_of starts) two thirteen from upto) vis (record { stack = words; entries = buffer }) words' n buffer full (cleared vis (code_words ws)) 0 0 0 0
      first from upto buffer p = record {
        log = p.extra ++ [];
        reach =
            subst (λ (k : Pile SectionAddress VM Asked Outcome Entry Lent).
            Reach (ground_of ws bs from upto (room (length words))) (start_in (given ws bs (places_of starts) two thirteen from upto) vis (record { stack = words; entries = buffer }))
            (conf idle k (cleared vis (code_words ws))))
            (rw (no_entries words) at (p.same [])) here;
        tally = rw (append-nil p.extra) p.tally;
        held = p.held;
        slots = ap room p.words_length;
      }
