-- What a word that leaves asks, by how it leaves; the entries of a table one by one; the bit of the word that left.
-- Assumes nothing beyond each law's own conditions.
use Prim.Native.Nat.{ℕ, zero, suc, ◌+◌, ◌-◌, ◌≤◌, ◌<◌}
use mathlib.Core.Path.{◌≡◌, refl, ap}
use mathlib.Core.List.{List, [], ◌∷◌, ◌++◌, map}
use native.Mathlib.Numerals.{add-one}
use native.Mathlib.Omega.{arith}
use lib.ListN.{length, get_or, take, drop}
use lib.Seq.{drop-cons}
use Rattle.places.specs.declared.SectionAddress.{SectionAddress}
use Rattle.places.specs.Places.{moved}
use Rattle.vm.specs.declared.VM.{VM}
use Rattle.vm.specs.declared.GprValue.{GprValue}
use Rattle.vm.specs.declared.BranchTarget.{BranchTarget}
use Rattle.vm.specs.States.{link_of, return_of, with_result}
use Rattle.step.specs.declared.Leave.TheVariants.{Illegal, Jump, Call, Fork, Both}
use Rattle.step.specs.declared.Stopped.{Stopped}
use Rattle.step.specs.Ways.{left_of}
use Rattle.stack.specs.Stack.{Entry}
use Rattle.visited.specs.Bits.{with_bit, with_run}
use Rattle.jump_tables.specs.Tables.{Outcome, count_of}
use Rattle.turns.specs.Grounds.{Way, to, leave, Ground, Pile}
use Rattle.turns.specs.Turns.{push_at, push_each, take_way, take_ways}
use Rattle.turns.specs.Moves.{Asked, Lent, place_of, listed_in, ways_of, jump_by, move_by}
use Rattle.turns.specs.Straight.{leaving, Ran}

module _ (at : SectionAddress) (s : VM) where
  pub leaving_illegal : leaving Illegal at s ≡ leave []
  unfolding move_by left_of
  leaving_illegal = refl

  pub leaving_jump : (t : BranchTarget) → leaving (Jump t) at s ≡ jump_by at t s
  unfolding move_by left_of
  leaving_jump t = refl

  -- a linked branch: the next word with what a call returns with, then the target with what it is called with
  pub leaving_call : (t : BranchTarget) → leaving (Call t) at s ≡ leave (to (moved at 4) (return_of s) ∷ ways_of t (link_of s))
  unfolding move_by left_of
  leaving_call t = refl

  -- a conditional branch: the next word, then the target, each with what it knows of the compared register
  pub leaving_fork : (t : BranchTarget) (k : ℕ) (stays goes : GprValue)
      → leaving (Fork t k stays goes) at s ≡ leave (to (moved at 4) (with_result s stays k) ∷ ways_of t (with_result s goes k))
  unfolding move_by left_of
  leaving_fork t k stays goes = refl

  pub leaving_both : (t : BranchTarget) → leaving (Both t) at s ≡ leave (to (moved at 4) s ∷ ways_of t s)
  unfolding move_by left_of
  leaving_both t = refl

-- ways and places one by one
module _ {P S A O E M : Type 0} (g : Ground P S A O E M) where
  pub takes_none : (p : P) (k : Pile P S A O E M) → take_ways g p [] k ≡ k
  unfolding take_ways
  takes_none p k = refl

  pub takes_more : (p : P) (y : Way P S A) (ys : List (Way P S A)) (k : Pile P S A O E M) → take_ways g p (y ∷ ys) k ≡ take_ways g p ys (take_way g p y k)
  unfolding take_ways
  takes_more p y ys k = refl

  pub takes_place : (p q : P) (s : S) (k : Pile P S A O E M) → take_way g p (to q s) k ≡ push_at g q s k
  unfolding take_way
  takes_place p q s k = refl

  pub pushes_none : (s : S) (k : Pile P S A O E M) → push_each g s [] k ≡ k
  unfolding push_each
  pushes_none s k = refl

  pub pushes_more : (s : S) (q : P) (qs : List P) (k : Pile P S A O E M) → push_each g s (q ∷ qs) k ≡ push_each g s qs (push_at g q s k)
  unfolding push_each
  pushes_more s q qs k = refl

  pub pushes_append : (s : S) (xs ys : List P) (k : Pile P S A O E M) → push_each g s (xs ++ ys) k ≡ push_each g s ys (push_each g s xs k)
  unfolding push_each
  pushes_append s [] ys k = refl
  pushes_append s (x ∷ xs) ys k = pushes_append s xs ys (push_at g x s k)

-- the places of the keys from number j on, below number e
abbrev pub places_from : List ℕ → ℕ → ℕ → List SectionAddress
places_from keys j e = map place_of (take (e - j) (drop j keys))

pub places_more : (keys : List ℕ) (j e : ℕ) → j < e → e ≤ length keys → places_from keys j e ≡ place_of (get_or keys j 0) ∷ places_from keys (j + 1) e
places_more keys j e l h =
    let a : e - j ≡ suc (e - (j + 1)) = omega arith in
    let b : j < length keys = omega arith in
    rw (a, drop-cons keys j 0 b, add-one j)

pub places_none : (keys : List ℕ) (j e : ℕ) → e ≤ j → places_from keys j e ≡ []
places_none keys j e l = let a : e - j ≡ 0 = omega arith in rw a

-- the first j, then the others
pub places_split : (keys : List ℕ) (i j e : ℕ) → i ≤ j → j ≤ e → e ≤ length keys → places_from keys i e ≡ places_from keys i j ++ places_from keys j e
places_split keys i j e a b c = by (j - i) i refl a
  where
    by : (d i : ℕ) → j - i ≡ d → i ≤ j → places_from keys i e ≡ places_from keys i j ++ places_from keys j e
    by zero i z a =
        let same : i ≡ j = omega arith in
        rw (places_none keys i j (omega arith)) (ap (λ (n : ℕ). places_from keys n e) same)
    by (suc d) i z a =
        let l : i < j = omega arith in
        rw (places_more keys i e (omega arith) c, places_more keys i j l (omega arith))
        (ap (λ (m : List SectionAddress). place_of (get_or keys i 0) ∷ m) (by d (i + 1) (omega arith) (omega arith)))

-- a read table's entries
pub places_listed : (o : Outcome) → places_from o.keys 0 (count_of o.table) ≡ listed_in o
places_listed o = let e : count_of o.table - 0 ≡ count_of o.table = omega arith in rw e

-- the word that left is marked with those before it
pub marks_leaver : (g : Ground SectionAddress VM Asked Outcome Entry Lent) (p : SectionAddress) (s : VM) (v : List ℕ) (r : Stopped) (h : Ran g p s v r)
    → with_bit (with_run v (g.number p) h.many) (g.number r.at) ≡ with_run v (g.number p) (h.many + 1)
unfolding with_run
marks_leaver g p s v r h = rw (add-one h.many, h.number_is)
