-- What the audit depends on: images that differ only in their data, and agree on every word that the first walk steps and on what came
-- of every table it asks for, are walked alike, refusals included. Assumes data of the same length.
use Prim.Native.Nat.{ℕ}
use mathlib.Core.Path.{◌≡◌, refl, ap}
use mathlib.Core.List.{List, [], ◌∷◌}
use lib.ListN.{length}
use Rattle.places.specs.declared.SectionAddress.{SectionAddress}
use Rattle.vm.specs.declared.VM.{VM}
use Rattle.vm.specs.States.{bases_of}
use Rattle.stack.specs.Stack.{room}
use Rattle.step.specs.Step.{step_of}
use Rattle.jump_tables.specs.Tables.{Outcome}
use Rattle.turns.specs.declared.WalkError.{WalkError}
use Rattle.std.specs.Prelude.{⊤, Result, Ok, Err}
use Rattle.turns.specs.Grounds.{Event, begun, stepped, looked}
use Rattle.turns.specs.Moves.{Asked, Lent, word_of, move_from, move_at, look_at}
use Rattle.turns.specs.Walks.{Given, ground_in, judged, walk_over, left_by, refused_with, unless_refused, walked}
use Rattle.turns.proofs.Lists.{Each}
use Rattle.turns.proofs.Blind.{Agrees, walks_alike}
use Rattle.turns.proofs.SoundGround.{image_lawful}
use Rattle.turns.proofs.WalkLaws.{image_sound, map_room, lawful}

-- the same, with other data
abbrev pub with_bytes : Given → List ℕ → Given
with_bytes i bs =
    record { tables = i.tables; bytes = bs; starts = i.starts; two = i.two; thirteen = i.thirteen; from = i.from; upto = i.upto }

-- the word stepped is the same in both, and so is what came of the table
abbrev pub SameData : Given → List ℕ → Event SectionAddress VM Asked Outcome → Type 0
SameData i bs (begun p) = Unit
SameData i bs (stepped p t s) = word_of i.tables i.bytes p ≡ word_of i.tables bs p
SameData i bs (looked p a o) = look_at i.tables i.bytes i.from i.upto a ≡ look_at i.tables bs i.from i.upto a

same_moves : (ws bs cs : List ℕ) (p : SectionAddress) (s : VM) → word_of ws bs p ≡ word_of ws cs p → move_at ws bs p s ≡ move_at ws cs p s
unfolding move_at
same_moves ws bs cs p s e = ap (λ (w : ℕ). move_from p (step_of ws p w s)) e

module _ (i : Given) (bs : List ℕ) (lent : Lent) where
  agrees : (l : List (Event SectionAddress VM Asked Outcome)) → Each (SameData i bs) l
      → Each (Agrees (ground_in i lent) (move_at i.tables bs) (look_at i.tables bs i.from i.upto)) l
  unfolding Each
  agrees [] a = tt
  agrees (begun p ∷ l) a = (tt, agrees l a.1)
  agrees (stepped p t s ∷ l) a = (same_moves i.tables i.bytes bs p s a.0, agrees l a.1)
  agrees (looked p b o ∷ l) a = (a.0, agrees l a.1)

  module _ (same : length bs ≡ length i.bytes) (vis : List ℕ) where
    pub judged_alike : judged (with_bytes i bs) vis ≡ judged i vis
    unfolding judged
    judged_alike = rw same

    pub walk_alike : judged i vis ≡ Ok tt → Each (SameData i bs) (walk_over i vis lent).pile.log
        → walk_over (with_bytes i bs) vis lent ≡ walk_over i vis lent
    unfolding walk_over
    walk_alike fine a =
        walks_alike (ground_in i lent) (move_at i.tables bs) (look_at i.tables bs i.from i.upto)
        (lawful i vis lent fine)
        (image_lawful i.tables bs i.from i.upto (room (length lent.stack)) (rw same (image_sound i vis lent fine)))
        i.starts (bases_of i.two i.thirteen) lent vis (map_room i vis lent fine)
        (agrees (walk_over i vis lent).pile.log a)

    -- "the second walk gives the same bits, counts, tables .., refusals included"
    pub same_answer : (judged i vis ≡ Ok tt → Each (SameData i bs) (walk_over i vis lent).pile.log)
        → walked (with_bytes i bs) vis lent ≡ walked i vis lent
    unfolding walked
    same_answer a = rw judged_alike (by (judged i vis) refl)
      where
        by : (t : Result ⊤ WalkError) → judged i vis ≡ t
            → unless_refused t (left_by (walk_over (with_bytes i bs) vis lent)) (λ x. refused_with x vis lent)
            ≡ unless_refused t (left_by (walk_over i vis lent)) (λ x. refused_with x vis lent)
        by (Ok u) e = ap left_by (walk_alike e (a e))
        by (Err x) e = refl
