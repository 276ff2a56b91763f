-- What a word that leaves asks was done: by how it leaves.
-- Assumes words that hold a stack, and an entry buffer of the walk's length.
use Rattle.std.specs.Prelude.{Option}
use Prim.Native.Nat.{ℕ}
use mathlib.Core.Path.{◌≡◌, refl, sym, ap, ◌∙◌, subst}
use mathlib.Core.Bool.{true, false}
use mathlib.Core.List.{List, [], ◌∷◌}
use mathlib.Core.Logic.{◌⊎◌, inl, inr}
use native.Mathlib.Omega.{arith}
use lib.ListN.{length}
use Rattle.places.specs.declared.SectionAddress.{SectionAddress}
use Rattle.places.specs.declared.RelocationTarget.TheVariants as target
use Rattle.vm.specs.declared.VM.{VM}
use Rattle.vm.specs.declared.BranchTarget.{BranchTarget}
use Rattle.vm.specs.declared.BranchTarget.TheVariants as branch
use Rattle.step.specs.declared.Leave.{Leave}
use Rattle.step.specs.declared.Leave.TheVariants.{Ended, Illegal, Jump}
use Rattle.step.specs.Ways.{left_of}
use Rattle.stack.specs.Stack.{Stack, room}
use Rattle.turns.specs.Grounds.{Way, to, jump, leave}
use Rattle.turns.specs.Turns.{take_ways}
use Rattle.turns.specs.Moves.{Asked, ways_of, jump_by, move_by, ground_of, table_room}
use Rattle.turns.specs.Straight.{leaving}
use Rattle.turns.proofs.Leavings.{leaving_illegal, leaving_jump}
use Rattle.turns.proofs.PileLaws.{piles_no_way}
use Rattle.pushes.specs.declared.Taken.{Taken}
use Rattle.pushes.specs.Takes.{none, is_way, stays_in, Takes, PushedAt, TakenTarget, TakenWays}
use Rattle.pushes.proofs.WayLaws.{no_way, place_refused, place_then}

-- a run that ended at its section's end asks for nothing
leaving_ended : (at : SectionAddress) (s : VM) → leaving Ended at s ≡ leave []
unfolding move_by left_of
leaving_ended at s = refl

-- nor does a word that is illegal
pub leaving_none : (at : SectionAddress) (s : VM) (l : Leave) → (l ≡ Ended) ⊎ (l ≡ Illegal) → leaving l at s ≡ leave []
leaving_none at s l (inl e) = rw e (leaving_ended at s)
leaving_none at s l (inr e) = rw e (leaving_illegal at s)

-- a jump whose target is not in the section leaves by the target's ways
pub leaving_away : (at : SectionAddress) (s : VM) (t : BranchTarget) → stays_in at t ≡ false → leaving (Jump t) at s ≡ leave (ways_of t s)
leaving_away at s t f = leaving_jump at s t ∙ by t f
  where
    by : (t : BranchTarget) → stays_in at t ≡ false → jump_by at t s ≡ leave (ways_of t s)
    by branch.Unknown f = refl
    by branch.Return f = refl
    by (branch.Address target.External) f = refl
    by (branch.Address (target.Address q)) f = rw f
    by (branch.JumpTable t z) f = refl

-- one whose target is does not leave
pub leaving_inside : (at : SectionAddress) (s : VM) (t : BranchTarget) → stays_in at t ≡ true → (ys : List (Way SectionAddress VM Asked)) → leaving (Jump t) at s ≡ leave ys → ⊥
leaving_inside at s t f ys e = by t f (sym (leaving_jump at s t) ∙ e)
  where
    by : (t : BranchTarget) → stays_in at t ≡ true → jump_by at t s ≡ leave ys → ⊥
    by branch.Unknown f e = let o : ◌≡◌ {A = ℕ} 0 1 = cc in omega arith
    by branch.Return f e = let o : ◌≡◌ {A = ℕ} 0 1 = cc in omega arith
    by (branch.Address target.External) f e = let o : ◌≡◌ {A = ℕ} 0 1 = cc in omega arith
    by (branch.Address (target.Address q)) f e =
        let moves : jump q s ≡ leave ys = rw f at e in
        let o : ◌≡◌ {A = ℕ} 0 1 = cc in
        omega arith
    by (branch.JumpTable t z) f e = let o : ◌≡◌ {A = ℕ} 0 1 = cc in omega arith

module _ (ws bs : List ℕ) (from : SectionAddress) (upto : Option SectionAddress) (words : List ℕ) (n : ℕ) (buffer : List ℕ) (at : SectionAddress) (l : Leave) (s : VM) where
  -- the ways that it leaves by were taken
  pub taken_by : {words' buffer' : List ℕ} {r : Taken} (xs : List (Way SectionAddress VM Asked)) → leaving l at s ≡ leave xs → length buffer' ≡ table_room
      → Takes (take_ways (ground_of ws bs from upto (room (length words))) at xs) words n buffer words' buffer' r
      → TakenWays ws bs from upto words n buffer at l s words' buffer' r
  taken_by {words'} {buffer'} {r} xs e b h = record {
    ways = λ ys f.
        let same : xs ≡ ys = cc in
        subst (λ (zs : List (Way SectionAddress VM Asked)). Takes (take_ways (ground_of ws bs from upto (room (length words))) at zs) words n buffer words' buffer' r) same h;
    held = h.held;
    words_length = h.words_length;
    buffer_length = b;
  }

  module _ (st : Stack words n) (b : length buffer ≡ table_room) (r : Taken) where
    -- it asks for nothing
    pub taken_nothing : leaving l at s ≡ leave [] → r ≡ none n → TakenWays ws bs from upto words n buffer at l s words buffer r
    taken_nothing e z = rw z (taken_by [] e b (piles_no_way (ground_of ws bs from upto (room (length words))) at st))

    -- its one target leads nowhere
    pub taken_nowhere : (t : BranchTarget) → leaving l at s ≡ leave (ways_of t s) → is_way ws t ≡ false → r ≡ none n → TakenWays ws bs from upto words n buffer at l s words buffer r
    taken_nowhere t e w z = rw z (taken_by (ways_of t s) e b (no_way ws bs from upto (room (length words)) at refl st t s w))

    -- it does not leave
    pub taken_inside : ((ys : List (Way SectionAddress VM Asked)) → leaving l at s ≡ leave ys → ⊥) → r ≡ none n → TakenWays ws bs from upto words n buffer at l s words buffer r
    taken_inside never z = rw z (record { ways = λ ys e. absurd (never ys e); held = st; words_length = refl; buffer_length = b })

  -- a place first, then a target
  module _ {q : SectionAddress} {s₁ : VM} {words' : List ℕ} {r : Taken} (h : PushedAt ws words n q s₁ words' r) (t : BranchTarget) (s₂ : VM)
      (e : leaving l at s ≡ leave (to q s₁ ∷ ways_of t s₂)) (b : length buffer ≡ table_room) where
    pub taken_refused : r.full ≡ true → TakenWays ws bs from upto words n buffer at l s words' buffer r
    taken_refused f = taken_by (to q s₁ ∷ ways_of t s₂) e b (place_refused ws bs from upto (room (length words)) at refl h (ways_of t s₂) f)

    -- the target leads nowhere
    pub taken_first : r.full ≡ false → is_way ws t ≡ false → TakenWays ws bs from upto words n buffer at l s words' buffer r
    taken_first f w =
        let one = h.piles bs from upto buffer in
        let nowhere = no_way ws bs from upto (room (length words)) at (ap room one.words_length) one.held t s₂ w in
        taken_by (to q s₁ ∷ ways_of t s₂) e b
        (place_then ws bs from upto (room (length words)) at refl h (ways_of t s₂) f (rw (f, h.read, h.not_read) nowhere))

    pub taken_both : {words'' buffer'' : List ℕ} {r'' : Taken} → r.full ≡ false → length buffer'' ≡ table_room
        → TakenTarget ws bs from upto words' r.held buffer t s₂ words'' buffer'' r'' → TakenWays ws bs from upto words n buffer at l s words'' buffer'' r''
    taken_both {words''} {buffer''} {r''} f c i =
        let one = h.piles bs from upto buffer in
        taken_by (to q s₁ ∷ ways_of t s₂) e c
        (place_then ws bs from upto (room (length words)) at refl h (ways_of t s₂) f
        (subst (λ (k : ℕ). Takes (take_ways (ground_of ws bs from upto k) at (ways_of t s₂)) words' r.held buffer words'' buffer'' r'') (ap room one.words_length) (i at)))
