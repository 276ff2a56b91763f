-- Ways in order: a place, a target, two of them.
-- Assumes words that hold a stack.
use Rattle.std.specs.Prelude.{Option}
use Prim.Native.Nat.{ℕ}
use mathlib.Core.Path.{◌≡◌, refl, sym, ◌∙◌}
use mathlib.Core.Bool.{Bool, true, false}
use mathlib.Core.List.{List, [], ◌∷◌}
use native.Mathlib.Omega.{arith}
use lib.ListN.{length}
use Rattle.places.specs.declared.SectionAddress.{SectionAddress}
use Rattle.places.specs.declared.RelocationTarget.TheVariants as target
use Rattle.vm.specs.declared.VM.{VM}
use Rattle.vm.specs.declared.BranchTarget.{BranchTarget}
use Rattle.vm.specs.declared.BranchTarget.TheVariants as branch
use Rattle.stack.specs.Stack.{Stack, room}
use Rattle.turns.specs.Grounds.{Way, to}
use Rattle.turns.specs.Turns.{push_at, take_way, take_ways}
use Rattle.turns.specs.Moves.{Asked, ways_of, ground_of}
use Rattle.turns.specs.Heads.{pile_in, Piles}
use Rattle.turns.proofs.Leavings.{takes_none, takes_more, takes_place}
use Rattle.turns.proofs.PileLaws.{piles_as, piles_out, piles_no_way, piles_way_more, piles_way_stop}
use Rattle.pushes.specs.declared.Taken.{Taken}
use Rattle.pushes.specs.Takes.{is_way, Takes, PushedAt}
use Rattle.pushes.proofs.PlaceLaws.{on_ground}

module _ (ws bs : List ℕ) (from : SectionAddress) (upto : Option SectionAddress) (slots : ℕ) (p : SectionAddress) {words : List ℕ} {n : ℕ} {buffer : List ℕ} where
  -- a single way
  pub one_way : {words' : List ℕ} {n' : ℕ} {buffer' : List ℕ} {full : Bool} {r m : ℕ} (y : Way SectionAddress VM Asked)
      → Piles (take_way (ground_of ws bs from upto slots) p y) words n buffer words' n' buffer' full r m
      → Piles (take_ways (ground_of ws bs from upto slots) p (y ∷ [])) words n buffer words' n' buffer' full r m
  one_way y h =
      let g = ground_of ws bs from upto slots in
      piles_as (take_way g p y) (take_ways g p (y ∷ []))
      (λ l. takes_more g p y [] (pile_in words n buffer false l) ∙ takes_none g p (take_way g p y (pile_in words n buffer false l))) refl refl h

  -- a place is a way
  place_way : {words' : List ℕ} {n' : ℕ} {buffer' : List ℕ} {full : Bool} {r m : ℕ} (q : SectionAddress) (s : VM) {r' m' : ℕ} → r ≡ r' → m ≡ m'
      → Piles (push_at (ground_of ws bs from upto slots) q s) words n buffer words' n' buffer' full r m
      → Piles (take_way (ground_of ws bs from upto slots) p (to q s)) words n buffer words' n' buffer' full r' m'
  place_way q s a b h =
      let g = ground_of ws bs from upto slots in
      piles_as (push_at g q s) (take_way g p (to q s)) (λ l. takes_place g p q s (pile_in words n buffer false l)) a b h

  -- to a target that is no way nothing is pushed, whatever the state
  pub no_way : room (length words) ≡ slots → Stack words n → (t : BranchTarget) (s : VM) → is_way ws t ≡ false
      → Piles (take_ways (ground_of ws bs from upto slots) p (ways_of t s)) words n buffer words n buffer false 0 0
  no_way e st branch.Unknown s w = piles_no_way (ground_of ws bs from upto slots) p st
  no_way e st branch.Return s w = piles_no_way (ground_of ws bs from upto slots) p st
  no_way e st (branch.Address target.External) s w = piles_no_way (ground_of ws bs from upto slots) p st
  no_way e st (branch.Address (target.Address q)) s w = one_way (to q s) (place_way q s refl refl (piles_out ws bs from upto slots e st q s w))
  no_way e st (branch.JumpTable t z) s w = absurd (let o : ◌≡◌ {A = ℕ} 0 1 = cc in let x : ⊥ = omega arith in x)

  -- one place, then the others
  module _ (same : room (length words) ≡ slots) {q : SectionAddress} {s : VM} {words' : List ℕ} {r : Taken} (h : PushedAt ws words n q s words' r) where
    first_way : (full : Bool) → r.full ≡ full → Piles (take_way (ground_of ws bs from upto slots) p (to q s)) words n buffer words' r.held buffer full r.read r.not_read
    first_way full f = place_way q s (sym h.read) (sym h.not_read) (on_ground h slots same f bs from upto buffer)

    -- nothing else
    pub place_alone : Takes (take_ways (ground_of ws bs from upto slots) p (to q s ∷ [])) words n buffer words' buffer r
    place_alone = one_way (to q s) (first_way r.full refl)

    -- its push was refused
    pub place_refused : (ys : List (Way SectionAddress VM Asked)) → r.full ≡ true → Takes (take_ways (ground_of ws bs from upto slots) p (to q s ∷ ys)) words n buffer words' buffer r
    place_refused ys f = rw f (piles_way_stop (ground_of ws bs from upto slots) p (to q s) ys (first_way true f))

    -- it was not
    pub place_then : {words'' buffer'' : List ℕ} {r'' : Taken} (ys : List (Way SectionAddress VM Asked)) → r.full ≡ false
        → Takes (take_ways (ground_of ws bs from upto slots) p ys) words' r.held buffer words'' buffer'' r''
        → Takes (take_ways (ground_of ws bs from upto slots) p (to q s ∷ ys)) words n buffer words'' buffer'' r''
    place_then ys f i =
        let g = ground_of ws bs from upto slots in
        piles_as (take_ways g p (to q s ∷ ys)) (take_ways g p (to q s ∷ ys)) (λ l. refl) (omega (arith, h.read)) (omega (arith, h.not_read))
        (piles_way_more g p (to q s) ys (first_way false f) i)
