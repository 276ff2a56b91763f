-- Registers marked with a field, by their words; and those below some number with the value that they get.
-- Assumes of a state what its type says (`Fits`).
use Rattle.std.specs.Prelude.{Some, None}
use mathlib.Core.Bool.{true, false, ◌&&◌}
use mathlib.Core.List.{List, [], ◌∷◌}
use mathlib.Core.Path.{◌≡◌, refl, sym, ap, ◌∙◌, subst}
use Prim.Native.Nat.{ℕ, zero, suc, ◌+◌, ◌*◌, ◌%◌, ◌≤◌, ◌<◌}
use native.Mathlib.Numerals.{add-one}
use native.Mathlib.Omega.{arith}
use lib.Dec.{eqb}
use lib.ListN.{length, get_or, set}
use lib.Seq.{set-get_or}
use Rattle.places.specs.declared.RelocationTarget.TheVariants as target
use Rattle.cells.proofs.CellLaws.{register_fits}
use Rattle.cells.specs.Cells.{Cells}
use Rattle.slot.proofs.PutLaws.{Holds, holds_left, holds_first, many_holds}
use Rattle.slot.proofs.SlotLaws.{register_wide}
use Rattle.slot.specs.Fits.{Fits}
use Rattle.slot.specs.Layout.{state_size, register_head, register_words, state_words}
use Rattle.slot.specs.Put.{put, many}
use Rattle.slot.specs.Values.{numbers_of, address_numbers, mark_of}
use Rattle.vm.proofs.Lists.{map_to, map_to_suc, map_to_all}
use Rattle.vm.proofs.Values.{by_mark}
use Rattle.vm.specs.Registers.{blank, marked, reg, with_reg, with_gprs}
use Rattle.vm.specs.States.{result_of, with_result}
use Rattle.vm.specs.Values.{on_mark}
use Rattle.vm.specs.declared.Gpr.{Gpr}
use Rattle.vm.specs.declared.GprValue.TheVariants.{Unknown, Constant, Address, ComparisonResult, Range, LoadIndexed}
use Rattle.vm.specs.declared.GprValue.{GprValue}
use Rattle.vm.specs.declared.VM.{VM}
use Rattle.words.specs.Choice.{pick}
use Rattle.clones.proofs.CloneLaws.{register_over}

-- a number that is not mapped yet
pub map_to_at : {A : Type 0} (f : A → A) (l : List A) (i : ℕ) (d : A) → get_or (map_to f i l) i d ≡ get_or l i d
map_to_at f [] zero d = refl
map_to_at f [] (suc i) d = refl
map_to_at f (x ∷ l) zero d = refl
map_to_at f (x ∷ l) (suc i) d = map_to_at f l i d

-- the tag and the first number of a value say whether it is a mark
mark_tag : (v : GprValue) (h l k : ℕ) → (eqb (((numbers_of v).tag + 16 * h + 32 * l) % 16) 4 && eqb (numbers_of v).a k) ≡ on_mark v (λ j. eqb j k) false
mark_tag Unknown h l k = let e : (0 + 16 * h + 32 * l) % 16 ≡ 0 = omega arith in rw e
mark_tag (Constant n) h l k = let e : (1 + 16 * h + 32 * l) % 16 ≡ 1 = omega arith in rw e
mark_tag (Address target.External) h l k = let e : (2 + 16 * h + 32 * l) % 16 ≡ 2 = omega arith in rw e
mark_tag (Address (target.Address p)) h l k = let e : (3 + 16 * h + 32 * l) % 16 ≡ 3 = omega arith in rw e
mark_tag (ComparisonResult j) h l k = let e : (4 + 16 * h + 32 * l) % 16 ≡ 4 = omega arith in rw e
mark_tag (Range lo hi st) h l k = let e : (5 + 16 * h + 32 * l) % 16 ≡ 5 = omega arith in rw e
mark_tag (LoadIndexed target.External None) h l k = let e : (6 + 16 * h + 32 * l) % 16 ≡ 6 = omega arith in rw e
mark_tag (LoadIndexed (target.Address p) None) h l k = let e : (7 + 16 * h + 32 * l) % 16 ≡ 7 = omega arith in rw e
mark_tag (LoadIndexed target.External (Some n)) h l k = let e : (8 + 16 * h + 32 * l) % 16 ≡ 8 = omega arith in rw e
mark_tag (LoadIndexed (target.Address p) (Some n)) h l k = let e : (9 + 16 * h + 32 * l) % 16 ≡ 9 = omega arith in rw e

holds_itself : (l : List ℕ) → Holds l 0 l
unfolding Holds
holds_itself l i h = let z : 0 + i ≡ i = omega arith in rw z

holds_second : (ws : List ℕ) (at x y : ℕ) (l : List ℕ) → Holds ws at (x ∷ y ∷ l) → get_or ws (at + 1) 0 ≡ y
unfolding Holds
holds_second ws at x y l h = h 1 (omega arith)

-- register i's words in the cells of a state
register_there : (s : VM) (i : ℕ) → i < 32 → Holds (state_words s) (0 + i * 8) (register_words (reg s i))
unfolding state_words
register_there s i h =
    many_holds register_words blank 8 register_wide (state_words s) 0 32 s.gpr
    (holds_left (state_words s) 0 (many register_words blank 32 s.gpr) _ (holds_itself (state_words s))) i h

-- the test of a mark, by the words
mark_there : (s : VM) (i k : ℕ) → i < 32
    → (eqb (get_or (state_words s) (i * 8) 0 % 16) 4 && eqb (get_or (state_words s) (i * 8 + 1) 0) k) ≡ on_mark (reg s i).value (λ j. eqb j k) false
mark_there s i k h =
    let g : Gpr = reg s i in
    let n = numbers_of g.value in
    let z : 0 + i * 8 ≡ i * 8 = omega arith in
    let r : Holds (state_words s) (i * 8) (register_words g) = subst (λ (j : ℕ). Holds (state_words s) j (register_words g)) z (register_there s i h) in
    let head = holds_first (state_words s) (i * 8) (register_head g) _ r in
    let one = holds_second (state_words s) (i * 8) (register_head g) n.a _ r in
    rw (head, one) (mark_tag g.value (address_numbers g.hi_addr).known (address_numbers g.lo_addr).known k)

pub mark_in : (ws : List ℕ) (s : VM) (i k : ℕ) → Cells ws s → i < 32
    → (eqb (get_or ws (i * 8) 0 % 16) 4 && eqb (get_or ws (i * 8 + 1) 0) k) ≡ on_mark (reg s i).value (λ j. eqb j k) false
mark_in ws s i k c h = ap (λ (l : List ℕ). eqb (get_or l (i * 8) 0 % 16) 4 && eqb (get_or l (i * 8 + 1) 0) k) c.words ∙ mark_there s i k h

-- the state with the registers below i done
module _ (s : VM) (v : GprValue) (k : ℕ) where
  abbrev pub result_to : ℕ → VM
  result_to i = with_gprs s (map_to (result_of v k) i s.gpr)

  by_test : (i : ℕ) → result_of v k (reg s i) ≡ pick (on_mark (reg s i).value (λ j. eqb j k) false) (marked (reg s i) v) (reg s i)
  by_test i = by_mark (reg s i).value k (marked (reg s i) v) (reg s i)

  one_more : (i : ℕ) → i < length s.gpr → with_reg (result_to i) i (result_of v k (reg s i)) ≡ result_to (i + 1)
  one_more i h =
      let l : List Gpr = map_to (result_of v k) i s.gpr in
      ap (λ (g : Gpr). with_gprs s (set l i (result_of v k g))) (sym (map_to_at (result_of v k) s.gpr i blank))
      ∙ ap (with_gprs s) (map_to_suc (result_of v k) s.gpr i blank h)
      ∙ ap result_to (sym (add-one i))

  -- a marked register gets the value
  pub value_marked : (i : ℕ) → on_mark (reg s i).value (λ j. eqb j k) false ≡ true → marked (reg s i) v ≡ result_of v k (reg s i)
  value_marked i m = sym (by_test i ∙ rw m)

  -- any other stays
  pub value_other : (i : ℕ) → on_mark (reg s i).value (λ j. eqb j k) false ≡ false → reg s i ≡ result_of v k (reg s i)
  value_other i m = sym (by_test i ∙ rw m)

  -- a register that is not done yet
  not_yet : (i : ℕ) → with_reg (result_to i) i (reg s i) ≡ result_to i
  not_yet i =
      let l : List Gpr = map_to (result_of v k) i s.gpr in
      ap (λ (g : Gpr). with_gprs s (set l i g)) (sym (map_to_at (result_of v k) s.gpr i blank)) ∙ ap (with_gprs s) (set-get_or l i blank)

  -- all of them
  pub result_all : (i : ℕ) → i ≡ length s.gpr → result_to i ≡ with_result s v k
  result_all i e = ap result_to e ∙ ap (with_gprs s) (map_to_all (result_of v k) s.gpr)

-- us are words in which the registers below i are done
pub record Done (s : VM) (v : GprValue) (k : ℕ) (ws : List ℕ) (at i : ℕ) (us : List ℕ) : Type 0 where
  pub words : us ≡ put ws at (state_words (result_to s v k i))
  pub fits : Fits (result_to s v k i)

module _ (s : VM) (v : GprValue) (k : ℕ) (ws : List ℕ) (at : ℕ) (room : at + state_size ≤ length ws) where
  -- the next register is there as it was
  done_next : (i : ℕ) (us : List ℕ) → i < 32 → Done s v k ws at i us → us ≡ put us (at + i * 8) (register_words (reg s i))
  done_next i us h d =
      let t : VM = result_to s v k i in
      let e : put (put ws at (state_words t)) (at + i * 8) (register_words (reg s i)) ≡ put ws at (state_words t) =
      register_over ws at room t i (reg s i) d.fits h ∙ ap (λ (u : VM). put ws at (state_words u)) (not_yet s v k i) in
      d.words ∙ sym e ∙ ap (λ (l : List ℕ). put l (at + i * 8) (register_words (reg s i))) (sym d.words)

  -- one register more
  pub done_more : (i j : ℕ) (us vs : List ℕ) → i < 32 → i < length s.gpr → j ≡ i + 1 → Done s v k ws at i us
      → (us ≡ put us (at + i * 8) (register_words (reg s i)) → vs ≡ put us (at + i * 8) (register_words (result_of v k (reg s i)))) → mark_of (result_of v k (reg s i)).value < 256 → Done s v k ws at j vs
  done_more i j us vs h l e d w m =
      let t : VM = result_to s v k i in
      let g : Gpr = result_of v k (reg s i) in
      let n : with_reg t i g ≡ result_to s v k j = one_more s v k i l ∙ ap (result_to s v k) (sym e) in
      record {
        words = w (done_next i us h d) ∙ ap (λ (l : List ℕ). put l (at + i * 8) (register_words g)) d.words ∙ register_over ws at room t i g d.fits h ∙ ap (λ (u : VM). put ws at (state_words u)) n;
        fits = subst Fits n (register_fits t i g d.fits h m);
      }
