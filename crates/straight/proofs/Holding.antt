-- What a word puts into its destination: a Constant is the machine's number, and of Constants it is a Constant.
-- Assumes nothing.
use mathlib.Core.Path.{◌≡◌, refl, sym, ap, ap₂, ◌∙◌}
use mathlib.Core.Bool.{Bool, true, false}
use mathlib.Core.List.{List, [], ◌∷◌}
use Prim.Native.Nat.{ℕ, ◌*◌, ◌%◌, ◌^◌, ◌<◌}
use native.Mathlib.Omega.{arith}
use borrow.Author.Tests.{eqb-true}
use lib.Dec.{eqb}
use lib.Bits.{bit_and, bit_or, or_self}
use Rattle.words.specs.Choice.{pick}
use Rattle.words.specs.Word.{field, simm_of}
use Rattle.words.specs.Bits.{mask_of, rotated}
use Rattle.words.specs.Sums.{sum, complement_of}
use Rattle.words.proofs.Fields.{field_lt}
use Rattle.places.specs.declared.SectionAddress.{SectionAddress}
use Rattle.vm.specs.declared.VM.{VM}
use Rattle.vm.specs.declared.GprValue.{GprValue}
use Rattle.vm.specs.declared.GprValue.TheVariants.{Constant}
use Rattle.vm.specs.Registers.{reg, direct, high, low}
use Rattle.vm.specs.Rules.{add_of, addis_of, addi_of, subf_of, subfic_of, ori_of, or_of, rotate_of, rlwnm_of}
use Rattle.step.specs.Arms.{rd_of, ra_of, rb_of, uimm_of, addis_gpr, addi_gpr, ori_gpr, or_gpr}
use Rattle.straight.specs.Manual.{Kind, add, addi, addic, addic_dot, addis, subf, subfc, subfic, ori, orr, rlwinm, rlwnm, exts, shifted_simm, uimm, plus, not, or, rotate_and_mask, gpr, sources, result}
use Rattle.straight.specs.Run.{Machine}
use Rattle.straight.specs.Demand3.{Holds, AllConstant}
use Rattle.straight.proofs.ManualLaws.{exts_law, shifted_law, uimm_law, not_law, or_law, rotate_law, rotate_low}
use Rattle.straight.proofs.Values.{same_constant, offset_is_not, range_is_not, of_constant, of_place, of_rotated}
use Rattle.straight.proofs.Steps.{record_of}

-- ---- a Constant that is put there is the machine's number
module _ (s : VM) (m : List ℕ) (at : SectionAddress) (w : ℕ) (whole : Machine m) (held : Holds s m) where
  holds_at : (r a : ℕ) → r < 32 → (reg s r).value ≡ Constant a → gpr m r ≡ a
  unfolding Holds
  holds_at r a h e = held r a h e

  a_lt : ra_of w < 32
  a_lt = field_lt w 11 15

  b_lt : rb_of w < 32
  b_lt = field_lt w 16 20

  s_lt : rd_of w < 32
  s_lt = field_lt w 6 10

  add_number : (x : ℕ) → add_of (reg s (ra_of w)).value (reg s (rb_of w)).value ≡ Constant x → plus (gpr m (ra_of w)) (gpr m (rb_of w)) ≡ x
  add_number x e =
      let p = of_place (reg s (ra_of w)).value _ _ x (λ t f. offset_is_not t _ x (of_constant (reg s (rb_of w)).value _ x f).2) e in
      let q = of_place (reg s (rb_of w)).value _ _ x (λ t f. offset_is_not t _ x f) p.2 in
      ap₂ plus (holds_at (ra_of w) p.0 a_lt p.1) (holds_at (rb_of w) q.0 b_lt q.1) ∙ same_constant _ x q.2

  -- addi's sum, of a value that holds a number
  addi_number : (v : GprValue) (n x : ℕ) → ((a : ℕ) → v ≡ Constant a → n ≡ a) → addi_of v (simm_of w) ≡ Constant x → plus n (exts w) ≡ x
  addi_number v n x h e =
      let p = of_place v _ _ x (λ t f. offset_is_not t _ x f) e in
      ap₂ plus (h p.0 p.1) (exts_law w) ∙ same_constant _ x p.2

  at_ra : (a : ℕ) → (reg s (ra_of w)).value ≡ Constant a → gpr m (ra_of w) ≡ a
  at_ra a e = holds_at (ra_of w) a a_lt e

  zero_is : (a : ℕ) → Constant 0 ≡ Constant a → 0 ≡ a
  zero_is a e = same_constant 0 a e

  addi_holds : (t : Bool) (x : ℕ)
      → (pick t (direct (addi_of (Constant 0) (simm_of w))) (low (addi_of (reg s (ra_of w)).value (simm_of w)) at (reg s (ra_of w)))).value ≡ Constant x
      → plus (pick t 0 (gpr m (ra_of w))) (exts w) ≡ x
  addi_holds true x e = addi_number (Constant 0) 0 x zero_is e
  addi_holds false x e = addi_number (reg s (ra_of w)).value (gpr m (ra_of w)) x at_ra e

  addis_number : (v : GprValue) (n x : ℕ) → ((a : ℕ) → v ≡ Constant a → n ≡ a) → addis_of v (simm_of w) ≡ Constant x → plus n (shifted_simm w) ≡ x
  addis_number v n x h e =
      let p = of_constant v _ x e in
      ap₂ plus (h p.0 p.1) (shifted_law w) ∙ same_constant _ x p.2

  addis_holds : (t : Bool) (x : ℕ)
      → (pick t (high (addis_of (Constant 0) (simm_of w)) at) (direct (addis_of (reg s (ra_of w)).value (simm_of w)))).value ≡ Constant x
      → plus (pick t 0 (gpr m (ra_of w))) (shifted_simm w) ≡ x
  addis_holds true x e = addis_number (Constant 0) 0 x zero_is e
  addis_holds false x e = addis_number (reg s (ra_of w)).value (gpr m (ra_of w)) x at_ra e

  -- ¬a + b + 1
  less : (a a' b b' : ℕ) → a ≡ a' → b ≡ b' → plus (plus (not a) b) 1 ≡ sum (sum (complement_of a') b') 1
  less a a' b b' e f = ap₂ (λ (x y : ℕ). plus (plus x y) 1) (not_law a ∙ ap complement_of e) f

  subf_number : (x : ℕ) → subf_of (reg s (ra_of w)).value (reg s (rb_of w)).value ≡ Constant x → plus (plus (not (gpr m (ra_of w))) (gpr m (rb_of w))) 1 ≡ x
  subf_number x e =
      let p = of_constant (reg s (ra_of w)).value _ x e in
      let q = of_constant (reg s (rb_of w)).value _ x p.2 in
      less _ p.0 _ q.0 (at_ra p.0 p.1) (holds_at (rb_of w) q.0 b_lt q.1) ∙ same_constant _ x q.2

  subfic_number : (x : ℕ) → subfic_of (reg s (ra_of w)).value (simm_of w) ≡ Constant x → plus (plus (not (gpr m (ra_of w))) (exts w)) 1 ≡ x
  subfic_number x e =
      let p = of_constant (reg s (ra_of w)).value _ x e in
      less _ p.0 _ (simm_of w) (at_ra p.0 p.1) (exts_law w) ∙ same_constant _ x p.2

  at_rs : (a : ℕ) → (reg s (rd_of w)).value ≡ Constant a → gpr m (rd_of w) ≡ a
  at_rs a e = holds_at (rd_of w) a s_lt e

  uimm_lt : uimm_of w < 2 ^ 32
  uimm_lt = omega (arith, field_lt w 16 31)

  ori_number : (x : ℕ) → ori_of (reg s (rd_of w)).value (uimm_of w) ≡ Constant x → or (gpr m (rd_of w)) (uimm w) ≡ x
  ori_number x e =
      let p = of_constant (reg s (rd_of w)).value _ x e in
      ap (or (gpr m (rd_of w))) (uimm_law w) ∙ or_law (gpr m (rd_of w)) (uimm_of w) (whole.words (rd_of w)) uimm_lt
      ∙ ap (λ (a : ℕ). bit_or a (uimm_of w)) (at_rs p.0 p.1) ∙ same_constant _ x p.2

  or_holds : (t : Bool) → eqb (rd_of w) (rb_of w) ≡ t → (x : ℕ)
      → (pick t (reg s (rd_of w)) (direct (or_of (reg s (rd_of w)).value (reg s (rb_of w)).value))).value ≡ Constant x
      → or (gpr m (rd_of w)) (gpr m (rb_of w)) ≡ x
  or_holds true t x e =
      ap (λ (r : ℕ). or (gpr m (rd_of w)) (gpr m r)) (sym (eqb-true (rd_of w) (rb_of w) t))
      ∙ or_law (gpr m (rd_of w)) (gpr m (rd_of w)) (whole.words (rd_of w)) (whole.words (rd_of w)) ∙ or_self (gpr m (rd_of w)) ∙ at_rs x e
  or_holds false t x e =
      let p = of_constant (reg s (rd_of w)).value _ x e in
      let q = of_constant (reg s (rb_of w)).value _ x p.2 in
      or_law (gpr m (rd_of w)) (gpr m (rb_of w)) (whole.words (rd_of w)) (whole.words (rb_of w))
      ∙ ap₂ bit_or (at_rs p.0 p.1) (holds_at (rb_of w) q.0 b_lt q.1) ∙ same_constant _ x q.2

  rotate_number : (n x : ℕ) → rotate_of (reg s (rd_of w)).value n (mask_of (field w 21 25) (field w 26 30)) ≡ Constant x
      → bit_and (rotated (gpr m (rd_of w)) n) (mask_of (field w 21 25) (field w 26 30)) ≡ x
  unfolding rotate_of
  rotate_number n x e =
      let p = of_rotated (reg s (rd_of w)).value _ _ _ x (λ a b c f. range_is_not _ _ _ x f) (λ f. range_is_not _ _ _ x f) e in
      ap (λ (a : ℕ). bit_and (rotated a n) (mask_of (field w 21 25) (field w 26 30))) (at_rs p.0 p.1) ∙ p.2

  rlwnm_number : (x : ℕ) → rlwnm_of (reg s (rd_of w)).value (reg s (rb_of w)).value (mask_of (field w 21 25) (field w 26 30)) ≡ Constant x
      → rotate_and_mask (gpr m (rd_of w)) (field (gpr m (rb_of w)) 27 31) (field w 21 25) (field w 26 30) ≡ x
  rlwnm_number x e =
      let p = of_constant (reg s (rb_of w)).value _ x e in
      rotate_law (gpr m (rd_of w)) (field (gpr m (rb_of w)) 27 31) (field w 21 25) (field w 26 30) (field_lt w 21 25) (field_lt w 26 30)
      ∙ ap (λ (y : ℕ). bit_and y (mask_of (field w 21 25) (field w 26 30))) (rotate_low (gpr m (rd_of w)) (gpr m (rb_of w)))
      ∙ ap (λ (n : ℕ). bit_and (rotated (gpr m (rd_of w)) n) (mask_of (field w 21 25) (field w 26 30))) (holds_at (rb_of w) p.0 b_lt p.1)
      ∙ rotate_number p.0 x p.2

  pub number_put : (k : Kind) (x : ℕ) → (record_of k at w s).value ≡ Constant x → result k w m ≡ x
  unfolding addi_gpr addis_gpr ori_gpr or_gpr
  number_put add x e = add_number x e
  number_put addi x e = addi_holds (eqb (ra_of w) 0) x e
  number_put addic x e = addi_holds false x e
  number_put addic_dot x e = addi_holds false x e
  number_put addis x e = addis_holds (eqb (ra_of w) 0) x e
  number_put subf x e = subf_number x e
  number_put subfc x e = subf_number x e
  number_put subfic x e = subfic_number x e
  number_put ori x e = ori_number x e
  number_put orr x e = or_holds (eqb (rd_of w) (rb_of w)) refl x e
  number_put rlwinm x e =
      rotate_law (gpr m (rd_of w)) (field w 16 20) (field w 21 25) (field w 26 30) (field_lt w 21 25) (field_lt w 26 30) ∙ rotate_number (field w 16 20) x e
  number_put rlwnm x e = rlwnm_number x e

-- ---- of Constants, or of nothing, it is a Constant
module _ (s : VM) (at : SectionAddress) (w : ℕ) where
  abbrev Put : GprValue → Type 0
  Put v = (x : ℕ) × (v ≡ Constant x)

  addi_put : (t : Bool) → AllConstant s (pick t [] (ra_of w ∷ []))
      → Put (pick t (direct (addi_of (Constant 0) (simm_of w))) (low (addi_of (reg s (ra_of w)).value (simm_of w)) at (reg s (ra_of w)))).value
  unfolding AllConstant
  addi_put true c = (sum 0 (simm_of w), refl)
  addi_put false c = (sum c.0.0 (simm_of w), rw c.0.1)

  addis_put : (t : Bool) → AllConstant s (pick t [] (ra_of w ∷ []))
      → Put (pick t (high (addis_of (Constant 0) (simm_of w)) at) (direct (addis_of (reg s (ra_of w)).value (simm_of w)))).value
  unfolding AllConstant
  addis_put true c = (sum 0 (simm_of w * 2 ^ 16 % 2 ^ 32), refl)
  addis_put false c = (sum c.0.0 (simm_of w * 2 ^ 16 % 2 ^ 32), rw c.0.1)

  or_put : (t : Bool) → AllConstant s (rd_of w ∷ rb_of w ∷ []) → Put (pick t (reg s (rd_of w)) (direct (or_of (reg s (rd_of w)).value (reg s (rb_of w)).value))).value
  unfolding AllConstant
  or_put true c = c.0
  or_put false c = (bit_or c.0.0 c.1.0.0, rw (c.0.1, c.1.0.1))

  pub constant_put : (k : Kind) → AllConstant s (sources k w) → Put (record_of k at w s).value
  unfolding AllConstant addi_gpr addis_gpr ori_gpr or_gpr rotate_of
  constant_put add c = (sum c.0.0 c.1.0.0, rw (c.0.1, c.1.0.1))
  constant_put addi c = addi_put (eqb (ra_of w) 0) c
  constant_put addic c = addi_put false c
  constant_put addic_dot c = addi_put false c
  constant_put addis c = addis_put (eqb (ra_of w) 0) c
  constant_put subf c = (sum (sum (complement_of c.0.0) c.1.0.0) 1, rw (c.0.1, c.1.0.1))
  constant_put subfc c = (sum (sum (complement_of c.0.0) c.1.0.0) 1, rw (c.0.1, c.1.0.1))
  constant_put subfic c = (sum (sum (complement_of c.0.0) (simm_of w)) 1, rw c.0.1)
  constant_put ori c = (bit_or c.0.0 (uimm_of w), rw c.0.1)
  constant_put orr c = or_put (eqb (rd_of w) (rb_of w)) c
  constant_put rlwinm c = (bit_and (rotated c.0.0 (field w 16 20)) (mask_of (field w 21 25) (field w 26 30)), rw c.0.1)
  constant_put rlwnm c = (bit_and (rotated c.0.0 c.1.0.0) (mask_of (field w 21 25) (field w 26 30)), rw (c.0.1, c.1.0.1))
