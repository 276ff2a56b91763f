-- What is written is read back, and the test of a slot says yes to exactly the words that some place and state write.
-- Assumes of a state what its type says (`Fits`).
use Rattle.std.specs.Prelude.{Option, Some, None}
use mathlib.Core.Bool.{Bool, true, false}
use mathlib.Core.List.{List, [], ◌∷◌, ◌++◌}
use mathlib.Core.Path.{◌≡◌, refl, ap, ◌∙◌}
use Prim.Native.Nat.{ℕ, ◌+◌, ◌*◌, ◌/◌, ◌%◌, ◌≤◌, ◌<◌}
use native.Mathlib.Omega.{arith}
use lib.Dec.{eqb}
use lib.ListN.{length, get_or, length-append}
use Rattle.places.specs.declared.RelocationTarget.TheVariants as target
use Rattle.places.specs.declared.SectionAddress.{SectionAddress}
use Rattle.vm.specs.Registers.{blank, no_cr}
use Rattle.vm.specs.declared.Cr.{Cr}
use Rattle.vm.specs.declared.Gpr.{Gpr}
use Rattle.vm.specs.declared.GprValue.TheVariants.{Unknown, Constant, Address, ComparisonResult, Range, LoadIndexed}
use Rattle.vm.specs.declared.GprValue.{GprValue}
use Rattle.vm.specs.declared.Held.{Held}
use Rattle.vm.specs.declared.VM.{VM}
use Rattle.words.specs.Choice.{pick}
use Rattle.slot.specs.Fits.{FitsCr, Fits}
use Rattle.slot.specs.Layout.{slot_size, state_size, quad, pair, register_head, register_words, compare_head, compare_words, value_words, state_words, place_words, slot_words, value_at, register_at, compare_at, held_at, state_at, place_in, state_in, is_slot}
use Rattle.slot.specs.Put.{put, matches, many, listed}
use Rattle.slot.specs.Values.{numbers_of, value_of, mark_of, address_in, address_numbers, maybe_of, bit_of}
use Rattle.slot.proofs.PutLaws.{Holds, holds_put, holds_left, holds_right, holds_first, matches_holds, holds_matches, many_length, many_holds, listed_all, listed_length, listed_get}

pub register_wide : (g : Gpr) → length (register_words g) ≡ 8
register_wide g = refl

pub compare_wide : (r : Cr) → length (compare_words r) ≡ 8
compare_wide r = refl

pub state_length : (s : VM) → length (state_words s) ≡ state_size
unfolding state_words
state_length s =
    simp length-append
    (omega (arith, many_length register_words blank 8 register_wide 32 s.gpr, many_length compare_words no_cr 8 compare_wide 8 s.cr))

pub slot_length : (p : SectionAddress) (s : VM) → length (slot_words p s) ≡ slot_size
slot_length p s = omega (arith, state_length s)

-- a value is read back from its numbers
value_back : (v : GprValue) → mark_of v < 256 → value_of (numbers_of v).tag (numbers_of v).a (numbers_of v).b (numbers_of v).c ≡ v
unfolding value_of
value_back Unknown h = refl
value_back (Constant n) h = refl
value_back (Address target.External) h = refl
value_back (Address (target.Address p)) h = refl
value_back (ComparisonResult k) h = let e : k % 256 ≡ k = omega arith in rw e
value_back (Range lo hi st) h = refl
value_back (LoadIndexed target.External None) h = refl
value_back (LoadIndexed (target.Address p) None) h = refl
value_back (LoadIndexed target.External (Some n)) h = refl
value_back (LoadIndexed (target.Address p) (Some n)) h = refl

tag_small : (v : GprValue) → (numbers_of v).tag < 16
tag_small Unknown = omega arith
tag_small (Constant n) = omega arith
tag_small (Address target.External) = omega arith
tag_small (Address (target.Address p)) = omega arith
tag_small (ComparisonResult k) = omega arith
tag_small (Range lo hi st) = omega arith
tag_small (LoadIndexed target.External None) = omega arith
tag_small (LoadIndexed (target.Address p) None) = omega arith
tag_small (LoadIndexed target.External (Some n)) = omega arith
tag_small (LoadIndexed (target.Address p) (Some n)) = omega arith

maybe_back : (m : Option SectionAddress) → maybe_of (address_numbers m).known (address_numbers m).section (address_numbers m).address ≡ m
maybe_back None = refl
maybe_back (Some p) = refl

known_small : (m : Option SectionAddress) → (address_numbers m).known ≤ 1
known_small None = omega arith
known_small (Some p) = omega arith

bit_back : (b : Bool) → eqb (bit_of b) 1 ≡ b
bit_back true = refl
bit_back false = refl

bit_small : (b : Bool) → bit_of b ≤ 1
bit_small true = omega arith
bit_small false = omega arith

-- the parts of a first word
head_tag : (t h l : ℕ) → t < 16 → (t + 16 * h + 32 * l) % 16 ≡ t
head_tag t h l a = omega arith

head_hi : (t h l : ℕ) → t < 16 → h ≤ 1 → (t + 16 * h + 32 * l) / 16 % 2 ≡ h
head_hi t h l a b = let e : (t + 16 * h + 32 * l) / 16 ≡ h + 2 * l = omega arith in rw e (omega arith)

head_lo : (t h l : ℕ) → t < 16 → h ≤ 1 → l ≤ 1 → (t + 16 * h + 32 * l) / 32 % 2 ≡ l
head_lo t h l a b c = let e : (t + 16 * h + 32 * l) / 32 ≡ l = omega arith in rw e (omega arith)

pair_tag : (t b : ℕ) → t < 16 → (t + 16 * b) % 16 ≡ t
pair_tag t b a = omega arith

pair_bit : (t b : ℕ) → t < 16 → b ≤ 1 → (t + 16 * b) / 16 % 2 ≡ b
pair_bit t b a c = let e : (t + 16 * b) / 16 ≡ b = omega arith in rw e (omega arith)

module _ (ws : List ℕ) where
  -- a value whose tag stands in the first word, with whatever else
  value_holds : (at tag head : ℕ) (v : GprValue) → tag ≡ (numbers_of v).tag → mark_of v < 256 → Holds ws at (quad head (numbers_of v)) → value_at ws tag at ≡ v
  unfolding Holds
  value_holds at tag head v e f h = rw (e, h 1 (omega arith), h 2 (omega arith), h 3 (omega arith)) (value_back v f)

  pub register_holds : (at : ℕ) (g : Gpr) → mark_of g.value < 256 → Holds ws at (register_words g) → register_at ws at ≡ g
  unfolding Holds
  register_holds at g f h =
      let v : List ℕ = quad (register_head g) (numbers_of g.value) in
      let q : List ℕ = pair (address_numbers g.hi_addr) (address_numbers g.lo_addr) in
      let t : ℕ = (numbers_of g.value).tag in
      let k : ℕ = (address_numbers g.hi_addr).known in
      let l : ℕ = (address_numbers g.lo_addr).known in
      let tag : register_head g % 16 ≡ t = head_tag t k l (tag_small g.value) in
      let hi : register_head g / 16 % 2 ≡ k = head_hi t k l (tag_small g.value) (known_small g.hi_addr) in
      let lo : register_head g / 32 % 2 ≡ l = head_lo t k l (tag_small g.value) (known_small g.hi_addr) (known_small g.lo_addr) in
      let head : get_or ws at 0 ≡ register_head g = rw (let z : at + 0 ≡ at = omega arith in z) at (h 0 (omega arith)) in
      rw (head, value_holds at (register_head g % 16) (register_head g) g.value tag f (holds_left ws at v q h), hi, lo, h 4 (omega arith), h 5 (omega arith), h 6 (omega arith), h 7 (omega arith), maybe_back g.hi_addr, maybe_back g.lo_addr)

  pub compare_holds : (at : ℕ) (r : Cr) → FitsCr r → Holds ws at (compare_words r) → compare_at ws at ≡ r
  unfolding Holds
  compare_holds at r f h =
      let left : List ℕ = quad (compare_head r) (numbers_of r.left) in
      let right : List ℕ = quad (numbers_of r.right).tag (numbers_of r.right) in
      let t : ℕ = (numbers_of r.left).tag in
      let tag : compare_head r % 16 ≡ t = pair_tag t (bit_of r.signed) (tag_small r.left) in
      let bit : compare_head r / 16 % 2 ≡ bit_of r.signed = pair_bit t (bit_of r.signed) (tag_small r.left) (bit_small r.signed) in
      let head : get_or ws at 0 ≡ compare_head r = rw (let z : at + 0 ≡ at = omega arith in z) at (h 0 (omega arith)) in
      let u = value_holds at (compare_head r % 16) (compare_head r) r.left tag f.left (holds_left ws at left right h) in
      let v = value_holds (at + 4) (get_or ws (at + 4) 0) (numbers_of r.right).tag r.right (h 4 (omega arith)) f.right (holds_right ws at left right h) in
      rw (head, u, v, bit, bit_back r.signed)

  pub held_holds : (at : ℕ) (l : Held) → mark_of l.value < 256 → Holds ws at (value_words l.value) → held_at ws at ≡ l
  held_holds at l f h =
      let n = numbers_of l.value in
      rw (value_holds at (get_or ws at 0) n.tag l.value (holds_first ws at n.tag (n.a ∷ n.b ∷ n.c ∷ []) h) f h)

  -- a state is read back wherever its words stand
  pub state_holds : (at : ℕ) (s : VM) → Fits s → Holds ws at (state_words s) → state_at ws at ≡ s
  unfolding state_words state_at
  state_holds at s f h =
      let g : List ℕ = many register_words blank 32 s.gpr in
      let r : List ℕ = many compare_words no_cr 8 s.cr in
      let l : List ℕ = value_words s.lr.value in
      let t : List ℕ = value_words s.ctr.value in
      let gl : at + length g ≡ at + 256 = omega (arith, many_length register_words blank 8 register_wide 32 s.gpr) in
      let rl : at + 256 + length r ≡ at + 320 = omega (arith, many_length compare_words no_cr 8 compare_wide 8 s.cr) in
      let tl : at + 320 + 4 ≡ at + 324 = omega arith in
      let rest : Holds ws (at + 256) (r ++ (l ++ t)) = rw gl at (holds_right ws at g (r ++ (l ++ t)) h) in
      let ends : Holds ws (at + 320) (l ++ t) = rw rl at (holds_right ws (at + 256) r (l ++ t) rest) in
      let gs = listed_all (λ (i : ℕ). register_at ws (at + i * 8)) blank s.gpr 32 f.gpr_count
      (λ i k. register_holds (at + i * 8) (get_or s.gpr i blank) (f.gprs i k)
      (many_holds register_words blank 8 register_wide ws at 32 s.gpr (holds_left ws at g (r ++ (l ++ t)) h) i k)) in
      let rs = listed_all (λ (i : ℕ). compare_at ws (at + 256 + i * 8)) no_cr s.cr 8 f.cr_count
      (λ i k. compare_holds (at + 256 + i * 8) (get_or s.cr i no_cr) (f.crs i k)
      (many_holds compare_words no_cr 8 compare_wide ws (at + 256) 8 s.cr (holds_left ws (at + 256) r (l ++ t) rest) i k)) in
      rw (gs, rs, held_holds (at + 320) s.lr f.lr (holds_left ws (at + 320) l t ends), held_holds (at + 324) s.ctr f.ctr (rw tl at (holds_right ws (at + 320) l t ends)))

  pub place_held : (at : ℕ) (p : SectionAddress) (s : VM) → Holds ws at (slot_words p s) → place_in ws at ≡ p
  unfolding Holds
  place_held at p s h = rw (holds_first ws at p.section (p.address ∷ state_words s) h, h 1 (omega (arith, state_length s)))

  pub state_held : (at : ℕ) (p : SectionAddress) (s : VM) → Fits s → Holds ws at (slot_words p s) → state_in ws at ≡ s
  state_held at p s f h = state_holds (at + 2) s f (holds_right ws at (place_words p) (state_words s) h)

  -- the test says yes to the words of every place and state
  pub slot_yes : (at : ℕ) (p : SectionAddress) (s : VM) → Fits s → Holds ws at (slot_words p s) → is_slot ws at ≡ true
  slot_yes at p s f h =
      ap (λ (q : SectionAddress). matches ws at (slot_words q (state_in ws at))) (place_held at p s h)
      ∙ ap (λ (t : VM). matches ws at (slot_words p t)) (state_held at p s f h)
      ∙ holds_matches ws at (slot_words p s) h

  -- and to no others: what it says yes to are the words of the place and state that are read there
  pub slot_only : (at : ℕ) → is_slot ws at ≡ true → Holds ws at (slot_words (place_in ws at) (state_in ws at))
  slot_only at h = matches_holds ws at (slot_words (place_in ws at) (state_in ws at)) h

-- what is read as a mark is a byte
mark_read : (t a b c : ℕ) → mark_of (value_of t a b c) < 256
unfolding value_of
mark_read t a b c = go (eqb t 1) (eqb t 2) (eqb t 3) (eqb t 4) (eqb t 5) (eqb t 6) (eqb t 7) (eqb t 8) (eqb t 9)
  where
    go : (b1 b2 b3 b4 b5 b6 b7 b8 b9 : Bool)
        → mark_of (pick b1 (Constant a) (pick b2 (Address target.External) (pick b3 (Address (address_in a b)) (pick b4 (ComparisonResult (a % 256)) (pick b5 (Range a b c) (pick b6 (LoadIndexed target.External None) (pick b7 (LoadIndexed (address_in a b) None) (pick b8 (LoadIndexed target.External (Some c)) (pick b9 (LoadIndexed (address_in a b) (Some c)) Unknown))))))))) < 256
    go true b2 b3 b4 b5 b6 b7 b8 b9 = omega arith
    go false true b3 b4 b5 b6 b7 b8 b9 = omega arith
    go false false true b4 b5 b6 b7 b8 b9 = omega arith
    go false false false true b5 b6 b7 b8 b9 = omega arith
    go false false false false true b6 b7 b8 b9 = omega arith
    go false false false false false true b7 b8 b9 = omega arith
    go false false false false false false true b8 b9 = omega arith
    go false false false false false false false true b9 = omega arith
    go false false false false false false false false true = omega arith
    go false false false false false false false false false = omega arith

-- what is read fits, whatever the words
pub state_fits : (ws : List ℕ) (at : ℕ) → Fits (state_at ws at)
unfolding state_at
state_fits ws at =
    let r : ℕ → Gpr = λ i. register_at ws (at + i * 8) in
    let c : ℕ → Cr = λ i. compare_at ws (at + 256 + i * 8) in
    record {
      gpr_count = listed_length r 32;
      cr_count = listed_length c 8;
      gprs = λ i k. rw (listed_get r blank 32 i k) (mark_read _ _ _ _);
      crs = λ i k. rw (listed_get c no_cr 8 i k) (record { left = mark_read _ _ _ _; right = mark_read _ _ _ _ });
      lr = mark_read _ _ _ _;
      ctr = mark_read _ _ _ _;
    }

-- what put_slot writes, place_in and state_in read back
pub place_back : (ws : List ℕ) (at : ℕ) (p : SectionAddress) (s : VM) → at ≤ length ws → place_in (put ws at (slot_words p s)) at ≡ p
place_back ws at p s h = place_held (put ws at (slot_words p s)) at p s (holds_put ws at (slot_words p s) h)

pub state_back : (ws : List ℕ) (at : ℕ) (p : SectionAddress) (s : VM) → Fits s → at ≤ length ws → state_in (put ws at (slot_words p s)) at ≡ s
state_back ws at p s f h = state_held (put ws at (slot_words p s)) at p s f (holds_put ws at (slot_words p s) h)

pub slot_back : (ws : List ℕ) (at : ℕ) (p : SectionAddress) (s : VM) → Fits s → at ≤ length ws → is_slot (put ws at (slot_words p s)) at ≡ true
slot_back ws at p s f h = slot_yes (put ws at (slot_words p s)) at p s f (holds_put ws at (slot_words p s) h)

-- the parts that were read make the state
pub state_read : (ws : List ℕ) (at : ℕ) (s : VM) (lr ctr : Held)
    → s.gpr ≡ listed (λ (k : ℕ). register_at ws (at + k * 8)) 32
    → s.cr ≡ listed (λ (k : ℕ). compare_at ws (at + 256 + k * 8)) 8
    → lr ≡ held_at ws (at + 320)
    → ctr ≡ held_at ws (at + 324)
    → record { gpr = s.gpr; cr = s.cr; lr = lr; ctr = ctr } ≡ state_at ws at
unfolding state_at
state_read ws at s lr ctr a b c d = rw (a, b, c, d)

-- a record of which nothing is known
pub blank_of : (g : Gpr) → g.value ≡ Unknown → g.hi_addr ≡ None → g.lo_addr ≡ None → g ≡ blank
blank_of g a b c =
    ap (λ (v : GprValue). mk v g.hi_addr g.lo_addr) a
    ∙ ap (λ (m : Option SectionAddress). mk Unknown m g.lo_addr) b
    ∙ ap (λ (m : Option SectionAddress). mk Unknown None m) c
  where
    mk : GprValue → Option SectionAddress → Option SectionAddress → Gpr
    mk v h l = record { value = v; hi_addr = h; lo_addr = l }

pub unset_of : (r : Cr) → r.left ≡ Unknown → r.right ≡ Unknown → r.signed ≡ false → r ≡ no_cr
unset_of r a b c =
    ap (λ (v : GprValue). mk v r.right r.signed) a
    ∙ ap (λ (v : GprValue). mk Unknown v r.signed) b
    ∙ ap (λ (t : Bool). mk Unknown Unknown t) c
  where
    mk : GprValue → GprValue → Bool → Cr
    mk v w t = record { left = v; right = w; signed = t }
