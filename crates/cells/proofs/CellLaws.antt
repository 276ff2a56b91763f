-- One record of a state written over its cells: the cells are those of the state with that record.
-- Assumes nothing.
use mathlib.Core.List.{List, ◌++◌, append_assoc}
use mathlib.Core.Path.{◌≡◌, refl, sym, ap, ◌∙◌}
use Prim.Native.Nat.{ℕ, zero, suc, ◌+◌, ◌*◌, ◌≤◌, ◌<◌}
use native.Mathlib.Decide.{dec_lt, ℕ_discrete}
use native.Mathlib.Omega.{arith}
use lib.ListN.{length, get_or, set, take, drop, length-set}
use lib.Seq.{take-append-le, drop-append-le, take-append-add, drop-append-add, get_or-set_same, get_or-set_other}
use Rattle.vm.specs.Registers.{blank, no_cr, reg, with_reg, cr_at, with_lr, with_ctr}
use Rattle.vm.specs.declared.Cr.{Cr}
use Rattle.vm.specs.declared.Gpr.{Gpr}
use Rattle.vm.specs.declared.GprValue.{GprValue}
use Rattle.vm.specs.declared.VM.{VM}
use Rattle.slot.specs.Fits.{FitsCr, Fits}
use Rattle.slot.specs.Layout.{state_size, register_words, compare_words, value_words, state_words, register_at, compare_at, state_at}
use Rattle.slot.specs.Put.{put, many}
use Rattle.slot.specs.Values.{mark_of}
use Rattle.slot.proofs.PutLaws.{put_whole, many_length, listed_get, Holds}
use Rattle.slot.proofs.SlotLaws.{register_wide, compare_wide, state_length, state_holds}
use Rattle.cells.specs.Cells.{state_of, Cells, with_cr}

-- what is written into the first, or the second, of two lists
pub put_left : (a b : List ℕ) (at : ℕ) (l : List ℕ) → at + length l ≤ length a → put (a ++ b) at l ≡ put a at l ++ b
put_left a b at l h =
    rw (take-append-le at a b (omega arith), drop-append-le (at + length l) a b h)
    (ap (λ (m : List ℕ). take at a ++ m) (sym (append_assoc l (drop (at + length l) a) b)) ∙ sym (append_assoc (take at a) (l ++ drop (at + length l) a) b))

pub put_right : (a b : List ℕ) (at : ℕ) (l : List ℕ) → put (a ++ b) (length a + at) l ≡ a ++ put b at l
put_right a b at l =
    let e : length a + at + length l ≡ length a + (at + length l) = omega arith in
    rw (e, take-append-add a b at, drop-append-add a b (at + length l)) (append_assoc a (take at b) _)

module _ {A : Type 0} (words : A → List ℕ) (d : A) (wide : (r : A) → length (words r) ≡ 8) where
  -- a record that is not among the first k
  many_past : (k : ℕ) (rs : List A) (i : ℕ) (r : A) → k ≤ i → many words d k (set rs i r) ≡ many words d k rs
  unfolding many
  many_past zero rs i r h = refl
  many_past (suc k) rs i r h = rw (many_past k rs i r (omega arith), get_or-set_other rs i k r d (λ e. omega arith))

  -- record i of k
  pub many_set : (k : ℕ) (rs : List A) (i : ℕ) (r : A) → i < k → k ≤ length rs → put (many words d k rs) (i * 8) (words r) ≡ many words d k (set rs i r)
  unfolding many
  many_set zero rs i r h l = absurd (let z : ⊥ = omega arith in z)
  many_set (suc k) rs i r h l =
      elim (dec_lt i k) [
        | yes a ↦
            put_left (many words d k rs) (words (get_or rs k d)) (i * 8) (words r) (room a)
            ∙ ap (λ (m : List ℕ). m ++ words (get_or rs k d)) (many_set k rs i r a (omega arith))
            ∙ ap (λ (x : A). many words d k (set rs i r) ++ words x) (sym (get_or-set_other rs i k r d (λ e. omega arith)))
        | no a ↦
            let e : i ≡ k = omega arith in
            rw e (last (omega arith))
      ]
    where
      room : i < k → i * 8 + length (words r) ≤ length (many words d k rs)
      room a = omega (arith, wide r, many_length words d 8 wide k rs)

      last : k < length rs → put (many words d k rs ++ words (get_or rs k d)) (k * 8) (words r) ≡ many words d k (set rs k r) ++ words (get_or (set rs k r) k d)
      last m =
          let e : k * 8 ≡ length (many words d k rs) + 0 = omega (arith, many_length words d 8 wide k rs) in
          rw (e, many_past k rs k r (omega arith), get_or-set_same rs k r d m)
          (put_right (many words d k rs) (words (get_or rs k d)) 0 (words r)
          ∙ ap (λ (l : List ℕ). many words d k rs ++ l) (put_whole (words (get_or rs k d)) (words r) (omega (arith, wide (get_or rs k d), wide r))))

-- how long the parts of a state's cells are
registers_long : (s : VM) → length (many register_words blank 32 s.gpr) ≡ 256
registers_long s = omega (arith, many_length register_words blank 8 register_wide 32 s.gpr)

compares_long : (s : VM) → length (many compare_words no_cr 8 s.cr) ≡ 64
compares_long s = omega (arith, many_length compare_words no_cr 8 compare_wide 8 s.cr)

-- register i is written
pub register_put : (s : VM) (i : ℕ) (g : Gpr) → Fits s → i < 32 → put (state_words s) (i * 8) (register_words g) ≡ state_words (with_reg s i g)
unfolding state_words
register_put s i g f h =
    put_left (many register_words blank 32 s.gpr) _ (i * 8) (register_words g) (omega (arith, registers_long s))
    ∙ ap (λ (l : List ℕ). l ++ (many compare_words no_cr 8 s.cr ++ (value_words s.lr.value ++ value_words s.ctr.value)))
    (many_set register_words blank register_wide 32 s.gpr i g h (omega (arith, f.gpr_count)))

-- compare record k is written
pub compare_put : (s : VM) (k : ℕ) (c : Cr) → Fits s → k < 8 → put (state_words s) (256 + k * 8) (compare_words c) ≡ state_words (with_cr s k c)
unfolding state_words
compare_put s k c f h =
    let gs : List ℕ = many register_words blank 32 s.gpr in
    let cs : List ℕ = many compare_words no_cr 8 s.cr in
    let ends : List ℕ = value_words s.lr.value ++ value_words s.ctr.value in
    let e : 256 + k * 8 ≡ length gs + k * 8 = omega (arith, registers_long s) in
    ap (λ (m : ℕ). put (gs ++ (cs ++ ends)) m (compare_words c)) e
    ∙ put_right gs (cs ++ ends) (k * 8) (compare_words c)
    ∙ ap (λ (l : List ℕ). gs ++ l)
    (put_left cs ends (k * 8) (compare_words c) (omega (arith, compares_long s))
    ∙ ap (λ (l : List ℕ). l ++ ends) (many_set compare_words no_cr compare_wide 8 s.cr k c h (omega (arith, f.cr_count))))

-- LR, or CTR, is written
pub lr_put : (s : VM) (v : GprValue) → put (state_words s) 320 (value_words v) ≡ state_words (with_lr s v)
unfolding state_words
lr_put s v =
    let gs : List ℕ = many register_words blank 32 s.gpr in
    let cs : List ℕ = many compare_words no_cr 8 s.cr in
    let ends : List ℕ = value_words s.lr.value ++ value_words s.ctr.value in
    let e : 320 ≡ length gs + (length cs + 0) = omega (arith, registers_long s, compares_long s) in
    ap (λ (m : ℕ). put (gs ++ (cs ++ ends)) m (value_words v)) e
    ∙ put_right gs (cs ++ ends) (length cs + 0) (value_words v)
    ∙ ap (λ (l : List ℕ). gs ++ l) (put_right cs ends 0 (value_words v))

pub ctr_put : (s : VM) (v : GprValue) → put (state_words s) 324 (value_words v) ≡ state_words (with_ctr s v)
unfolding state_words
ctr_put s v =
    let gs : List ℕ = many register_words blank 32 s.gpr in
    let cs : List ℕ = many compare_words no_cr 8 s.cr in
    let ends : List ℕ = value_words s.lr.value ++ value_words s.ctr.value in
    let e : 324 ≡ length gs + (length cs + 4) = omega (arith, registers_long s, compares_long s) in
    ap (λ (m : ℕ). put (gs ++ (cs ++ ends)) m (value_words v)) e
    ∙ put_right gs (cs ++ ends) (length cs + 4) (value_words v)
    ∙ ap (λ (l : List ℕ). gs ++ l) (put_right cs ends 4 (value_words v))

-- what is written fits
pub register_fits : (s : VM) (i : ℕ) (g : Gpr) → Fits s → i < 32 → mark_of g.value < 256 → Fits (with_reg s i g)
register_fits s i g f h m =
    record {
      gpr_count = length-set s.gpr i g ∙ f.gpr_count;
      cr_count = f.cr_count;
      gprs = λ j k. elim (ℕ_discrete j i) [
        | yes e ↦ rw (e, get_or-set_same s.gpr i g blank (omega (arith, f.gpr_count))) m
        | no n ↦ rw (get_or-set_other s.gpr i j g blank n) (f.gprs j k)
      ];
      crs = f.crs;
      lr = f.lr;
      ctr = f.ctr;
    }

pub compare_fits : (s : VM) (k : ℕ) (c : Cr) → Fits s → k < 8 → FitsCr c → Fits (with_cr s k c)
compare_fits s k c f h m =
    record {
      gpr_count = f.gpr_count;
      cr_count = length-set s.cr k c ∙ f.cr_count;
      gprs = f.gprs;
      crs = λ j l. elim (ℕ_discrete j k) [
        | yes e ↦ rw (e, get_or-set_same s.cr k c no_cr (omega (arith, f.cr_count))) m
        | no n ↦ rw (get_or-set_other s.cr k j c no_cr n) (f.crs j l)
      ];
      lr = f.lr;
      ctr = f.ctr;
    }

pub lr_fits : (s : VM) (v : GprValue) → Fits s → mark_of v < 256 → Fits (with_lr s v)
lr_fits s v f m = record { gpr_count = f.gpr_count; cr_count = f.cr_count; gprs = f.gprs; crs = f.crs; lr = m; ctr = f.ctr }

pub ctr_fits : (s : VM) (v : GprValue) → Fits s → mark_of v < 256 → Fits (with_ctr s v)
ctr_fits s v f m = record { gpr_count = f.gpr_count; cr_count = f.cr_count; gprs = f.gprs; crs = f.crs; lr = f.lr; ctr = m }

-- cells are those of one state
pub cells_state : {ws : List ℕ} {s : VM} → Cells ws s → state_of ws ≡ s
unfolding Holds
cells_state {ws} {s} c = rw c.words (state_holds (state_words s) 0 s c.fits (λ i k. let e : 0 + i ≡ i = omega arith in rw e))

pub cells_long : {ws : List ℕ} {s : VM} → Cells ws s → length ws ≡ state_size
cells_long {ws} {s} c = ap length c.words ∙ state_length s

-- records read from words are those of the state there
pub register_read : (ws : List ℕ) (i : ℕ) → i < 32 → register_at ws (i * 8) ≡ reg (state_of ws) i
unfolding state_at
register_read ws i h = let z : 0 + i * 8 ≡ i * 8 = omega arith in ap (register_at ws) (sym z) ∙ sym (listed_get (λ (k : ℕ). register_at ws (0 + k * 8)) blank 32 i h)

pub compare_read : (ws : List ℕ) (k : ℕ) → k < 8 → compare_at ws (256 + k * 8) ≡ cr_at (state_of ws) k
unfolding state_at
compare_read ws k h = sym (listed_get (λ (j : ℕ). compare_at ws (0 + 256 + j * 8)) no_cr 8 k h)

-- one record written over cells
pub set_register : {ws vs : List ℕ} {s : VM} (i : ℕ) (g : Gpr) → Cells ws s → i < 32 → vs ≡ put ws (i * 8) (register_words g) → mark_of g.value < 256 → Cells vs (with_reg s i g)
set_register {ws} {vs} {s} i g c h e m =
    record {
      words = e ∙ ap (λ (l : List ℕ). put l (i * 8) (register_words g)) c.words ∙ register_put s i g c.fits h;
      fits = register_fits s i g c.fits h m;
    }

pub set_compare : {ws vs : List ℕ} {s : VM} (k : ℕ) (r : Cr) → Cells ws s → k < 8 → vs ≡ put ws (256 + k * 8) (compare_words r) → FitsCr r → Cells vs (with_cr s k r)
set_compare {ws} {vs} {s} k r c h e m =
    record {
      words = e ∙ ap (λ (l : List ℕ). put l (256 + k * 8) (compare_words r)) c.words ∙ compare_put s k r c.fits h;
      fits = compare_fits s k r c.fits h m;
    }

pub set_lr : {ws vs : List ℕ} {s : VM} (v : GprValue) → Cells ws s → vs ≡ put ws 320 (value_words v) → mark_of v < 256 → Cells vs (with_lr s v)
set_lr {ws} {vs} {s} v c e m =
    record { words = e ∙ ap (λ (l : List ℕ). put l 320 (value_words v)) c.words ∙ lr_put s v; fits = lr_fits s v c.fits m }

pub set_ctr : {ws vs : List ℕ} {s : VM} (v : GprValue) → Cells ws s → vs ≡ put ws 324 (value_words v) → mark_of v < 256 → Cells vs (with_ctr s v)
set_ctr {ws} {vs} {s} v c e m =
    record { words = e ∙ ap (λ (l : List ℕ). put l 324 (value_words v)) c.words ∙ ctr_put s v; fits = ctr_fits s v c.fits m }
