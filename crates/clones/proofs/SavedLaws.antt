-- Back from a call: the words of the registers from 14 up are copied from another state's.
-- Assumes of both states what their type says (`Fits`).
use mathlib.Core.List.{List, ◌++◌, append_assoc, append-nil}
use mathlib.Core.Path.{◌≡◌, refl, sym, ap, ◌∙◌}
use Prim.Native.Nat.{ℕ, zero, suc, ◌+◌, ◌-◌, ◌≤◌, ◌<◌}
use native.Mathlib.Decide.{dec_lt}
use native.Mathlib.Nat.{add-zero, add-suc}
use native.Mathlib.Omega.{arith}
use lib.ListN.{length, get_or, take, drop, length-append, length-drop, get_or-append}
use lib.Seq.{get_or-drop, get_or-take, get_or-append-add, length-take-le, take_at, drop_at}
use Rattle.cells.proofs.CellLaws.{put_left, put_right}
use Rattle.slot.proofs.PutLaws.{many_length, put_whole}
use Rattle.slot.proofs.SlotLaws.{register_wide, state_length}
use Rattle.slot.specs.Fits.{Fits}
use Rattle.slot.specs.Layout.{state_size, register_words, compare_words, ends_words, state_words}
use Rattle.slot.specs.Put.{put, many}
use Rattle.vm.specs.Registers.{blank, no_cr}
use Rattle.vm.specs.States.{saved_from}
use Rattle.vm.specs.declared.VM.{VM}
use Rattle.clones.proofs.OverLaws.{put_inner}

module _ {A : Type 0} (words : A → List ℕ) (d : A) where
  -- lists that agree below k
  many_same : (k : ℕ) (rs qs : List A) → ((i : ℕ) → i < k → get_or rs i d ≡ get_or qs i d) → many words d k rs ≡ many words d k qs
  unfolding many
  many_same zero rs qs e = refl
  many_same (suc k) rs qs e = rw (many_same k rs qs (λ i h. e i (omega arith)), e k (omega arith))

  -- the first a records, then those behind
  many_split : (a b : ℕ) (rs : List A) → many words d (a + b) rs ≡ many words d a rs ++ many words d b (drop a rs)
  unfolding many
  many_split a zero rs = ap (λ (n : ℕ). many words d n rs) (add-zero a) ∙ sym (append-nil (many words d a rs))
  many_split a (suc b) rs =
      ap (λ (n : ℕ). many words d n rs) (add-suc a b)
      ∙ ap (λ (l : List ℕ). l ++ words (get_or rs (a + b) d)) (many_split a b rs)
      ∙ ap (λ (r : A). many words d a rs ++ many words d b (drop a rs) ++ words r) (sym (get_or-drop a rs b d))
      ∙ append_assoc (many words d a rs) (many words d b (drop a rs)) (words (get_or (drop a rs) b d))

  -- the first a of one list, then those behind of another
  many_both : (a b : ℕ) (rs qs : List A) → a ≤ length rs → many words d (a + b) (take a rs ++ drop a qs) ≡ many words d a rs ++ many words d b (drop a qs)
  many_both a b rs qs h =
      let t : length (take a rs) ≡ a = length-take-le a rs h in
      many_split a b (take a rs ++ drop a qs)
      ∙ ap (λ (l : List A). many words d a (take a rs ++ drop a qs) ++ many words d b l) (drop_at (take a rs) (drop a qs) a t)
      ∙ ap (λ (l : List ℕ). l ++ many words d b (drop a qs))
      (many_same a (take a rs ++ drop a qs) rs (λ i k. get_or-append (take a rs) (drop a qs) d i (omega arith) ∙ get_or-take a rs i d k))

-- the words of the registers below 14, and of those from 14 up

abbrev low : VM → List ℕ
low s = many register_words blank 14 s.gpr

abbrev high : VM → List ℕ
high s = many register_words blank 18 (drop 14 s.gpr)

abbrev rest : VM → List ℕ
rest s = many compare_words no_cr 8 s.cr ++ ends_words s.lr s.ctr

low_length : (s : VM) → length (low s) ≡ 112
low_length s = many_length register_words blank 8 register_wide 14 s.gpr

high_length : (s : VM) → length (high s) ≡ 144
high_length s = many_length register_words blank 8 register_wide 18 (drop 14 s.gpr)

state_split : (s : VM) → state_words s ≡ low s ++ (high s ++ rest s)
unfolding state_words
state_split s =
    ap (λ (l : List ℕ). l ++ rest s) (many_split register_words blank 14 18 s.gpr) ∙ append_assoc (low s) (high s) (rest s)

-- the words from 112 on are those of the registers from 14 up
high_words : (s : VM) → take 144 (drop 112 (state_words s)) ≡ high s
high_words s =
    ap (λ (l : List ℕ). take 144 (drop 112 l)) (state_split s)
    ∙ ap (take 144) (drop_at (low s) (high s ++ rest s) 112 (low_length s))
    ∙ take_at (high s) (rest s) 144 (high_length s)

saved_split : (t s : VM) → length t.gpr ≡ 32 → state_words (saved_from t s) ≡ low t ++ (high s ++ rest t)
unfolding state_words
saved_split t s e =
    ap (λ (l : List ℕ). l ++ rest t) (many_both register_words blank 14 18 t.gpr s.gpr (omega arith)) ∙ append_assoc (low t) (high s) (rest t)

saved_words : (t s : VM) → length t.gpr ≡ 32 → put (state_words t) 112 (high s) ≡ state_words (saved_from t s)
saved_words t s e =
    let at : 112 ≡ length (low t) + 0 = omega (arith, low_length t) in
    ap (λ (l : List ℕ). put l 112 (high s)) (state_split t)
    ∙ ap (λ (n : ℕ). put (low t ++ (high t ++ rest t)) n (high s)) at
    ∙ put_right (low t) (high t ++ rest t) 0 (high s)
    ∙ ap (λ (l : List ℕ). low t ++ l) (put_left (high t) (rest t) 0 (high s) (omega (arith, high_length t, high_length s)))
    ∙ ap (λ (l : List ℕ). low t ++ (l ++ rest t)) (put_whole (high t) (high s) (high_length t ∙ sym (high_length s)))
    ∙ sym (saved_split t s e)

-- the registers from 14 up of a state that was written
pub saved_put : (ws : List ℕ) (at : ℕ) (t s : VM) (us vs : List ℕ) → at + state_size ≤ length ws → length t.gpr ≡ 32
    → us ≡ put ws at (state_words t) → vs ≡ put us (at + 112) (take 144 (drop 112 (state_words s))) → vs ≡ put ws at (state_words (saved_from t s))
saved_put ws at t s us vs h e u v =
    v ∙ ap (λ (l : List ℕ). put l (at + 112) (take 144 (drop 112 (state_words s)))) u
    ∙ ap (put (put ws at (state_words t)) (at + 112)) (high_words s)
    ∙ put_inner ws at (state_words t) 112 (high s) (omega (arith, state_length t, high_length s)) (omega (arith, state_length t))
    ∙ ap (put ws at) (saved_words t s e)

module _ (t s : VM) (f : Fits t) (g : Fits s) where
  front : length (take 14 t.gpr) ≡ 14
  front = length-take-le 14 t.gpr (omega (arith, f.gpr_count))

  saved_low : (i : ℕ) → i < 14 → get_or (take 14 t.gpr ++ drop 14 s.gpr) i blank ≡ get_or t.gpr i blank
  saved_low i h = get_or-append (take 14 t.gpr) (drop 14 s.gpr) blank i (omega (arith, front)) ∙ get_or-take 14 t.gpr i blank h

  saved_high : (i : ℕ) → 14 ≤ i → get_or (take 14 t.gpr ++ drop 14 s.gpr) i blank ≡ get_or s.gpr i blank
  saved_high i h =
      let e : i ≡ length (take 14 t.gpr) + (i - 14) = omega (arith, front) in
      let m : 14 + (i - 14) ≡ i = omega arith in
      ap (λ (j : ℕ). get_or (take 14 t.gpr ++ drop 14 s.gpr) j blank) e
      ∙ get_or-append-add (take 14 t.gpr) (drop 14 s.gpr) (i - 14) blank
      ∙ get_or-drop 14 s.gpr (i - 14) blank
      ∙ ap (λ (j : ℕ). get_or s.gpr j blank) m

  pub fits_saved : Fits (saved_from t s)
  fits_saved = record {
    gpr_count = length-append (take 14 t.gpr) (drop 14 s.gpr) ∙ omega (arith, front, length-drop 14 s.gpr, g.gpr_count);
    cr_count = f.cr_count;
    gprs = λ i h. elim (dec_lt i 14) [
      | yes a ↦ rw (saved_low i a) (f.gprs i h)
      | no a ↦ rw (saved_high i (omega arith)) (g.gprs i h)
    ];
    crs = f.crs;
    lr = f.lr;
    ctr = f.ctr;
  }
