-- DEMAND 3: the theorem, over a run of any length. One word by Steps and Holding; then induction on the words.
-- Assumes nothing.
use Rattle.std.specs.Prelude.{Result, ⊤}
use mathlib.Core.Path.{◌≡◌, refl, sym, ap, ◌∙◌, subst}
use mathlib.Core.Bool.{Bool, true, false}
use mathlib.Core.List.{List}
use Prim.Native.Nat.{ℕ, zero, suc, ◌+◌, ◌%◌, ◌^◌, ◌<◌, min, max}
use native.Mathlib.Nat.{mod-lt}
use native.Mathlib.Omega.{arith}
use borrow.Author.Tests.{eqb-true, eqb-false}
use lib.Dec.{eqb, lit<}
use lib.Pow.{pow_pos}
use lib.ListN.{length, get_or, set, length-set}
use lib.Seq.{get_or-set_same, get_or-set_other}
use Rattle.words.specs.Choice.{pick}
use Rattle.words.specs.Word.{bit}
use Rattle.words.proofs.Fields.{field_lt}
use Rattle.words.proofs.Number.{number_lt}
use Rattle.places.specs.declared.SectionAddress.{SectionAddress}
use Rattle.lookups.specs.Code.{code_place}
use Rattle.vm.specs.declared.VM.{VM}
use Rattle.vm.specs.declared.Gpr.{Gpr}
use Rattle.vm.specs.declared.GprValue.TheVariants.{Constant}
use Rattle.vm.specs.Registers.{blank, reg, with_reg}
use Rattle.step.specs.declared.Stepped.{Stepped}
use Rattle.step.specs.Step.{goes_on, placed_of, refused_of}
use Rattle.step.specs.declared.Refusal.TheVariants.{BrokenImage}
use Rattle.straight.specs.Manual.{Kind, add, addi, addic, addic_dot, addis, subf, subfc, subfic, ori, orr, rlwinm, rlwnm, or, masked, rotate_and_mask, destination, result, executed, gpr}
use Rattle.straight.specs.Run.{place_of, word_of, StraightRun, step_at, state_after, machine_after, Machine}
use Rattle.straight.specs.Demand3.{Holds, OnlyChanges, AtWord, Whole, Demanded}
use Rattle.straight.proofs.Steps.{bare_has_none, record_of, steps_on}
use Rattle.straight.proofs.Holding.{number_put, constant_put}
use Rattle.lookups.specs.declared.PlaceError.{PlaceError}

-- ---- one register written

by_test : (r d : ℕ) (P : Type 0) (t : Bool) → eqb r d ≡ t → (r ≡ d → P) → ((r ≡ d → ⊥) → P) → P
by_test r d P true e f g = f (eqb-true r d e)
by_test r d P false e f g = g (eqb-false r d e)

-- the record that was put there holds: all do
put_holds : (s : VM) (m : List ℕ) (d : ℕ) (g : Gpr) (v : ℕ) → d < 32 → Whole s → length m ≡ 32 → Holds s m
    → ((x : ℕ) → g.value ≡ Constant x → v ≡ x) → Holds (with_reg s d g) (set m d v)
unfolding Holds
put_holds s m d g v hd ls lm h f r x hr e =
    let hm : d < length m = omega arith in
    let hs : d < length s.gpr = omega arith in
    by_test r d (get_or (set m d v) r 0 ≡ x) (eqb r d) refl
    (λ p. rw (p, get_or-set_same m d v 0 hm) (f x (rw (p, get_or-set_same s.gpr d g blank hs) at e)))
    (λ q. rw (get_or-set_other m d r v 0 q) (h r x hr (rw (get_or-set_other s.gpr d r g blank q) at e)))

put_only : (s : VM) (d : ℕ) (g : Gpr) → OnlyChanges d s (with_reg s d g)
put_only s d g = record { others = λ r q. get_or-set_other s.gpr d r g blank q; lr = refl; ctr = refl; cr = refl }

put_there : (s : VM) (d : ℕ) (g : Gpr) → d < 32 → Whole s → reg (with_reg s d g) d ≡ g
put_there s d g hd ls = let hs : d < length s.gpr = omega arith in get_or-set_same s.gpr d g blank hs

destination_lt : (k : Kind) (w : ℕ) → destination k w < 32
destination_lt add w = field_lt w 6 10
destination_lt addi w = field_lt w 6 10
destination_lt addic w = field_lt w 6 10
destination_lt addic_dot w = field_lt w 6 10
destination_lt addis w = field_lt w 6 10
destination_lt subf w = field_lt w 6 10
destination_lt subfc w = field_lt w 6 10
destination_lt subfic w = field_lt w 6 10
destination_lt ori w = field_lt w 11 15
destination_lt orr w = field_lt w 11 15
destination_lt rlwinm w = field_lt w 11 15
destination_lt rlwnm w = field_lt w 11 15

-- ---- the machine's registers stay words

bit_lt : (w i : ℕ) → bit w i < 2
bit_lt w i = mod-lt _ (lit< tt)

sum_lt : (n : ℕ) → n % 2 ^ 32 < 2 ^ 32
sum_lt n = mod-lt n (pow_pos 32)

or_lt : (a b : ℕ) → or a b < 2 ^ 32
unfolding or
or_lt a b = number_lt (λ (i : ℕ). max (bit a i) (bit b i)) (λ i. omega (arith, bit_lt a i, bit_lt b i)) 32

rotate_lt : (x n b e : ℕ) → rotate_and_mask x n b e < 2 ^ 32
unfolding rotate_and_mask
rotate_lt x n b e = number_lt (λ (i : ℕ). min (bit x ((i + n) % 32)) (masked b e i)) (λ i. omega (arith, bit_lt x ((i + n) % 32))) 32

result_lt : (k : Kind) (w : ℕ) (m : List ℕ) → result k w m < 2 ^ 32
result_lt add w m = sum_lt _
result_lt addi w m = sum_lt _
result_lt addic w m = sum_lt _
result_lt addic_dot w m = sum_lt _
result_lt addis w m = sum_lt _
result_lt subf w m = sum_lt _
result_lt subfc w m = sum_lt _
result_lt subfic w m = sum_lt _
result_lt ori w m = or_lt _ _
result_lt orr w m = or_lt _ _
result_lt rlwinm w m = rotate_lt _ _ _ _
result_lt rlwnm w m = rotate_lt _ _ _ _

executed_machine : (k : Kind) (w : ℕ) (m : List ℕ) → Machine m → Machine (executed k w m)
executed_machine k w m h =
    let d : ℕ = destination k w in
    let hd : d < length m = omega (arith, destination_lt k w, h.registers) in
    record {
      registers = simp length-set h.registers;
      words = λ r.
          by_test r d (gpr (executed k w m) r < 2 ^ 32) (eqb r d) refl
          (λ p. rw (p, get_or-set_same m d (result k w m) 0 hd) (result_lt k w m))
          (λ q. rw (get_or-set_other m d r (result k w m) 0 q) (h.words r));
    }

-- ---- one word of a run

module _ (ws bs : List ℕ) (p : SectionAddress) (kinds : ℕ → Kind) (n : ℕ) (run : StraightRun ws bs p kinds n) where
  abbrev word : ℕ → ℕ
  word k = word_of ws bs (place_of p k)

  -- the public step refuses nothing here, and puts one record
  steps : (k : ℕ) → k < n → (s : VM)
      → step_at ws bs p k s ≡ goes_on (with_reg s (destination (kinds k) (word k)) (record_of (kinds k) (place_of p k) (word k) s))
  steps k h s =
      ap (λ (t : Bool). pick t (placed_of (code_place ws (place_of p k)) ws (place_of p k) (word k) s) (refused_of BrokenImage s)) run.image
      ∙ ap (λ (c : Result ⊤ PlaceError). placed_of c ws (place_of p k) (word k) s) (run.inside k h)
      ∙ steps_on ws (place_of p k) (word k) s (bare_has_none ws (place_of p k) (run.bare k h)) (kinds k) (run.words k h)

  at_word : (k : ℕ) → k < n → (s : VM) → Whole s → AtWord (kinds k) (word k) s (step_at ws bs p k s).vm
  at_word k h s ls =
      let d : ℕ = destination (kinds k) (word k) in
      let g : Gpr = record_of (kinds k) (place_of p k) (word k) s in
      subst (λ (u : Stepped). AtWord (kinds k) (word k) s u.vm) (sym (steps k h s))
      (record {
        constant = λ c.
            let x = constant_put s (place_of p k) (word k) (kinds k) c in
            (x.0, ap (λ (u : Gpr). u.value) (put_there s d g (destination_lt (kinds k) (word k)) ls) ∙ x.1);
        keeps = put_only s d g;
      })

  -- ---- what holds after each word

  pub record After (s : VM) (m : List ℕ) (k : ℕ) : Type 0 where
    pub whole : Whole (state_after ws bs p s k)
    pub machine : Machine (machine_after ws bs p kinds m k)
    pub holds : Holds (state_after ws bs p s k) (machine_after ws bs p kinds m k)

  one_more : (s : VM) (m : List ℕ) (k : ℕ) → k < n → After s m k → After s m (suc k)
  unfolding state_after machine_after
  one_more s m k h a =
      let t : VM = state_after ws bs p s k in
      let r : List ℕ = machine_after ws bs p kinds m k in
      let d : ℕ = destination (kinds k) (word k) in
      let g : Gpr = record_of (kinds k) (place_of p k) (word k) t in
      let e : (step_at ws bs p k t).vm ≡ with_reg t d g = ap (λ (u : Stepped). u.vm) (steps k h t) in
      record {
        whole = subst Whole (sym e) (simp length-set a.whole);
        machine = executed_machine (kinds k) (word k) r a.machine;
        holds = subst (λ (u : VM). Holds u (executed (kinds k) (word k) r)) (sym e)
            (put_holds t r d g (result (kinds k) (word k) r) (destination_lt (kinds k) (word k)) a.whole a.machine.registers a.holds
            (number_put t r (place_of p k) (word k) a.machine a.holds (kinds k)));
      }

  after : (s : VM) (m : List ℕ) → Whole s → Machine m → Holds s m → (k : ℕ) → k < suc n → After s m k
  unfolding state_after machine_after
  after s m ls lm h zero l = record { whole = ls; machine = lm; holds = h }
  after s m ls lm h (suc k) l = one_more s m k (omega arith) (after s m ls lm h k (omega arith))

pub demand_3 : Demanded
unfolding state_after
demand_3 ws bs p kinds n run s ls m lm h =
    record {
      holds_again = (after ws bs p kinds n run s m ls lm h n (omega arith)).holds;
      goes_on = λ k l. ap (λ (u : Stepped). u.result) (steps ws bs p kinds n run k l (state_after ws bs p s k));
      at_each_word = λ k l. at_word ws bs p kinds n run k l (state_after ws bs p s k) (after ws bs p kinds n run s m ls lm h k (omega arith)).whole;
    }
