-- A straight run, word by word: from each place on it comes to the same end.
-- Assumes nothing.
use Rattle.std.specs.Prelude.{Option, Some, None}
use mathlib.Core.Path.{◌≡◌, refl, sym, ap, ◌∙◌}
use mathlib.Core.Bool.{Bool, true, false}
use mathlib.Core.List.{List}
use lib.ListN.{length}
use Prim.Native.Nat.{ℕ, suc, ◌+◌, ◌-◌, ◌/◌, ◌≤◌, ◌<◌}
use native.Mathlib.Omega.{arith}
use Rattle.words.specs.Bytes.{be32}
use Rattle.words.specs.Choice.{pick}
use Rattle.places.specs.Places.{moved}
use Rattle.places.specs.declared.SectionAddress.{SectionAddress}
use Rattle.vm.specs.declared.Gpr.{Gpr}
use Rattle.vm.specs.declared.VM.{VM}
use Rattle.vm.specs.Registers.{cr_at}
use Rattle.step.specs.declared.Effect.{Effect}
use Rattle.step.specs.declared.Effect.TheVariants.{Nothing, SetD, SetA, Compare, ToLr, ToCtr, FromLr, FromCtr, Load, Store, Clear, Leaves}
use Rattle.step.specs.declared.Leave.{Leave}
use Rattle.step.specs.declared.Leave.TheVariants.{Ended, Illegal, Jump, Call, Fork, Both}
use Rattle.step.specs.declared.Stopped.{Stopped}
use Rattle.step.specs.Ways.{bi_of, leave_of, left_of}
use Rattle.step.specs.Step.{access_result, done_of, effect_in, step_of}
use Rattle.step.specs.Runs.{on_going, leave_by, stopped_at, run_of}
use Rattle.turns.specs.Straight.{is_ended}
use Rattle.turns.proofs.Stepping.{way_leaves}
use Rattle.runs.specs.Went.{went_of}
use Rattle.places.specs.declared.RelocationTarget.{RelocationTarget}

-- leaving never goes on
left_stops : {A : Type 0} (l : Leave) (at : SectionAddress) (s : VM) (go stop : A) → on_going (left_of l at s).result go stop ≡ stop
unfolding left_of
left_stops Ended at s go stop = refl
left_stops Illegal at s go stop = refl
left_stops (Jump t) at s go stop = refl
left_stops (Call t) at s go stop = refl
left_stops (Fork t k v u) at s go stop = refl
left_stops (Both t) at s go stop = refl

access_goes : {A : Type 0} (seen : Option RelocationTarget) (g : Gpr) (w : ℕ) (go stop : A) → on_going (access_result seen g w) go stop ≡ go
access_goes (Some t) g w go stop = refl
access_goes None g w go stop = refl

no : true ≡ false → ⊥
no e = omega (arith, ap (λ (b : Bool). pick {A = ℕ} b 1 0) e)

-- what a run does after a word with this effect
abbrev turned : Effect → List ℕ → List ℕ → ℕ → ℕ → SectionAddress → VM → Stopped
turned e ws code i n at s =
    on_going (done_of e ws at (be32 code i) s).result
    (run_of ws code (i + 4) n (moved at 4) (done_of e ws at (be32 code i) s).vm)
    (stopped_at (leave_by e ws at (be32 code i) s) at s)

-- a word that does not leave goes on from the state that it leaves in the cells
effect_goes_on : (x : Effect) (ws code : List ℕ) (i n : ℕ) (at : SectionAddress) (s : VM) → is_ended (leave_by x ws at (be32 code i) s) ≡ true
    → turned x ws code i n at s ≡ run_of ws code (i + 4) n (moved at 4) (went_of x ws at (be32 code i) s)
unfolding done_of leave_by went_of
effect_goes_on Nothing ws code i n at s h = refl
effect_goes_on (SetD g) ws code i n at s h = refl
effect_goes_on (SetA g) ws code i n at s h = refl
effect_goes_on (Compare c g) ws code i n at s h = refl
effect_goes_on (ToLr v) ws code i n at s h = refl
effect_goes_on (ToCtr v) ws code i n at s h = refl
effect_goes_on FromLr ws code i n at s h = refl
effect_goes_on FromCtr ws code i n at s h = refl
effect_goes_on (Load g seen) ws code i n at s h = access_goes seen g (be32 code i) _ _
effect_goes_on (Store g seen) ws code i n at s h = access_goes seen g (be32 code i) _ _
effect_goes_on (Clear k) ws code i n at s h = refl
effect_goes_on (Leaves way) ws code i n at s h = absurd (no (sym h ∙ way_leaves way ws at (be32 code i) s.ctr.value (cr_at s (bi_of (be32 code i) / 4))))

-- a word that leaves stops the run before it
stops : (x : Effect) (ws code : List ℕ) (i n : ℕ) (at : SectionAddress) (s : VM) → is_ended (leave_by x ws at (be32 code i) s) ≡ false
    → turned x ws code i n at s ≡ stopped_at (leave_by x ws at (be32 code i) s) at (went_of x ws at (be32 code i) s)
unfolding done_of leave_by went_of
stops Nothing ws code i n at s h = absurd (no h)
stops (SetD g) ws code i n at s h = absurd (no h)
stops (SetA g) ws code i n at s h = absurd (no h)
stops (Compare c g) ws code i n at s h = absurd (no h)
stops (ToLr v) ws code i n at s h = absurd (no h)
stops (ToCtr v) ws code i n at s h = absurd (no h)
stops FromLr ws code i n at s h = absurd (no h)
stops FromCtr ws code i n at s h = absurd (no h)
stops (Load g seen) ws code i n at s h = absurd (no h)
stops (Store g seen) ws code i n at s h = absurd (no h)
stops (Clear k) ws code i n at s h = absurd (no h)
stops (Leaves way) ws code i n at s h = left_stops (leave_of way ws at (be32 code i) s.ctr.value (cr_at s (bi_of (be32 code i) / 4))) at s _ _

-- the loop's invariant: from here the run comes to r
pub record Running (ws code : List ℕ) (r : Stopped) (i : ℕ) (p : SectionAddress) (t : VM) : Type 0 where
  pub comes : run_of ws code i ((length code - i) / 4) p t ≡ r
  pub inside : i ≤ length code

pub run_starts : (ws code : List ℕ) (p : SectionAddress) (t : VM) → Running ws code (run_of ws code 0 (length code / 4) p t) 0 p t
run_starts ws code p t = record { comes = ap (λ (n : ℕ). run_of ws code 0 (n / 4) p t) (omega arith); inside = omega arith }

-- the run from here is a turn, then the rest
split_off : {ws code : List ℕ} {r : Stopped} {i : ℕ} {p : SectionAddress} {t : VM}
    → Running ws code r i p t → 4 ≤ length code - i → turned (effect_in ws p (be32 code i) t) ws code i ((length code - (i + 4)) / 4) p t ≡ r
unfolding run_of step_of
split_off {ws} {code} {r} {i} {p} {t} run room =
    let n : suc ((length code - (i + 4)) / 4) ≡ (length code - i) / 4 = omega arith in
    ap (λ (k : ℕ). run_of ws code i k p t) n ∙ run.comes

-- a word that goes on: the invariant holds of the next place and the new state
pub step_on : {ws code : List ℕ} {r : Stopped} {i w : ℕ} {p q : SectionAddress} {t u : VM} {l : Leave}
    → Running ws code r i p t → 4 ≤ length code - i → w ≡ be32 code i → l ≡ leave_by (effect_in ws p w t) ws p w t → is_ended l ≡ true
    → q ≡ moved p 4 → u ≡ went_of (effect_in ws p w t) ws p w t → Running ws code r (i + 4) q u
step_on {ws} {code} {r} {i} {w} {p} {q} {t} {u} {l} run room ew el h eq eu =
    let e : is_ended (leave_by (effect_in ws p (be32 code i) t) ws p (be32 code i) t) ≡ true = rw (← ew, ← el) h in
    let v : u ≡ went_of (effect_in ws p (be32 code i) t) ws p (be32 code i) t = rw (← ew) eu in
    let n = (length code - (i + 4)) / 4 in
    record {
      comes = rw (eq, v) (sym (effect_goes_on (effect_in ws p (be32 code i) t) ws code i n p t e) ∙ split_off run room);
      inside = omega arith;
    }

-- a word that leaves: the run stops before it
pub step_off : {ws code : List ℕ} {r : Stopped} {i w : ℕ} {p : SectionAddress} {t : VM} {l : Leave}
    → Running ws code r i p t → 4 ≤ length code - i → w ≡ be32 code i → l ≡ leave_by (effect_in ws p w t) ws p w t → is_ended l ≡ false
    → stopped_at l p (went_of (effect_in ws p w t) ws p w t) ≡ r
step_off {ws} {code} {r} {i} {w} {p} {t} {l} run room ew el h =
    let e : is_ended (leave_by (effect_in ws p (be32 code i) t) ws p (be32 code i) t) ≡ false = rw (← ew, ← el) h in
    let n = (length code - (i + 4)) / 4 in
    rw (el, ew) (sym (stops (effect_in ws p (be32 code i) t) ws code i n p t e) ∙ split_off run room)

-- no word is left
pub run_ends : {ws code : List ℕ} {r : Stopped} {i : ℕ} {p : SectionAddress} {t : VM}
    → Running ws code r i p t → length code - i < 4 → stopped_at Ended p t ≡ r
unfolding run_of
run_ends {ws} {code} {r} {i} {p} {t} run few =
    let n : (length code - i) / 4 ≡ 0 = omega arith in
    ap (λ (k : ℕ). run_of ws code i k p t) (sym n) ∙ run.comes
