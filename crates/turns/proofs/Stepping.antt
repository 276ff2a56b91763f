-- What a step's result asks of the walk, by whether it goes on or leaves.
-- Assumes nothing.
use Rattle.std.specs.Prelude.{Option, Some, None}
use Prim.Native.Nat.{ℕ, ◌/◌, ◌%◌}
use mathlib.Core.Path.{◌≡◌, refl, sym}
use mathlib.Core.Bool.{Bool, true, false, ◌&&◌, true≢false}
use mathlib.Core.List.{List}
use lib.Bits.{bit_and}
use lib.Dec.{eqb}
use Rattle.words.specs.Choice.{pick}
use Rattle.words.specs.Word.{flag}
use Rattle.places.specs.declared.SectionAddress.{SectionAddress}
use Rattle.vm.specs.declared.VM.{VM}
use Rattle.vm.specs.declared.Gpr.{Gpr}
use Rattle.vm.specs.declared.Cr.{Cr}
use Rattle.vm.specs.declared.GprValue.{GprValue}
use Rattle.vm.specs.declared.BranchTarget.{BranchTarget}
use Rattle.vm.specs.Splits.{split_of}
use Rattle.vm.specs.declared.BranchTarget.TheVariants as branch
use Rattle.step.specs.declared.Effect.{Effect}
use Rattle.step.specs.declared.Effect.TheVariants.{Nothing, SetD, SetA, Compare, ToLr, ToCtr, FromLr, FromCtr, Load, Store, Clear, Leaves}
use Rattle.step.specs.declared.Leave.{Leave}
use Rattle.step.specs.declared.Leave.TheVariants as leave
use Rattle.step.specs.declared.Way.{Way}
use Rattle.step.specs.declared.Way.TheVariants as way
use Rattle.step.specs.declared.StepResult.{StepResult}
use Rattle.step.specs.declared.StepResult.TheVariants as result
use Rattle.step.specs.declared.Stepped.{Stepped}
use Rattle.step.specs.Ways.{bo_of, bi_of, dest_target, leave_of, left_of, branch_of, conditional_of, always_of}
use Rattle.step.specs.Step.{access_result, done_of, effect_in, step_of}
use Rattle.step.specs.Runs.{on_going, leave_by}
use Rattle.turns.specs.Grounds.{on}
use Rattle.turns.specs.Moves.{word_of, move_by, move_at}
use Rattle.turns.specs.Straight.{is_ended, leaving}
use Rattle.places.specs.declared.RelocationTarget.{RelocationTarget}

-- the result goes on to the next word
abbrev pub goes_on : StepResult → Bool
goes_on x = on_going x true false

pub going_by : {B : Type 0} (x : StepResult) (a b : B) → on_going x a b ≡ pick (goes_on x) a b
going_by result.Continue a b = refl
going_by (result.LoadStore t g r) a b = refl
going_by result.Illegal a b = refl
going_by (result.Jump t) a b = refl
going_by (result.Branch x y) a b = refl
going_by (result.Refused why) a b = refl

move_on : (p : SectionAddress) (x : StepResult) (s o : VM) → goes_on x ≡ true → move_by p x s o ≡ on s
unfolding move_by
move_on p result.Continue s o e = refl
move_on p (result.LoadStore t g r) s o e = refl
move_on p result.Illegal s o e = absurd (true≢false (sym e))
move_on p (result.Jump t) s o e = absurd (true≢false (sym e))
move_on p (result.Branch x y) s o e = absurd (true≢false (sym e))
move_on p (result.Refused why) s o e = absurd (true≢false (sym e))

-- a step that goes on
pub goes_move : (ws bs : List ℕ) (p : SectionAddress) (s : VM) → goes_on (step_of ws p (word_of ws bs p) s).result ≡ true
    → move_at ws bs p s ≡ on (step_of ws p (word_of ws bs p) s).vm
unfolding move_at
goes_move ws bs p s e =
    let r : Stepped = step_of ws p (word_of ws bs p) s in
    move_on p r.result r.vm r.other e

-- a load or store goes on
access_goes : (t : Option RelocationTarget) (g : Gpr) (w : ℕ) → goes_on (access_result t g w) ≡ true
access_goes (Some t) g w = refl
access_goes None g w = refl

-- no way of leaving is the section's end
either_way : (t : Bool) (a b : Leave) → is_ended a ≡ false → is_ended b ≡ false → is_ended (pick t a b) ≡ false
either_way true a b x y = x
either_way false a b x y = y

conditional_leaves : (w : ℕ) (t : BranchTarget) (c : Cr) → is_ended (conditional_of w t c) ≡ false
unfolding conditional_of
conditional_leaves w t c =
    either_way (eqb (bit_and (bo_of w) 0b11110) 0b00100)
    (leave.Fork t (bi_of w / 4) (split_of (bi_of w % 4) c).holds (split_of (bi_of w % 4) c).fails)
    (pick (eqb (bit_and (bo_of w) 0b11110) 0b01100) (leave.Fork t (bi_of w / 4) (split_of (bi_of w % 4) c).fails (split_of (bi_of w % 4) c).holds) (leave.Both t))
    refl
    (either_way (eqb (bit_and (bo_of w) 0b11110) 0b01100)
    (leave.Fork t (bi_of w / 4) (split_of (bi_of w % 4) c).fails (split_of (bi_of w % 4) c).holds) (leave.Both t) refl refl)

branch_leaves : (w : ℕ) (always : Bool) (t : BranchTarget) (c : Cr) → is_ended (branch_of w always t c) ≡ false
branch_leaves w always t c =
    either_way (flag w 31) (leave.Call t) (pick always (leave.Jump t) (conditional_of w t c)) refl
    (either_way always (leave.Jump t) (conditional_of w t c) refl (conditional_leaves w t c))

pub way_leaves : (y : Way) (ws : List ℕ) (at : SectionAddress) (w : ℕ) (v : GprValue) (c : Cr) → is_ended (leave_of y ws at w v c) ≡ false
unfolding leave_of
way_leaves way.Illegal ws at w v c = refl
way_leaves way.B ws at w v c = either_way (flag w 31 && flag w 30) (leave.Jump branch.Unknown) (branch_of w true (dest_target ws at w) c) refl (branch_leaves w true (dest_target ws at w) c)
way_leaves way.Bc ws at w v c = branch_leaves w (always_of w) _ c
way_leaves way.Bcctr ws at w v c = branch_leaves w (always_of w) _ c
way_leaves way.Bclr ws at w v c = branch_leaves w (always_of w) _ c
way_leaves way.Rfi ws at w v c = refl

-- a step that does not go on leaves
pub record Left (e : Effect) (ws : List ℕ) (at : SectionAddress) (w : ℕ) (s : VM) : Type 0 where
  pub done_is : done_of e ws at w s ≡ left_of (leave_by e ws at w s) at s
  pub not_end : is_ended (leave_by e ws at w s) ≡ false

effect_leaves : (e : Effect) (ws : List ℕ) (at : SectionAddress) (w : ℕ) (s : VM) → goes_on (done_of e ws at w s).result ≡ false → Left e ws at w s
unfolding done_of leave_by
effect_leaves Nothing ws at w s h = absurd (true≢false h)
effect_leaves (SetD g) ws at w s h = absurd (true≢false h)
effect_leaves (SetA g) ws at w s h = absurd (true≢false h)
effect_leaves (Compare c g) ws at w s h = absurd (true≢false h)
effect_leaves (ToLr v) ws at w s h = absurd (true≢false h)
effect_leaves (ToCtr v) ws at w s h = absurd (true≢false h)
effect_leaves FromLr ws at w s h = absurd (true≢false h)
effect_leaves FromCtr ws at w s h = absurd (true≢false h)
effect_leaves (Load g t) ws at w s h = absurd (true≢false (rw (access_goes t g w) at h))
effect_leaves (Store g t) ws at w s h = absurd (true≢false (rw (access_goes t g w) at h))
effect_leaves (Clear k) ws at w s h = absurd (true≢false h)
effect_leaves (Leaves y) ws at w s h = record { done_is = refl; not_end = way_leaves y ws at w _ _ }

pub step_leaves : (ws : List ℕ) (at : SectionAddress) (w : ℕ) (s : VM) → goes_on (step_of ws at w s).result ≡ false → Left (effect_in ws at w s) ws at w s
unfolding step_of
step_leaves ws at w s h = effect_leaves (effect_in ws at w s) ws at w s h

-- what such a word asks
pub leaves_move : (ws bs : List ℕ) (p : SectionAddress) (s : VM) → goes_on (step_of ws p (word_of ws bs p) s).result ≡ false
    → move_at ws bs p s ≡ leaving (leave_by (effect_in ws p (word_of ws bs p) s) ws p (word_of ws bs p) s) p s
unfolding move_at step_of
leaves_move ws bs p s h =
    rw (effect_leaves (effect_in ws p (word_of ws bs p) s) ws p (word_of ws bs p) s h).done_is
