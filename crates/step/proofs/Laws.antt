-- What the layers above use of a step: whole states stay whole, and the paper's number of each answer.
-- Assumes nothing.
use Rattle.std.specs.Prelude.{Result, Ok, Err, ⊤, Option, Some, None}
use mathlib.Core.Path.{◌≡◌, refl, ap, ◌∙◌}
use mathlib.Core.Bool.{Bool, true, false}
use mathlib.Core.List.{List, [], ◌∷◌}
use Prim.Native.Nat.{ℕ, suc}
use lib.ListN.{length}
use Rattle.words.specs.Choice.{pick}
use Rattle.words.proofs.Unique.{allowed_once}
use Rattle.places.specs.declared.SectionAddress.{SectionAddress}
use Rattle.decoder.specs.Written.{blank_where}
use Rattle.image.specs.Rules.{sound}
use Rattle.lookups.specs.Code.{code_place}
use Rattle.lookups.specs.Code as code
use Rattle.vm.specs.declared.Gpr.{Gpr}
use Rattle.vm.specs.declared.VM.{VM}
use Rattle.vm.proofs.Whole.{Whole, whole_gprs, whole_reg, whole_compare, whole_lr, whole_ctr, whole_link, whole_return, whole_result}
use Rattle.step.specs.declared.Effect.{Effect}
use Rattle.step.specs.declared.Effect.TheVariants.{Nothing, SetD, SetA, Compare, ToLr, ToCtr, FromLr, FromCtr, Load, Store, Clear, Leaves}
use Rattle.step.specs.declared.Leave.{Leave}
use Rattle.step.specs.declared.Leave.TheVariants.{Ended, Illegal, Jump, Call, Fork, Both}
use Rattle.step.specs.declared.Stepped.{Stepped}
use Rattle.step.specs.Ways.{left_of}
use Rattle.step.specs.Step.{access_result, cleared_of, done_of, step_of, placed_of, stepped_of, answer_of}
use Rattle.lookups.specs.declared.PlaceError.TheVariants as place
use Rattle.lookups.specs.declared.PlaceError.{PlaceError}
use Rattle.places.specs.declared.RelocationTarget.{RelocationTarget}

length_blank : {A : Type 0} (b : A) (f : ℕ → Bool) (i : ℕ) (xs : List A) → length (blank_where b f i xs) ≡ length xs
unfolding blank_where
length_blank b f i [] = refl
length_blank b f i (x ∷ xs) = ap suc (length_blank b f (suc i) xs)

-- both states of a step
pub record Kept (r : Stepped) : Type 0 where
  pub vm : Whole r.vm
  pub other : Whole r.other

alike : {r : Stepped} → Whole r.vm → r.other ≡ r.vm → Kept r
alike {r} h e = record { vm = h; other = rw e h }

left_whole : (l : Leave) (at : SectionAddress) {s : VM} → Whole s → Kept (left_of l at s)
unfolding left_of
left_whole Ended at h = alike h refl
left_whole Illegal at h = alike h refl
left_whole (Jump t) at h = alike h refl
left_whole (Call t) at {s} h = record { vm = whole_return h; other = whole_link s }
left_whole (Fork t k v u) at h = record { vm = whole_result v k h; other = whole_result u k h }
left_whole (Both t) at h = alike h refl

done_whole : (e : Effect) (ws : List ℕ) (at : SectionAddress) (w : ℕ) {s : VM} → Whole s → Kept (done_of e ws at w s)
unfolding done_of cleared_of
done_whole Nothing ws at w h = alike h refl
done_whole (SetD g) ws at w h = alike (whole_reg _ g h) refl
done_whole (SetA g) ws at w h = alike (whole_reg _ g h) refl
done_whole (Compare c g) ws at w h = alike (whole_compare _ c _ g h) refl
done_whole (ToLr v) ws at w h = alike (whole_lr v h) refl
done_whole (ToCtr v) ws at w h = alike (whole_ctr v h) refl
done_whole FromLr ws at w h = alike (whole_reg _ _ h) refl
done_whole FromCtr ws at w h = alike (whole_reg _ _ h) refl
done_whole (Load g t) ws at w h = alike (whole_reg _ _ (whole_reg _ g h)) refl
done_whole (Store g t) ws at w h = alike (whole_reg _ g h) refl
done_whole (Clear k) ws at w {s} h = alike (whole_gprs _ h (length_blank _ _ 0 s.gpr ∙ h.gprs)) refl
done_whole (Leaves way) ws at w h = left_whole _ at h

-- a step of a whole state gives whole states
pub step_whole : (ws : List ℕ) (at : SectionAddress) (w : ℕ) {s : VM} → Whole s → Kept (step_of ws at w s)
unfolding step_of
step_whole ws at w h = done_whole _ ws at w h

access_answers : (seen : Option RelocationTarget) (g : Gpr) (w : ℕ) → answer_of (access_result seen g w) ≡ 0
access_answers (Some t) g w = refl
access_answers None g w = refl

left_answers : (l : Leave) (at : SectionAddress) (s : VM) → answer_of (left_of l at s).result ≡ 0
unfolding left_of
left_answers Ended at s = refl
left_answers Illegal at s = refl
left_answers (Jump t) at s = refl
left_answers (Call t) at s = refl
left_answers (Fork t k v u) at s = refl
left_answers (Both t) at s = refl

done_answers : (e : Effect) (ws : List ℕ) (at : SectionAddress) (w : ℕ) (s : VM) → answer_of (done_of e ws at w s).result ≡ 0
unfolding done_of
done_answers Nothing ws at w s = refl
done_answers (SetD g) ws at w s = refl
done_answers (SetA g) ws at w s = refl
done_answers (Compare c g) ws at w s = refl
done_answers (ToLr v) ws at w s = refl
done_answers (ToCtr v) ws at w s = refl
done_answers FromLr ws at w s = refl
done_answers FromCtr ws at w s = refl
done_answers (Load g t) ws at w s = access_answers t g w
done_answers (Store g t) ws at w s = access_answers t g w
done_answers (Clear k) ws at w s = refl
done_answers (Leaves way) ws at w s = left_answers _ at s

-- a step itself refuses nothing
pub step_answers : (ws : List ℕ) (at : SectionAddress) (w : ℕ) (s : VM) → answer_of (step_of ws at w s).result ≡ 0
unfolding step_of
step_answers ws at w s = done_answers _ ws at w s

placed_answers : (p : Result ⊤ PlaceError) (ws : List ℕ) (at : SectionAddress) (w : ℕ) (s : VM) → answer_of (placed_of p ws at w s).result ≡ code.answer_of p
placed_answers (Err place.NotCode) ws at w s = refl
placed_answers (Err place.Misaligned) ws at w s = refl
placed_answers (Ok tt) ws at w s = step_answers ws at w s

picked : (b : Bool) (r q : Stepped) → answer_of (pick b r q).result ≡ pick b (answer_of r.result) (answer_of q.result)
picked true r q = refl
picked false r q = refl

-- 1 exactly for a broken image, then 2, then 3, as the judge of places says; else 0
pub stepped_answers : (ws : List ℕ) (n : ℕ) (at : SectionAddress) (w : ℕ) (s : VM)
    → answer_of (stepped_of ws n at w s).result ≡ pick (sound ws n) (code.answer_of (code_place ws at)) 1
stepped_answers ws n at w s =
    picked (sound ws n) _ _ ∙ ap (λ (k : ℕ). pick (sound ws n) k 1) (placed_answers (code_place ws at) ws at w s)

-- what `step` promises allows one result
pub step_once : (ws : List ℕ) (n : ℕ) (at : SectionAddress) (w : ℕ) (s : VM) {r q : Stepped}
    → r ≡ stepped_of ws n at w s → q ≡ stepped_of ws n at w s → r ≡ q
step_once ws n at w s = allowed_once
