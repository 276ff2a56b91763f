-- One step: what an effect does to the state, and the refusals of the public function.
-- Assumes nothing.
use Rattle.std.specs.Prelude.{ℕ, ◌/◌, List, Result, Ok, Err, ⊤, Option, Some, None}
use Rattle.words.specs.Choice.{pick}
use Rattle.places.specs.declared.SectionAddress.{SectionAddress}
use Rattle.decoder.specs.declared.Writes.{Writes}
use Rattle.decoder.specs.Decode.{decoded}
use Rattle.decoder.specs.Written.{writes_by, blank_where}
use Rattle.image.specs.Rules.{sound}
use Rattle.lookups.specs.Code.{code_place}
use Rattle.vm.specs.declared.Gpr.{Gpr}
use Rattle.vm.specs.declared.VM.{VM}
use Rattle.vm.specs.Registers.{direct, blank, reg, with_gprs, with_reg, with_compare, with_lr, with_ctr, cr_at}
use Rattle.step.specs.declared.Effect.{Effect}
use Rattle.step.specs.declared.Effect.TheVariants.{Nothing, SetD, SetA, Compare, ToLr, ToCtr, FromLr, FromCtr, Load, Store, Clear, Leaves}
use Rattle.step.specs.declared.Refusal.{Refusal}
use Rattle.step.specs.declared.Refusal.TheVariants.{BrokenImage, NotCode, Misaligned}
use Rattle.step.specs.declared.StepResult.{StepResult}
use Rattle.step.specs.declared.StepResult.TheVariants as result
use Rattle.step.specs.declared.Stepped.{Stepped}
use Rattle.step.specs.Arms.{rd_of, ra_of, rb_of, crfd_of, effect_of}
use Rattle.step.specs.Ways.{bi_of, leave_of, left_of}
use Rattle.lookups.specs.declared.PlaceError.TheVariants as place
use Rattle.lookups.specs.declared.PlaceError.{PlaceError}
use Rattle.places.specs.declared.RelocationTarget.{RelocationTarget}

abbrev pub goes_on : VM → Stepped
goes_on s = record { result = result.Continue; vm = s; other = s }

abbrev pub access_result : Option RelocationTarget → Gpr → ℕ → StepResult
access_result (Some t) source w = result.LoadStore t source (ra_of w)
access_result None source w = result.Continue

abbrev pub accessed : Option RelocationTarget → Gpr → ℕ → VM → Stepped
accessed seen source w s = record { result = access_result seen source w; vm = s; other = s }

-- every register that a word of this kind writes becomes Unknown
unfoldable pub cleared_of : Writes → ℕ → VM → VM
cleared_of kind w s = with_gprs s (blank_where blank (writes_by kind w) 0 s.gpr)

-- the effect, carried out
unfoldable pub done_of : Effect → List ℕ → SectionAddress → ℕ → VM → Stepped
done_of Nothing ws at w s = goes_on s
done_of (SetD g) ws at w s = goes_on (with_reg s (rd_of w) g)
done_of (SetA g) ws at w s = goes_on (with_reg s (ra_of w) g)
done_of (Compare c g) ws at w s = goes_on (with_compare s (crfd_of w) c (ra_of w) g)
done_of (ToLr v) ws at w s = goes_on (with_lr s v)
done_of (ToCtr v) ws at w s = goes_on (with_ctr s v)
done_of FromLr ws at w s = goes_on (with_reg s (rd_of w) (direct s.lr.value))
done_of FromCtr ws at w s = goes_on (with_reg s (rd_of w) (direct s.ctr.value))
done_of (Load base seen) ws at w s = accessed seen base w (with_reg (with_reg s (ra_of w) base) (rd_of w) blank)
done_of (Store base seen) ws at w s = accessed seen base w (with_reg s (ra_of w) base)
done_of (Clear kind) ws at w s = goes_on (cleared_of kind w s)
done_of (Leaves way) ws at w s = left_of (leave_of way ws at w s.ctr.value (cr_at s (bi_of w / 4))) at s

-- what the word w does in state s
abbrev pub effect_in : List ℕ → SectionAddress → ℕ → VM → Effect
effect_in ws at w s = effect_of (decoded w) ws at w (reg s (rd_of w)) (reg s (ra_of w)) (reg s (rb_of w))

-- one step: the word w at a place of the image with these tables
unfoldable pub step_of : List ℕ → SectionAddress → ℕ → VM → Stepped
step_of ws at w s = done_of (effect_in ws at w s) ws at w s

-- a refusal hands the state back
abbrev pub refused_of : Refusal → VM → Stepped
refused_of why s = record { result = result.Refused why; vm = s; other = s }

-- 2, 3, or the step
abbrev pub placed_of : Result ⊤ PlaceError → List ℕ → SectionAddress → ℕ → VM → Stepped
placed_of (Err place.NotCode) ws at w s = refused_of NotCode s
placed_of (Err place.Misaligned) ws at w s = refused_of Misaligned s
placed_of (Ok tt) ws at w s = step_of ws at w s

-- `step` over a buffer of n bytes: 1, 2, 3, or the step
abbrev pub stepped_of : List ℕ → ℕ → SectionAddress → ℕ → VM → Stepped
stepped_of ws n at w s = pick (sound ws n) (placed_of (code_place ws at) ws at w s) (refused_of BrokenImage s)

abbrev pub refusal_number : Refusal → ℕ
refusal_number BrokenImage = 1
refusal_number NotCode = 2
refusal_number Misaligned = 3

-- the number of document 01 of each answer; 0 for no refusal
abbrev pub answer_of : StepResult → ℕ
answer_of result.Continue = 0
answer_of (result.LoadStore t g a) = 0
answer_of result.Illegal = 0
answer_of (result.Jump t) = 0
answer_of (result.Branch b c) = 0
answer_of (result.Refused why) = refusal_number why
