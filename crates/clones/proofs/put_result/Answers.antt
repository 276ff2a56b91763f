-- The loop's invariant: the registers below four times the loop's number are done.
use mathlib.Core.List.{List}
use mathlib.Core.Path.{◌≡◌, refl, sym, ap, ◌∙◌, subst}
use Prim.Native.Nat.{ℕ, ◌+◌, ◌*◌, ◌<◌}
use native.Mathlib.Omega.{arith}
use Rattle.cells.proofs.CellLaws.{cells_long}
use Rattle.cells.specs.Cells.{state_of}
use Rattle.slot.proofs.SlotLaws.{state_length}
use Rattle.slot.specs.Fits.{Fits}
use Rattle.slot.specs.Layout.{state_words}
use Rattle.slot.specs.Put.{put}
use Rattle.vm.specs.States.{with_result}
use Rattle.vm.specs.declared.VM.{VM}
use Rattle.clones.proofs.CloneLaws.{cells_whole}
use Rattle.clones.proofs.OverLaws.{put_again, put_over}
use Rattle.clones.proofs.ResultLaws.{done_more, result_to, result_all}
use Rattle.clones.proofs.put_result.Goals as goal

pub copy-requires : goal.copy-requires
copy-requires c = (omega arith, omega (arith, cells_long c.requires.1))

pub loop-i-init : goal.loop-i-init
loop-i-init c =
    let s : VM = state_of c.args.cells.now in
    let w = c.copy.ensures ∙ ap (put c.args.words.now c.args.at) (cells_whole c.args.cells.now s c.requires.1) in (
      refl,
      omega (arith, c.copy.auto.to),
      record { words = put_again c.args.words.now _ c.args.at (state_words s) (omega (arith, state_length s)) w; fits = c.requires.1.fits },
    )

pub loop-i-preserved : goal.loop-i-preserved
loop-i-preserved c =
    let a = c.args in
    let k : ℕ = c.loop-i.i * 4 in
    let low : k + 3 < 32 = omega arith in
    let count = c.requires.1.fits.gpr_count in
    let more = done_more (state_of a.cells.now) a.value a.crf c.copy.new.to a.at c.loop-i.invariant.1 in
    let one = more k (k + 1) c.loop-i.words c.mark.new.words (omega arith) (omega (arith, count)) refl c.loop-i.invariant.2 c.mark.ensures.0 c.mark.ensures.1 in
    let two = more (k + 1) (k + 2) c.mark.new.words c.mark-in-loop-i.new.words (omega arith) (omega (arith, count)) (omega arith) one c.mark-in-loop-i.ensures.0 c.mark-in-loop-i.ensures.1 in
    let three = more (k + 2) (k + 3) c.mark-in-loop-i.new.words c.mark-in-loop-i-2.new.words (omega arith) (omega (arith, count)) (omega arith) two c.mark-in-loop-i-2.ensures.0 c.mark-in-loop-i-2.ensures.1 in
    let four = more (k + 3) ((c.loop-i.i + 1) * 4) c.mark-in-loop-i-2.new.words c.mark-in-loop-i-3.new.words (omega arith) (omega (arith, count)) (omega arith) three c.mark-in-loop-i-3.ensures.0 c.mark-in-loop-i-3.ensures.1 in
    (c.mark-in-loop-i-3.auto.words ∙ c.mark-in-loop-i-2.auto.words ∙ c.mark-in-loop-i.auto.words ∙ c.mark.auto.words ∙ c.loop-i.invariant.0, c.loop-i.invariant.1, four)

pub returns : goal.returns
returns c =
    let a = c.args in
    let ws : List ℕ = a.words.now in
    let s : VM = state_of a.cells.now in
    let t : VM = with_result s a.value a.crf in
    let n : result_to s a.value a.crf (c.loop-i.i * 4) ≡ t = result_all s a.value a.crf (c.loop-i.i * 4) (omega (arith, c.requires.1.fits.gpr_count, c.loop-i-test.false)) in
    let w = c.copy.ensures ∙ ap (put ws a.at) (cells_whole a.cells.now s c.requires.1) in (
      c.loop-i.invariant.2.words
          ∙ ap (λ (u : VM). put c.copy.new.to a.at (state_words u)) n
          ∙ ap (λ (us : List ℕ). put us a.at (state_words t)) w
          ∙ put_over ws a.at (state_words s) (state_words t) (state_length s ∙ sym (state_length t)) (omega (arith, state_length s, c.requires.0)),
      subst Fits n c.loop-i.invariant.2.fits,
    )
