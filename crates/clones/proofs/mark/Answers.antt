-- Where both tests hold the register is marked with the field; any other stays as it is.
use mathlib.Core.Bool.{true, false}
use mathlib.Core.Path.{◌≡◌, sym, ap, ◌∙◌, subst}
use Prim.Native.Nat.{◌+◌, ◌*◌, ◌<◌}
use native.Mathlib.Omega.{arith}
use borrow.Author.Tests.{eq-eqb, ne_eqb}
use lib.Dec.{eqb}
use Rattle.cells.proofs.CellLaws.{cells_long}
use Rattle.cells.specs.Cells.{state_of}
use Rattle.slot.specs.Layout.{register_words}
use Rattle.slot.specs.Put.{put}
use Rattle.slot.specs.Values.{mark_of}
use Rattle.vm.specs.Registers.{reg}
use Rattle.vm.specs.Values.{on_mark}
use Rattle.vm.specs.declared.Gpr.{Gpr}
use Rattle.vm.specs.declared.VM.{VM}
use Rattle.clones.proofs.ResultLaws.{value_marked, value_other, mark_in}
use Rattle.clones.proofs.mark.Goals as goal

pub bounds-cells-from : goal.bounds-cells-from
bounds-cells-from c = omega (arith, cells_long c.requires.1, c.requires.2)

pub bounds-cells-from-then-cells-from-eq4 : goal.bounds-cells-from-then-cells-from-eq4
bounds-cells-from-then-cells-from-eq4 c = omega (arith, cells_long c.requires.1, c.requires.2)

pub put_marked-requires : goal.put_marked-requires
put_marked-requires c = (c.requires.0, omega (arith, cells_long c.requires.1), c.requires.2)

pub returns-then-cells-from : goal.returns-then-cells-from
returns-then-cells-from c =
    let a = c.args in
    let s : VM = state_of a.cells.now in
    let t : on_mark (reg s a.k).value (λ j. eqb j a.crf) false ≡ true =
    sym (mark_in a.cells.now s a.k a.crf c.requires.1 c.requires.2) ∙ rw (eq-eqb _ _ c.if-cells-from-eq4.true, eq-eqb _ _ (c.if-cells-from.true ∙ c.from.ensures)) in
    let e = value_marked s a.value a.crf a.k t in (
      λ h. c.put_marked.ensures.0 ∙ ap (λ (g : Gpr). put a.words.now (a.at + a.k * 8) (register_words g)) e,
      subst (λ (g : Gpr). mark_of g.value < 256) e c.put_marked.ensures.1,
    )

pub returns-else-cells-from : goal.returns-else-cells-from
returns-else-cells-from c =
    let a = c.args in
    let s : VM = state_of a.cells.now in
    let t : on_mark (reg s a.k).value (λ j. eqb j a.crf) false ≡ false =
    sym (mark_in a.cells.now s a.k a.crf c.requires.1 c.requires.2) ∙ rw (eq-eqb _ _ c.if-cells-from-eq4.true, ne_eqb _ _ (λ e. c.if-cells-from.false (e ∙ sym c.from.ensures))) in
    let e = value_other s a.value a.crf a.k t in
    (λ h. h ∙ ap (λ (g : Gpr). put a.words.now (a.at + a.k * 8) (register_words g)) e, subst (λ (g : Gpr). mark_of g.value < 256) e (c.requires.1.fits.gprs a.k c.requires.2))

pub returns-else-cells-from-eq4 : goal.returns-else-cells-from-eq4
returns-else-cells-from-eq4 c =
    let a = c.args in
    let s : VM = state_of a.cells.now in
    let t : on_mark (reg s a.k).value (λ j. eqb j a.crf) false ≡ false =
    sym (mark_in a.cells.now s a.k a.crf c.requires.1 c.requires.2) ∙ rw (ne_eqb _ _ c.if-cells-from-eq4.false) in
    let e = value_other s a.value a.crf a.k t in
    (λ h. h ∙ ap (λ (g : Gpr). put a.words.now (a.at + a.k * 8) (register_words g)) e, subst (λ (g : Gpr). mark_of g.value < 256) e (c.requires.1.fits.gprs a.k c.requires.2))
