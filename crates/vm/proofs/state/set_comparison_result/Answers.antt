-- The registers below the place of the loop are done.
use Rattle.std.proofs.Common.{◌≡◌, ◌<◌, length, sym, ap, ◌∙◌, arith, rules}
use lib.ListN.{set}
use Rattle.vm.specs.States.{result_of}
use Rattle.vm.specs.Registers.{blank, with_gprs}
use Rattle.vm.proofs.Values.{result_by}
use Rattle.vm.proofs.Lists.{map_next, map_to_all}
use Rattle.vm.proofs.state.set_comparison_result.Goals as goal
use Rattle.vm.proofs.state.set_comparison_result.Goals.{then-is_marked, else-is_marked}

pub loop-g-preserved : goal.loop-g-preserved
loop-g-preserved c =
    let p = c.args in
    let q = c.loop-g in
    let n : length p.s.gpr ≡ 32 = search rules in
    let h : q.g-index < length p.s.gpr = omega arith in
    let f = result_of p.value p.crf in
    elim c.if-is_marked.branch [
      | then-is_marked w ↦
          w.g-items-is
          ∙ ap (set q.g-items q.g-index) (result_by p.value p.crf _ _ (sym w.if-is_marked.true ∙ c.is_marked.ensures))
          ∙ map_next f p.s.gpr q.g-items q.g-index blank q.invariant h
      | else-is_marked w ↦
          w.g-items-is
          ∙ ap (set q.g-items q.g-index) (result_by p.value p.crf _ _ (sym w.if-is_marked.false ∙ c.is_marked.ensures))
          ∙ map_next f p.s.gpr q.g-items q.g-index blank q.invariant h
    ]

pub returns : goal.returns
returns c =
    let p = c.args in
    let q = c.loop-g in
    let n : length p.s.gpr ≡ 32 = search rules in
    let e : q.g-index ≡ length p.s.gpr = omega arith in
    ap (with_gprs p.s) (q.invariant ∙ rw e (map_to_all (result_of p.value p.crf) p.s.gpr))
