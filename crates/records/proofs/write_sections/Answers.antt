use Rattle.std.proofs.Common.{◌≡◌, Ok, List, ℕ, ◌+◌, ◌∙◌, sym, ap, length, drop, arith}
use Rattle.records.specs.Written.{written}
use Rattle.records.proofs.Read.{answer_fits}
use Rattle.records.proofs.WrittenLaws.{with_from, from_more, from_done}
use Rattle.records.proofs.write_sections.Goals as goal

pub loop-i-preserved : goal.loop-i-preserved
loop-i-preserved c =
    let t = c.args.t.now in
    let i = c.loop-i.i in
    c.loop-i.invariant ∙ from_more c.loop-i.words t i c.loop-i-test.true ∙ ap (λ (zs : List ℕ). with_from zs (i + 1) (drop (i + 1) t)) (sym c.put_section.ensures)

pub returns : goal.returns
returns c =
    let t = c.args.t.now in
    let e : Ok c.in_ok-n.n ≡ written (length t) (length c.args.words.now) = c.in_ok-n.ensures in
    (e, rw (answer_fits (length t) (length c.args.words.now) _ (sym e)).0 (sym (c.loop-i.invariant ∙ from_done c.loop-i.words t c.loop-i.i (omega arith))))
