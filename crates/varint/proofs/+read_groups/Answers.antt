use Rattle.std.proofs.Common.{◌∙◌, sym, ap, get_or, arith}
use Rattle.varint.specs.Groups.{joined}
use Rattle.varint.proofs.GroupLaws.{read_end, read_last, read_cut, read_more, joined_zero, joined_large, joined_fits}
use Rattle.varint.proofs.+read_groups.Goals as goal

pub returns-then-s-at : goal.returns-then-s-at
returns-then-s-at t c = sym (read_end c.args.s.now c.args.left c.args.at (omega arith))

pub returns-then-b-lt128 : goal.returns-then-b-lt128
returns-then-b-lt128 t c = sym (read_last c.args.s.now c.args.left c.args.at (omega arith) (omega arith))

pub returns-then-left-eq0 : goal.returns-then-left-eq0
returns-then-left-eq0 t c =
    sym (read_cut c.args.s.now c.args.left c.args.at (omega arith) (omega arith) (omega arith))

pub returns-then-m-eq0 : goal.returns-then-m-eq0
returns-then-m-eq0 t c =
    let a = c.args in
    let b = get_or a.s.now a.at 0 in
    let g = c.in_ok-m in
    sym (read_more a.s.now a.left a.at (omega arith) (omega arith) c.if-left-eq0.false ∙ ap (joined b) (sym g.ensures) ∙ joined_zero b g.m g.e c.if-m-eq0.true)

pub returns-then-m-ge33554432 : goal.returns-then-m-ge33554432
returns-then-m-ge33554432 t c =
    let a = c.args in
    let b = get_or a.s.now a.at 0 in
    let g = c.in_ok-m in
    sym (read_more a.s.now a.left a.at (omega arith) (omega arith) c.if-left-eq0.false ∙ ap (joined b) (sym g.ensures) ∙ joined_large b g.m g.e (omega arith))

pub returns : goal.returns
returns t c =
    let a = c.args in
    let b = get_or a.s.now a.at 0 in
    let g = c.in_ok-m in
    sym (read_more a.s.now a.left a.at (omega arith) (omega arith) c.if-left-eq0.false ∙ ap (joined b) (sym g.ensures) ∙ joined_fits b g.m g.e c.if-m-eq0.false (omega arith))

pub returns-in_err-m : goal.returns-in_err-m
returns-in_err-m t c =
    let a = c.args in
    let b = get_or a.s.now a.at 0 in
    c.from_residual.ensures ∙ sym (read_more a.s.now a.left a.at (omega arith) (omega arith) c.if-left-eq0.false ∙ ap (joined b) (sym c.read_groups.ensures ∙ c.in_err-m.was))
