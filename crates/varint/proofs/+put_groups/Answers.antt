use Rattle.std.proofs.Common.{List, ℕ, ◌-◌, ◌/◌, ◌∙◌, ap₂, add-one, arith}
use Rattle.std.proofs.lemmas.List.Edits.{sets}
use Rattle.varint.specs.Groups.{groups}
use Rattle.varint.proofs.GroupLaws.{last_group, no_group, more_groups}
use Rattle.varint.proofs.+put_groups.Goals as goal

pub returns-then-n-lt128 : goal.returns-then-n-lt128
returns-then-n-lt128 t c = rw (last_group c.args.left c.args.n (omega arith)) c.put_byte.ensures

pub returns-then-left-eq0 : goal.returns-then-left-eq0
returns-then-left-eq0 t c =
    rw (no_group c.args.left c.args.n (omega arith)) c.put_byte-then-left-eq0.ensures

pub returns : goal.returns
returns t c =
    let a = c.args in
    let q = c.put_byte-next.ensures in
    let r = c.put_groups.ensures in
    let gs : List ℕ = groups (a.left - 1) (a.n / 128) in
    rw (more_groups a.left a.n c.if-left-eq0.false (omega arith))
    (omega arith, r.1 ∙ ap₂ (λ (l : List ℕ) (k : ℕ). sets l k gs) q.1 (q.0 ∙ add-one a.at))
