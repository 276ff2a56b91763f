-- `decoder::table::entry_of` meets its contract. 19 and 31 are looked up by the extended opcode, any other primary by itself.
use mathlib.Core.Path.{◌≡◌, refl, sym, ap, ◌∙◌}
use Prim.Native.Nat.{ℕ, ◌<◌}
use native.Mathlib.Omega.{arith}
use Rattle.words.specs.Word.{field}
use Rattle.words.proofs.Tabulate.{tabulate}
use Rattle.decoder.specs.Table.{rows, first, coded}
use Rattle.decoder.proofs.Columns.{listed, row_extended, row_primary}
use Rattle.decoder.proofs.table.entry_of.Goals as goal

pub returns-then-p-eq31 : goal.returns-then-p-eq31
unfolding tabulate rows first
returns-then-p-eq31 c =
    let w = c.args.w in
    let x : ℕ = c.xo-x.result in
    let h : x < 1024 = omega arith in
    listed (λ (y : ℕ). coded (first rows 31 y)) 1024 x h
    ∙ ap (λ (y : ℕ). coded (first rows 31 y)) c.xo-x.ensures
    ∙ ap coded (row_extended w 31 (sym c.opcd-p.ensures ∙ c.if-p-eq31.true) refl)

pub returns-then-p-eq19 : goal.returns-then-p-eq19
unfolding tabulate rows first
returns-then-p-eq19 c =
    let w = c.args.w in
    let x : ℕ = c.xo-x.result in
    let h : x < 1024 = omega arith in
    listed (λ (y : ℕ). coded (first rows 19 y)) 1024 x h
    ∙ ap (λ (y : ℕ). coded (first rows 19 y)) c.xo-x.ensures
    ∙ ap coded (row_extended w 19 (sym c.opcd-p.ensures ∙ c.if-p-eq19.true) refl)

pub returns-else-p-eq19 : goal.returns-else-p-eq19
unfolding tabulate rows first
returns-else-p-eq19 c =
    let w = c.args.w in
    let p : ℕ = c.opcd-p.result in
    let e : p ≡ field w 0 5 = c.opcd-p.ensures in
    let h : p < 64 = omega arith in
    listed (λ (q : ℕ). coded (first rows q 0)) 64 p h
    ∙ ap (λ (q : ℕ). coded (first rows q 0)) e
    ∙ ap coded (row_primary w (λ z. c.if-p-eq19.false (e ∙ z)) (λ z. c.if-p-eq31.false (e ∙ z)))
