-- `walk_image` meets its contract: its loop keeps `Kept`, each turn is one law of proofs/HeadSteps, and what it holds at its end is the answer.
use Prim.Native.Nat.{◌+◌}
use mathlib.Core.Path.{◌≡◌, sym, ◌∙◌}
use native.Mathlib.Omega.{arith}
use lib.ListN.{length}
use borrow.Author.Rules.{rules}
use Rattle.cells.proofs.CellLaws.{cells_state, cells_long}
use Rattle.runs.proofs.Carrying.{cells_own}
use Rattle.stack.specs.Stack.{room}
use Rattle.turns.proofs.SoundGround.{fine_place}
use Rattle.turns.specs.Walks.{given}
use Rattle.walk.proofs.HeadSteps.{turn_old, turn_follows, walk_refused, walk_held, walk_map, walk_top, walk_full, walk_empty, walk_below, walk_follows}
use Rattle.walk.proofs.walk_image.Goals as goal

pub returns-in-Err : goal.returns-in-Err
returns-in-Err c = let a = c.args in rw c.refused.ensures (walk_refused c.begin_image.ensures a.from a.upto a.entries.now c.in-Err.is)

pub returns-then-full : goal.returns-then-full
returns-then-full c =
    let a = c.args in
    walk_full c.begin_image.ensures a.from a.upto a.entries.now c.in-Ok.is c.loop-full.invariant.0 c.if-full.true

pub returns-then-held-eq0 : goal.returns-then-held-eq0
returns-then-held-eq0 c =
    let a = c.args in
    walk_empty c.begin_image.ensures a.from a.upto a.entries.now c.in-Ok.is c.loop-full.invariant.0 c.if-held-eq0.true c.if-full.false

pub top_place-p-requires : goal.top_place-p-requires
top_place-p-requires c =
    let a = c.args in
    let l = c.loop-full in
    (walk_held c.begin_image.ensures a.from a.upto a.entries.now c.in-Ok.is l.invariant.0, omega (arith, c.if-held-eq0.false))

pub word_number-requires : goal.word_number-requires
word_number-requires c =
    let a = c.args in
    let l = c.loop-full in
    (fine_place a.im.now.tables.words.now c.top_place-p.result (rw c.top_place-p.ensures (walk_top c.begin_image.ensures a.from a.upto a.entries.now c.in-Ok.is l.invariant.0 (omega (arith, c.if-held-eq0.false))))).0

pub loop-full-preserved-then-contains : goal.loop-full-preserved-then-contains
loop-full-preserved-then-contains c =
    let a = c.args in
    let l = c.loop-full in
    let old = rw (c.word_number.ensures, c.top_place-p.ensures) at (sym c.contains.ensures ∙ c.if-contains.true) in (
      λ starts two thirteen vis lent fine h. rw c.if-full.false (turn_old (given a.im.now.tables.words.now a.im.now.«data».now starts two thirteen a.from a.upto) vis lent fine (rw c.if-full.false at (l.invariant.0 starts two thirteen vis lent fine h)) (omega (arith, c.if-held-eq0.false)) old).0,
      l.invariant.1,
      l.invariant.2,
      l.invariant.3,
    )

pub top_cells-requires : goal.top_cells-requires
top_cells-requires c =
    let a = c.args in
    let l = c.loop-full in
    (walk_held c.begin_image.ensures a.from a.upto a.entries.now c.in-Ok.is l.invariant.0, omega (arith, c.if-held-eq0.false), l.invariant.3)

pub run_block-e-requires : goal.run_block-e-requires
run_block-e-requires c =
    let a = c.args in
    let l = c.loop-full in
    (walk_map c.begin_image.ensures a.from a.upto a.entries.now c.in-Ok.is l.invariant.0, rw c.top_place-p.ensures (walk_top c.begin_image.ensures a.from a.upto a.entries.now c.in-Ok.is l.invariant.0 (omega (arith, c.if-held-eq0.false))), cells_own c.top_cells.ensures)

pub follow-t-requires : goal.follow-t-requires
follow-t-requires c =
    let a = c.args in
    let l = c.loop-full in
    record {
      state = c.run_block-e.ensures.0;
      stack = (walk_below c.begin_image.ensures a.from a.upto a.entries.now c.in-Ok.is l.invariant.0 (omega (arith, c.if-held-eq0.false)) c.if-full.false, search rules);
    }

pub overflow_add-stepped : goal.overflow_add-stepped
overflow_add-stepped c =
    let a = c.args in
    let l = c.loop-full in
    record { fits = omega (arith, (walk_follows c.begin_image.ensures a.from a.upto a.entries.now c.in-Ok.is l.invariant.0 (omega (arith, c.if-held-eq0.false)) c.if-full.false (rw (c.word_number.ensures, c.top_place-p.ensures) at (sym c.contains.ensures ∙ c.if-contains.false)) (rw (c.top_place-p.ensures, cells_state c.top_cells.ensures) at c.run_block-e.ensures.1) c.follow-t.ensures).0.0) }

pub overflow_add-begun : goal.overflow_add-begun
overflow_add-begun c =
    let a = c.args in
    let l = c.loop-full in
    record { fits = omega (arith, (walk_follows c.begin_image.ensures a.from a.upto a.entries.now c.in-Ok.is l.invariant.0 (omega (arith, c.if-held-eq0.false)) c.if-full.false (rw (c.word_number.ensures, c.top_place-p.ensures) at (sym c.contains.ensures ∙ c.if-contains.false)) (rw (c.top_place-p.ensures, cells_state c.top_cells.ensures) at c.run_block-e.ensures.1) c.follow-t.ensures).0.1) }

pub overflow_add-begun-in-loop-full : goal.overflow_add-begun-in-loop-full
overflow_add-begun-in-loop-full c =
    let a = c.args in
    let l = c.loop-full in
    record { fits = omega (arith, (walk_follows c.begin_image.ensures a.from a.upto a.entries.now c.in-Ok.is l.invariant.0 (omega (arith, c.if-held-eq0.false)) c.if-full.false (rw (c.word_number.ensures, c.top_place-p.ensures) at (sym c.contains.ensures ∙ c.if-contains.false)) (rw (c.top_place-p.ensures, cells_state c.top_cells.ensures) at c.run_block-e.ensures.1) c.follow-t.ensures).0.1) }

pub overflow_add-read : goal.overflow_add-read
overflow_add-read c =
    let a = c.args in
    let l = c.loop-full in
    record { fits = omega (arith, (walk_follows c.begin_image.ensures a.from a.upto a.entries.now c.in-Ok.is l.invariant.0 (omega (arith, c.if-held-eq0.false)) c.if-full.false (rw (c.word_number.ensures, c.top_place-p.ensures) at (sym c.contains.ensures ∙ c.if-contains.false)) (rw (c.top_place-p.ensures, cells_state c.top_cells.ensures) at c.run_block-e.ensures.1) c.follow-t.ensures).0.2) }

pub overflow_add-not_read : goal.overflow_add-not_read
overflow_add-not_read c =
    let a = c.args in
    let l = c.loop-full in
    record { fits = omega (arith, (walk_follows c.begin_image.ensures a.from a.upto a.entries.now c.in-Ok.is l.invariant.0 (omega (arith, c.if-held-eq0.false)) c.if-full.false (rw (c.word_number.ensures, c.top_place-p.ensures) at (sym c.contains.ensures ∙ c.if-contains.false)) (rw (c.top_place-p.ensures, cells_state c.top_cells.ensures) at c.run_block-e.ensures.1) c.follow-t.ensures).0.2) }

pub loop-full-smaller : goal.loop-full-smaller
loop-full-smaller c =
    let a = c.args in
    let l = c.loop-full in
    (walk_follows c.begin_image.ensures a.from a.upto a.entries.now c.in-Ok.is l.invariant.0 (omega (arith, c.if-held-eq0.false)) c.if-full.false (rw (c.word_number.ensures, c.top_place-p.ensures) at (sym c.contains.ensures ∙ c.if-contains.false)) (rw (c.top_place-p.ensures, cells_state c.top_cells.ensures) at c.run_block-e.ensures.1) c.follow-t.ensures).1

pub loop-full-preserved : goal.loop-full-preserved
loop-full-preserved c =
    let a = c.args in
    let l = c.loop-full in
    let more : l.begun + (1 + c.run_block-e.result.begun) ≡ l.begun + 1 + c.run_block-e.result.begun = omega arith in (
      λ starts two thirteen vis lent fine h. rw more (turn_follows (given a.im.now.tables.words.now a.im.now.«data».now starts two thirteen a.from a.upto) vis lent fine (rw c.if-full.false at (l.invariant.0 starts two thirteen vis lent fine h)) (omega (arith, c.if-held-eq0.false)) (rw (c.word_number.ensures, c.top_place-p.ensures) at (sym c.contains.ensures ∙ c.if-contains.false)) (rw (c.top_place-p.ensures, cells_state c.top_cells.ensures) at (c.run_block-e.ensures.1 a.from a.upto (room (length lent.stack)))) c.follow-t.ensures).0,
      c.run_block-e.auto.map ∙ l.invariant.1,
      c.follow-t.auto.stack ∙ l.invariant.2,
      cells_long c.run_block-e.ensures.0,
    )
