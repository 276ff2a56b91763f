-- The loop stands `Within` a block; each end of it is one law of proofs/BlockLaws.
use mathlib.Core.Path.{sym, ◌∙◌}
use native.Mathlib.Omega.{arith}
use Rattle.cells.specs.Cells.{state_of}
use Rattle.runs.proofs.Carrying.{cells_own}
use Rattle.walk.proofs.BlockLaws.{image_sound, halted, block_begins, block_few, run_ahead, block_past, block_leaves, block_stays, block_falls, block_jumps}
use Rattle.walk.proofs.blocks.run_block.Goals as goal

pub loop-l-init : goal.loop-l-init
loop-l-init c = let a = c.args in (block_begins a.im.now.tables.words.now a.im.now.«data».now a.from (state_of a.cells.now) a.map.now c.requires.1, c.requires.2)

pub overflow_sub-many : goal.overflow_sub-many
overflow_sub-many c = run_ahead (image_sound _ _ c.args.im.now.tables.sound c.args.im.now.inside) c.requires.0 c.loop-l.invariant.0 (rw c.data_from-code.ensures.result_value at ((halted c.run-r.ensures)))

pub overflow_add-result : goal.overflow_add-result
overflow_add-result c = record { fits = omega (arith, (block_few (image_sound _ _ c.args.im.now.tables.sound c.args.im.now.inside) c.requires.0 c.loop-l.invariant.0).1) }

pub returns-then-is_ended : goal.returns-then-is_ended
returns-then-is_ended c = (cells_own c.run-r.ensures.cells, rw (c.mark_run.ensures, c.word_number-w.ensures) (block_past (image_sound _ _ c.args.im.now.tables.sound c.args.im.now.inside) c.requires.0 c.loop-l.invariant.0 (rw c.data_from-code.ensures.result_value at ((halted c.run-r.ensures))) (sym c.is_ended.ensures ∙ c.if-is_ended.true)))

pub overflow_add-stepped : goal.overflow_add-stepped
overflow_add-stepped c = record { fits = omega (arith, (block_few (image_sound _ _ c.args.im.now.tables.sound c.args.im.now.inside) c.requires.0 c.loop-l.invariant.0).1) }

pub overflow_add-stepped-in-loop-l : goal.overflow_add-stepped-in-loop-l
overflow_add-stepped-in-loop-l c = record { fits = omega (arith, (block_few (image_sound _ _ c.args.im.now.tables.sound c.args.im.now.inside) c.requires.0 c.loop-l.invariant.0).1) }

pub returns-in-None : goal.returns-in-None
returns-in-None c = (cells_own c.run-r.ensures.cells, rw (c.mark_run-in-loop-l.ensures, c.word_number-w.ensures) (block_leaves (image_sound _ _ c.args.im.now.tables.sound c.args.im.now.inside) c.requires.0 c.loop-l.invariant.0 (rw c.data_from-code.ensures.result_value at ((halted c.run-r.ensures))) (sym c.is_ended.ensures ∙ c.if-is_ended.false) (sym c.jump_in.ensures ∙ c.in-None.is)))

pub overflow_add-begun : goal.overflow_add-begun
overflow_add-begun c = record { fits = omega (arith, (block_few (image_sound _ _ c.args.im.now.tables.sound c.args.im.now.inside) c.requires.0 c.loop-l.invariant.0).0) }

pub loop-l-smaller : goal.loop-l-smaller
loop-l-smaller c = rw (c.mark_run-in-loop-l.ensures, c.word_number-w.ensures) (block_falls (image_sound _ _ c.args.im.now.tables.sound c.args.im.now.inside) c.requires.0 c.loop-l.invariant.0 (rw c.data_from-code.ensures.result_value at ((halted c.run-r.ensures))) (sym c.is_ended.ensures ∙ c.if-is_ended.false) (sym c.jump_in.ensures ∙ c.in-Some.is) (sym (rw (c.mark_run-in-loop-l.ensures, c.word_number-w.ensures) at c.is_new.ensures) ∙ c.if-is_new.true))

pub loop-l-preserved : goal.loop-l-preserved
loop-l-preserved c = (rw (c.mark_run-in-loop-l.ensures, c.word_number-w.ensures) (block_jumps (image_sound _ _ c.args.im.now.tables.sound c.args.im.now.inside) c.requires.0 c.loop-l.invariant.0 (rw c.data_from-code.ensures.result_value at ((halted c.run-r.ensures))) (sym c.is_ended.ensures ∙ c.if-is_ended.false) (sym c.jump_in.ensures ∙ c.in-Some.is) (sym (rw (c.mark_run-in-loop-l.ensures, c.word_number-w.ensures) at c.is_new.ensures) ∙ c.if-is_new.true)), cells_own c.run-r.ensures.cells)

pub returns-in-Some : goal.returns-in-Some
returns-in-Some c = (cells_own c.run-r.ensures.cells, rw (c.mark_run-in-loop-l.ensures, c.word_number-w.ensures) (block_stays (image_sound _ _ c.args.im.now.tables.sound c.args.im.now.inside) c.requires.0 c.loop-l.invariant.0 (rw c.data_from-code.ensures.result_value at ((halted c.run-r.ensures))) (sym c.is_ended.ensures ∙ c.if-is_ended.false) (sym c.jump_in.ensures ∙ c.in-Some.is) (sym (rw (c.mark_run-in-loop-l.ensures, c.word_number-w.ensures) at c.is_new.ensures) ∙ c.if-is_new.false)))
