-- The loop keeps `Kept`, of proofs/HeadSteps.
use Rattle.std.specs.Prelude.{None}
use mathlib.Core.List.{[]}
use mathlib.Core.Path.{◌≡◌}
use lib.ListN.{length}
use Rattle.slot.specs.Layout.{state_size}
use Rattle.turns.specs.Heads.{head_left}
use Rattle.turns.specs.Walks.{given}
use Rattle.walk.proofs.HeadSteps.{Kept}
use Rattle.walk.proofs.walk_image.Given as goal

abbrev pub invariant-loop-full : goal.invariant-loop-full
invariant-loop-full l =
    Kept l.im.tables.words.now l.im.«data».now l.from l.upto l.initial.stack l.initial.held l.initial.entries l.initial.full l.initial.map l.stack l.held l.entries l.full l.map l.stepped l.begun l.read l.not_read × (length l.map ≡ length l.initial.map) × (length l.stack ≡ length l.initial.stack) × (length l.state ≡ state_size)

abbrev pub decreases-loop-full : goal.decreases-loop-full
decreases-loop-full l =
    head_left (given l.im.tables.words.now l.im.«data».now [] None None l.from l.upto) (record { stack = []; entries = [] }) l.held l.map
