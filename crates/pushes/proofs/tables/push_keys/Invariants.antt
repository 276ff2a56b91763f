-- The keys pushed so far, one more each turn, by proofs/PlaceLaws.
use Rattle.pushes.proofs.PlaceLaws.{KeysIn}
use Rattle.cells.specs.Cells.{state_of}
use Rattle.clones.specs.Clones.{made_of}
use Rattle.pushes.proofs.tables.push_keys.Given as goal

abbrev pub invariant-loop-key : goal.invariant-loop-key
invariant-loop-key l = KeysIn l.im.words.now l.initial.stack l.count l.entries (made_of l.made (state_of l.cells)) l.stack l.held l.key-index
