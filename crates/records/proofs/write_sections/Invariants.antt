-- What is left to write makes of the words what is wanted.
use Rattle.std.proofs.Common.{◌≡◌, drop}
use Rattle.records.proofs.WrittenLaws.{with_from}
use Rattle.records.proofs.write_sections.Given as goal

abbrev pub invariant-loop-i : goal.invariant-loop-i
invariant-loop-i l = with_from l.initial.words 0 l.t ≡ with_from l.words l.i (drop l.i l.t)
