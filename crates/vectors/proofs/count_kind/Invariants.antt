use Rattle.std.proofs.Common.{◌≤◌}
use Rattle.vectors.proofs.count_kind.Given as goal

abbrev pub invariant-loop-record : goal.invariant-loop-record
invariant-loop-record g l = record { asked : l.asked ≤ l.record-index; alike : l.alike ≤ l.asked }
