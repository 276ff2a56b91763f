-- `image_file::copies::copy_starts` meets its contract.
use Rattle.image_file.specs.Reading.{keys_from}
use lib.Seq.{sets}
use lib.ListN.{length}
use mathlib.Core.Path.{◌≡◌}
use Prim.Native.Nat.{◌≤◌, ◌-◌, ◌*◌, ◌+◌}
use Rattle.image_file.proofs.copies.copy_starts.Given as goal

abbrev pub invariant-loop-i : goal.invariant-loop-i
invariant-loop-i l =
    (l.i ≤ l.n) × (length l.out ≡ length l.initial.out) × (sets l.out l.i (keys_from l.file (l.from + l.i * 8) (l.n - l.i)) ≡ sets l.initial.out 0 (keys_from l.file l.from l.n))
