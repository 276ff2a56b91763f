-- `image_file::copies::copy_words` meets its contract.
use Rattle.image_file.specs.Reading.{words_from}
use lib.Seq.{sets}
use lib.ListN.{length}
use mathlib.Core.Path.{◌≡◌}
use Prim.Native.Nat.{◌≤◌, ◌-◌, ◌*◌, ◌+◌}
use Rattle.image_file.proofs.copies.copy_words.Given as goal

abbrev pub invariant-loop-i : goal.invariant-loop-i
invariant-loop-i l =
    (l.i ≤ l.n) × (length l.out ≡ length l.initial.out) × (sets l.out l.i (words_from l.file (56 + l.i * 4) (l.n - l.i)) ≡ sets l.initial.out 0 (words_from l.file 56 l.n))
