-- `image_file::read_file` meets its contract.
use Rattle.image_file.proofs.Judging.{words_fit, starts_fit}
use Rattle.image_file.specs.Reading.{judged}
use Rattle.image_file.specs.Reading.{Check}
use Rattle.std.specs.Prelude.{Ok}
use lib.ListN.{length}
use mathlib.Core.Path.{◌≡◌, sym, ◌∙◌}
use native.Mathlib.Omega.{arith}
use Rattle.image_file.proofs.read_file.Goals as goal

pub copy_words-requires : goal.copy_words-requires
copy_words-requires c = let a = c.args in
    let j : ◌≡◌ {A = Check} (judged a.file.now (length a.im.now) (length a.starts.now)) (Ok tt) = sym c.judge.ensures ∙ c.in_ok-judge.was in
    rw c.head_of-h.ensures (words_fit a.file.now _ _ j)

pub copy_starts-requires : goal.copy_starts-requires
copy_starts-requires c = let a = c.args in
    let j : ◌≡◌ {A = Check} (judged a.file.now (length a.im.now) (length a.starts.now)) (Ok tt) = sym c.judge.ensures ∙ c.in_ok-judge.was in
    (rw c.head_of-h.ensures (starts_fit a.file.now _ _ j), omega arith)
