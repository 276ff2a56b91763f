-- Both masks by two shifts are the manual's mask, which one test at each pair shows.
use Rattle.std.proofs.Common.{rules, le-leb, ◌%◌}
use borrow.Author.Tests.{lt-leb}
use Rattle.words.proofs.MaskLaws.{mask_law}
use Rattle.words.proofs.mask.mask_value.Goals as goal

pub returns-then-b-e : goal.returns-then-b-e
returns-then-b-e c =
    let a = c.args in
    simp (le-leb _ _ c.if-b-e.true) at (mask_law (a.begin % 32) (a.end % 32) (search rules) (search rules))

pub returns-else-b-e : goal.returns-else-b-e
returns-else-b-e c =
    let a = c.args in
    simp (lt-leb _ _ c.if-b-e.false) at (mask_law (a.begin % 32) (a.end % 32) (search rules) (search rules))
