-- A word of code or none, by proofs/PlaceLaws.
use mathlib.Core.Bool.{Bool, true, false, not}
use mathlib.Core.Path.{◌≡◌, sym, ◌∙◌}
use Rattle.std.specs.Prelude.{is_some}
use Rattle.pushes.proofs.PlaceLaws.{pushed_out, pushed_word}
use Rattle.cells.specs.Cells.{state_of}
use Rattle.clones.specs.Clones.{made_of}
use Rattle.pushes.proofs.push_at.Goals as goal

turned : (a b : Bool) → a ≡ not b → b ≡ not a
turned a true e = rw e
turned a false e = rw e

pub returns-then-is_word : goal.returns-then-is_word
returns-then-is_word c = let a = c.args in
    let full : c.is_none.result ≡ not (is_some c.push-p.result) = turned _ _ c.is_none.ensures in
    rw (c.unwrap_or.ensures, full)
    (pushed_word a.im.now.words.now a.stack.now a.count a.q (made_of a.made (state_of a.cells.now)) c.requires.0 c.push-p.result c.push-p.new.words (sym c.is_word.ensures ∙ c.if-is_word.true) c.push-p.ensures c.push-p.auto.words)

pub returns : goal.returns
returns c = let a = c.args in
    pushed_out a.im.now.words.now a.stack.now a.count a.q (made_of a.made (state_of a.cells.now)) c.requires.0 c.nothing.result (sym c.is_word.ensures ∙ c.if-is_word.false) c.nothing.ensures
