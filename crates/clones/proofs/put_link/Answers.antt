-- A new state, then two values: between the calls the words are those of a state that fits.
use mathlib.Core.List.{List}
use mathlib.Core.Path.{ap, ◌∙◌}
use Prim.Native.Nat.{ℕ}
use native.Mathlib.Omega.{arith}
use Rattle.cells.proofs.CellLaws.{register_fits, cells_long}
use Rattle.cells.specs.Cells.{state_of}
use Rattle.slot.specs.Fits.{Fits}
use Rattle.slot.specs.Put.{put}
use Rattle.vm.specs.Registers.{direct, reg}
use Rattle.vm.specs.States.{fresh, keep_value}
use Rattle.vm.specs.declared.VM.{VM}
use Rattle.clones.proofs.CloneLaws.{fresh_words, fresh_fits, kept_over}
use Rattle.clones.proofs.put_link.Goals as goal

pub keep_value-requires : goal.keep_value-requires
keep_value-requires c =
    (omega (arith, c.clear.auto.words), omega (arith, cells_long c.requires.1), omega arith)

pub keep_value-requires-2 : goal.keep_value-requires-2
keep_value-requires-2 c =
    (omega (arith, c.clear.auto.words, c.keep_value.auto.words), omega (arith, cells_long c.requires.1), omega arith)

pub returns : goal.returns
returns c =
    let ws : List ℕ = c.args.words.now in
    let at : ℕ = c.args.at in
    let s : VM = state_of c.args.cells.now in
    let t : VM = keep_value fresh s 2 in
    let one = kept_over ws at c.requires.0 fresh s 2 _ _ fresh_fits (omega arith) (c.clear.ensures ∙ ap (put ws at) fresh_words) c.keep_value.ensures.0 in
    let fit : Fits t = register_fits fresh 2 (direct (reg s 2).value) fresh_fits (omega arith) c.keep_value.ensures.1 in
    (kept_over ws at c.requires.0 t s 13 _ _ fit (omega arith) one c.keep_value-2.ensures.0, register_fits t 13 (direct (reg s 13).value) fit (omega arith) c.keep_value-2.ensures.1)
