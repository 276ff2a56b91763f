-- A new state, then three values, then the words of the registers from 14 up: between the calls the words are those of a state that fits.
use mathlib.Core.List.{List}
use mathlib.Core.Path.{ap, ◌∙◌}
use Prim.Native.Nat.{ℕ, ◌+◌}
use native.Mathlib.Omega.{arith}
use lib.ListN.{take, drop}
use Rattle.cells.proofs.CellLaws.{register_fits, cells_long}
use Rattle.cells.specs.Cells.{state_of}
use Rattle.slot.specs.Fits.{Fits}
use Rattle.slot.specs.Put.{put}
use Rattle.vm.specs.Registers.{direct, reg}
use Rattle.vm.specs.States.{fresh, keep_value}
use Rattle.vm.specs.declared.VM.{VM}
use Rattle.clones.proofs.CloneLaws.{fresh_words, fresh_fits, kept_over}
use Rattle.clones.proofs.SavedLaws.{saved_put, fits_saved}
use Rattle.clones.proofs.put_return.Goals as goal

pub keep_value-requires : goal.keep_value-requires
keep_value-requires c =
    (omega (arith, c.clear.auto.words), omega (arith, cells_long c.requires.1), omega arith)

pub keep_value-requires-2 : goal.keep_value-requires-2
keep_value-requires-2 c =
    (omega (arith, c.clear.auto.words, c.keep_value.auto.words), omega (arith, cells_long c.requires.1), omega arith)

pub keep_value-requires-3 : goal.keep_value-requires-3
keep_value-requires-3 c =
    (omega (arith, c.clear.auto.words, c.keep_value.auto.words, c.keep_value-2.auto.words), omega (arith, cells_long c.requires.1), omega arith)

pub copy-requires : goal.copy-requires
copy-requires c =
    (omega (arith, c.clear.auto.words, c.keep_value.auto.words, c.keep_value-2.auto.words, c.keep_value-3.auto.words), omega (arith, cells_long c.requires.1))

pub returns : goal.returns
returns c =
    let ws : List ℕ = c.args.words.now in
    let at : ℕ = c.args.at in
    let s : VM = state_of c.args.cells.now in
    let t1 : VM = keep_value fresh s 1 in
    let t2 : VM = keep_value t1 s 2 in
    let t3 : VM = keep_value t2 s 13 in
    let f1 : Fits t1 = register_fits fresh 1 (direct (reg s 1).value) fresh_fits (omega arith) c.keep_value.ensures.1 in
    let f2 : Fits t2 = register_fits t1 2 (direct (reg s 2).value) f1 (omega arith) c.keep_value-2.ensures.1 in
    let f3 : Fits t3 = register_fits t2 13 (direct (reg s 13).value) f2 (omega arith) c.keep_value-3.ensures.1 in
    let w1 = kept_over ws at c.requires.0 fresh s 1 _ _ fresh_fits (omega arith) (c.clear.ensures ∙ ap (put ws at) fresh_words) c.keep_value.ensures.0 in
    let w2 = kept_over ws at c.requires.0 t1 s 2 _ _ f1 (omega arith) w1 c.keep_value-2.ensures.0 in
    let w3 = kept_over ws at c.requires.0 t2 s 13 _ _ f2 (omega arith) w2 c.keep_value-3.ensures.0 in
    (saved_put ws at t3 s _ _ c.requires.0 f3.gpr_count w3 (c.copy.ensures ∙ ap (λ (l : List ℕ). put c.keep_value-3.new.words (at + 112) (take 144 (drop 112 l))) c.requires.1.words), fits_saved t3 s f3 c.requires.1.fits)
