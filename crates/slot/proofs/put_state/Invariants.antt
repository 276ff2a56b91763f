-- The loops' invariants: the words of the first records are put, and those records fit.
use mathlib.Core.Path.{◌≡◌}
use Prim.Native.Nat.{ℕ, ◌+◌, ◌<◌}
use lib.ListN.{length, get_or}
use Rattle.vm.specs.Registers.{blank, no_cr}
use Rattle.slot.specs.Fits.{FitsCr}
use Rattle.slot.specs.Layout.{register_words, compare_words}
use Rattle.slot.specs.Put.{put, many}
use Rattle.slot.specs.Values.{mark_of}
use Rattle.slot.proofs.put_state.Given as goal

abbrev pub invariant-loop-i : goal.invariant-loop-i
invariant-loop-i l = (length l.words ≡ length l.initial.words) × (l.words ≡ put l.initial.words l.at (many register_words blank l.i l.s.gpr)) × ((k : ℕ) → k < l.i → mark_of (get_or l.s.gpr k blank).value < 256) × (length l.s.gpr ≡ 32) × (length l.s.cr ≡ 8)

abbrev pub invariant-loop-j : goal.invariant-loop-j
invariant-loop-j l = (length l.words ≡ length l.initial.words) × (l.words ≡ put l.initial.words (l.at + 256) (many compare_words no_cr l.j l.s.cr)) × ((k : ℕ) → k < l.j → FitsCr (get_or l.s.cr k no_cr)) × (length l.s.cr ≡ 8)
