-- The loops' invariants: the first records of the local state are those that stand in the words, those after them say nothing.
use mathlib.Core.Path.{◌≡◌}
use Prim.Native.Nat.{ℕ, ◌+◌, ◌*◌, ◌≤◌}
use lib.ListN.{length, take, get_or}
use Rattle.vm.specs.Registers.{blank, no_cr}
use Rattle.slot.specs.Layout.{register_at, compare_at}
use Rattle.slot.specs.Put.{listed}
use Rattle.slot.proofs.state_at.Given as goal

abbrev pub invariant-loop-i : goal.invariant-loop-i
invariant-loop-i l = (length l.s.gpr ≡ 32) × (take l.i l.s.gpr ≡ listed (λ (k : ℕ). register_at l.words (l.at + k * 8)) l.i) × (length l.s.cr ≡ 8) × ((k : ℕ) → l.i ≤ k → get_or l.s.gpr k blank ≡ blank) × ((k : ℕ) → get_or l.s.cr k no_cr ≡ no_cr)

abbrev pub invariant-loop-j : goal.invariant-loop-j
invariant-loop-j l = (l.s.gpr ≡ listed (λ (k : ℕ). register_at l.words (l.at + k * 8)) 32) × (take l.j l.s.cr ≡ listed (λ (k : ℕ). compare_at l.words (l.at + 256 + k * 8)) l.j) × (length l.s.cr ≡ 8) × ((k : ℕ) → l.j ≤ k → get_or l.s.cr k no_cr ≡ no_cr)
