-- The loops' invariants: the first records of the local state are those that stand in the words, those after them say nothing.
use mathlib.Core.Path.{refl, sym, ◌∙◌}
use Prim.Native.Nat.{ℕ, ◌+◌, ◌*◌}
use native.Mathlib.Omega.{arith}
use lib.ListN.{length-set}
use lib.Seq.{get_or-set_other}
use Rattle.vm.specs.Registers.{blank, no_cr}
use Rattle.vm.specs.declared.Cr.{Cr}
use Rattle.vm.specs.declared.Gpr.{Gpr}
use Rattle.slot.specs.Layout.{register_at, compare_at}
use Rattle.slot.specs.Put.{listed}
use Rattle.slot.proofs.PutLaws.{listed_more, listed_whole}
use Rattle.slot.proofs.SlotLaws.{state_read}
use Rattle.slot.proofs.BlankLaws.{none_known, listed_kept, blank_read, unset_read}
use Rattle.slot.proofs.state_at.Goals as goal

pub loop-i-init : goal.loop-i-init
unfolding listed
loop-i-init c = rw c.new-s.ensures (refl, refl, refl, λ k h. none_known blank 32 k, λ k. none_known no_cr 8 k)

pub loop-i-preserved-then-words-from-eq0 : goal.loop-i-preserved-then-words-from-eq0
loop-i-preserved-then-words-from-eq0 c =
    let q = c.loop-i in
    let a = c.args in
    let f : ℕ → Gpr = λ k. register_at a.words.now (a.at + k * 8) in (
      q.invariant.0,
      listed_kept blank f q.s.gpr q.i (omega arith) (blank_read a.words.now (a.at + q.i * 8) c.if-words-from-eq0.true) (q.invariant.3 q.i (omega arith)) q.invariant.1,
      q.invariant.2,
      λ k h. q.invariant.3 k (omega (arith, h)),
      q.invariant.4,
    )

pub loop-i-preserved : goal.loop-i-preserved
loop-i-preserved c =
    let q = c.loop-i in
    let a = c.args in (
      simp length-set q.invariant.0,
      rw c.register_at.ensures (listed_more (λ (k : ℕ). register_at a.words.now (a.at + k * 8)) q.s.gpr q.i (omega arith) q.invariant.1),
      q.invariant.2,
      λ k h. get_or-set_other q.s.gpr q.i k c.register_at.result blank (λ e. let n : ⊥ = omega (arith, h, e) in n) ∙ q.invariant.3 k (omega (arith, h)),
      q.invariant.4,
    )

pub loop-j-init : goal.loop-j-init
unfolding listed
loop-j-init c =
    let q = c.loop-i in
    let a = c.args in
    (listed_whole (λ (k : ℕ). register_at a.words.now (a.at + k * 8)) q.s.gpr q.i 32 (omega arith) q.invariant.0 q.invariant.1, refl, q.invariant.2, λ k h. q.invariant.4 k)

pub loop-j-preserved-then-is_unset_at : goal.loop-j-preserved-then-is_unset_at
loop-j-preserved-then-is_unset_at c =
    let q = c.loop-j in
    let a = c.args in
    let f : ℕ → Cr = λ k. compare_at a.words.now (a.at + 256 + k * 8) in (
      q.invariant.0,
      listed_kept no_cr f q.s.cr q.j (omega arith) (unset_read a.words.now (a.at + 256 + q.j * 8) (sym c.is_unset_at.ensures ∙ c.if-is_unset_at.true)) (q.invariant.3 q.j (omega arith)) q.invariant.1,
      q.invariant.2,
      λ k h. q.invariant.3 k (omega (arith, h)),
    )

pub loop-j-preserved : goal.loop-j-preserved
loop-j-preserved c =
    let q = c.loop-j in
    let a = c.args in (
      q.invariant.0,
      rw c.compare_at.ensures (listed_more (λ (k : ℕ). compare_at a.words.now (a.at + 256 + k * 8)) q.s.cr q.j (omega arith) q.invariant.1),
      simp length-set q.invariant.2,
      λ k h. get_or-set_other q.s.cr q.j k c.compare_at.result no_cr (λ e. let n : ⊥ = omega (arith, h, e) in n) ∙ q.invariant.3 k (omega (arith, h)),
    )

pub returns : goal.returns
returns c =
    let q = c.loop-j in
    let a = c.args in
    state_read a.words.now a.at q.s c.held_at-lr.result c.held_at-ctr.result q.invariant.0
    (listed_whole (λ (k : ℕ). compare_at a.words.now (a.at + 256 + k * 8)) q.s.cr q.j 8 (omega arith) q.invariant.2 q.invariant.1)
    c.held_at-lr.ensures
    c.held_at-ctr.ensures
