-- The empty answers fall to the demand: a step that says Unknown, one that changes nothing, one honest at its first word
-- only. Each by a word li rD, SIMM (addi with rA 0), which has no source register. Assumes nothing.
use mathlib.Core.Path.{◌≡◌, sym, subst, ◌∙◌}
use mathlib.Core.List.{List}
use Prim.Native.Nat.{ℕ, suc, ◌<◌}
use Rattle.places.specs.declared.SectionAddress.{SectionAddress}
use Rattle.vm.specs.declared.VM.{VM}
use Rattle.vm.specs.declared.GprValue.TheVariants.{Unknown}
use Rattle.vm.specs.Registers.{reg}
use Rattle.straight.specs.Manual.{Kind, addi, ra_of, rd_of, unless_zero}
use Rattle.straight.specs.Run.{place_of, word_of, state_after}
use Rattle.straight.specs.Demand3.{AllConstant, AtWord, Demand3}
use Rattle.straight.proofs.Values.{unknown_is_not}

-- li leaves no Unknown behind
pub unknown_is_ruled_out : (w : ℕ) → ra_of w ≡ 0 → (s t : VM) → (reg t (rd_of w)).value ≡ Unknown → AtWord addi w s t → ⊥
unfolding AllConstant
unknown_is_ruled_out w e s t u a =
    let c = a.constant (subst (λ (r : ℕ). AllConstant s (unless_zero r)) (sym e) tt) in
    unknown_is_not c.0 (sym u ∙ c.1)

-- so a step that changes nothing fails where rD was Unknown
pub no_change_is_ruled_out : (w : ℕ) → ra_of w ≡ 0 → (s : VM) → (reg s (rd_of w)).value ≡ Unknown → AtWord addi w s s → ⊥
no_change_is_ruled_out w e s u a = unknown_is_ruled_out w e s s u a

-- and at every word of a run, not the first alone
pub later_words_count : (ws bs : List ℕ) (p : SectionAddress) (kinds : ℕ → Kind) (n : ℕ) (s : VM) (m : List ℕ) (k : ℕ) → k < n
    → kinds k ≡ addi → ra_of (word_of ws bs (place_of p k)) ≡ 0 → (reg (state_after ws bs p s (suc k)) (rd_of (word_of ws bs (place_of p k)))).value ≡ Unknown
    → Demand3 ws bs p kinds n s m → ⊥
later_words_count ws bs p kinds n s m k l i e u d =
    let w : ℕ = word_of ws bs (place_of p k) in
    unknown_is_ruled_out w e (state_after ws bs p s k) (state_after ws bs p s (suc k)) u
    (subst (λ (j : Kind). AtWord j w (state_after ws bs p s k) (state_after ws bs p s (suc k))) i (d.at_each_word k l))
