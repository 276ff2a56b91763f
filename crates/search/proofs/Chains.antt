-- What `(0..n).all(..)` answers: its test passes at every number below n.
-- Assumes nothing.
use mathlib.Core.Path.{◌≡◌, sym, ◌∙◌, subst}
use mathlib.Core.Bool.{Bool, true, false}
use Prim.Native.Nat.{ℕ, zero, suc, ◌<◌}
use native.Mathlib.Numerals.{add-one}
use Rattle.std.proofs.Common.{zero-add}
use native.Mathlib.Omega.{arith}
use lib.ListN.{length}
use denote.Param.Members.{Mut}
use Rattle.std.specs.declared.ops.Range.{Range}
use Rattle.std.specs.Fn.{Called}
use Rattle.std.specs.Iterator.{ChecksAll}
use Rattle.std.specs.Bool.{MatchBool}
use Rattle.std.specs.List.{range_with_len, AllWithin, HoldsAt}
use Rattle.std.proofs.iter.Yields.{nat_range_steps}
use Rattle.std.proofs.lemmas.Iterator.{YieldsList-from_range, cases_from_all}
use Rattle.std.proofs.lemmas.List.FromFn.{length-range_with_len, get_or-range_with_len}
use Rattle.search.specs.Every.{every}
use Rattle.search.proofs.EveryLaws.{every_none, every_more, every_fails}

-- a test that passes at each number
pub every_by : (p : ℕ → Bool) (n : ℕ) → ((i : ℕ) → i < n → p i ≡ true) → every p n ≡ true
every_by p zero h = every_none p
every_by p (suc n) h = rw (← add-one n) (every_more p n (every_by p n (λ i l. h i (omega arith))) (h n (omega arith)))

by_answer : (r : Bool) (p : ℕ → Bool) (n : ℕ)
    → MatchBool r (AllWithin (λ x. p x ≡ true) (range_with_len 0 n) 0 (length (range_with_len 0 n))) ((k : ℕ) × (k < length (range_with_len 0 n)) × HoldsAt (λ x. p x ≡ false) (range_with_len 0 n) k)
    → r ≡ every p n
by_answer true p n m =
    sym (every_by p n (λ i l. subst (λ (x : ℕ). p x ≡ true) (get_or-range_with_len 0 n i 0 l ∙ zero-add i) (m i 0 (omega arith) (omega (arith, length-range_with_len 0 n)))))
by_answer false p n m =
    let l : m.0 < n = omega (arith, m.1, length-range_with_len 0 n) in
    sym (every_fails p n m.0 l (subst (λ (x : ℕ). p x ≡ false) (get_or-range_with_len 0 n m.0 0 l ∙ zero-add m.0) (m.2 0)))

pub every_from_all : {F : Type 0} {g : Mut F (ℕ × Unit {0}) Bool} {s : Range ℕ} (u : Range ℕ) (f : F) (r : Bool) (p : ℕ → Bool) (n : ℕ)
    → ChecksAll nat_range_steps g s f r u → s ≡ record { start = 0; end = n }
    → ((x : ℕ) (b : Bool) (q : F) → Called g f (x, tt) b q → (q ≡ f) × (b ≡ p x)) → r ≡ every p n
every_from_all u f r p n ran s h =
    by_answer r p n (cases_from_all u f r (λ x. p x ≡ true) (λ x. p x ≡ false) ran (YieldsList-from_range 0 n n s (omega arith))
    (λ x q k. let m = h x true q k in (m.0, sym m.1)) (λ x q k. sym (h x false q k).1))
