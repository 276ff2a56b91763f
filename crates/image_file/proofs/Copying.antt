-- Numbers read one after the other and stored one after the other: a loop's work left, where it begins, turn by turn, at its end.
-- Assumes nothing.
use mathlib.Core.Path.{◌≡◌}
use mathlib.Core.List.{List}
use Prim.Native.Nat.{ℕ, suc, ◌+◌, ◌-◌, ◌*◌, ◌≤◌, ◌<◌}
use native.Mathlib.Omega.{arith}
use native.Mathlib.Numerals.{add-one}
use lib.ListN.{set}
use lib.Seq.{sets}
use Rattle.image_file.specs.Reading.{each}

pub each_start : (f : ℕ → ℕ) (apart at n : ℕ) (out : List ℕ) → sets out 0 (each f apart (at + 0) (n - 0)) ≡ sets out 0 (each f apart at n)
each_start f apart at n out =
    let e : n - 0 ≡ n = omega arith in
    let p : at + 0 ≡ at = omega arith in
    rw (e, p)

pub each_turn : (f : ℕ → ℕ) (apart at n i : ℕ) (out : List ℕ) → i < n → at + (i + 1) * apart ≡ at + i * apart + apart
    → sets (set out i (f (at + i * apart))) (i + 1) (each f apart (at + (i + 1) * apart) (n - (i + 1)))
    ≡ sets out i (each f apart (at + i * apart) (n - i))
unfolding each
each_turn f apart at n i out h p =
    let e : n - i ≡ suc (n - (i + 1)) = omega arith in
    rw (e, p, add-one i)

pub each_end : (f : ℕ → ℕ) (apart at n i : ℕ) (out : List ℕ) → n ≤ i → sets out i (each f apart at (n - i)) ≡ out
unfolding each
each_end f apart at n i out h = let e : n - i ≡ 0 = omega arith in rw e
