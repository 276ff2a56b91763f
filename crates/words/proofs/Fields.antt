-- A field is its bits, read from left to right. One law over the position and the width.
-- Assumes nothing.
use Rattle.std.proofs.Common.{◌≡◌, ℕ, ◌+◌, ◌-◌, ◌/◌, ◌%◌, ◌^◌, ◌<◌, ◌≤◌, sym, ap, ◌∙◌, mod-lt, arith, pow_pos}
use Rattle.words.specs.Word.{bit, field}
use Rattle.words.specs.Bits.{number}
use Rattle.words.proofs.Number.{number_field}

pub field_is_bits : (w from to : ℕ) → from ≤ to → to < 32 → field w from to ≡ number (λ (i : ℕ). bit w (from + i)) (to - from + 1)
field_is_bits w from to h l =
    let e : 32 - (from + (to - from + 1)) ≡ 31 - to = omega arith in
    sym (number_field w from (to - from + 1) (omega arith) ∙ ap (λ (x : ℕ). w / 2 ^ x % 2 ^ (to - from + 1)) e)

pub field_lt : (w from to : ℕ) → field w from to < 2 ^ (to - from + 1)
field_lt w from to = mod-lt (w / 2 ^ (31 - to)) (pow_pos (to - from + 1))
