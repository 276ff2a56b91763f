-- The ones of a map, counted a word at a time.
-- Assumes nothing.
use mathlib.Core.Path.{◌≡◌, refl, sym, ap, ap₂, ◌∙◌}
use mathlib.Core.List.{List}
use Prim.Native.Nat.{ℕ, zero, suc, ◌+◌, ◌-◌, ◌*◌, ◌/◌, ◌%◌, ◌^◌, ◌≤◌, ◌<◌, min}
use native.Mathlib.Nat.{mod-one, mod-lt, add-zero, add-suc, add_comm, lt_of_le_of_lt}
use native.Mathlib.Numerals.{one-add}
use native.Mathlib.Decide.{dec_lt}
use native.Mathlib.Omega.{arith}
use lib.Dec.{lit<}
use lib.Pow.{pow_pos, mod-pow-add}
use lib.Count.{ones, ones_cat, ones-le}
use lib.ListN.{length, get_or}
use Rattle.visited.specs.Bits.{bit_at, low_ones, ones_below}
use Rattle.visited.proofs.BitLaws.{no_bit_past_end}

ones_of_digit : (d : ℕ) → d < 2 → ones d ≡ d
unfolding ones
ones_of_digit zero h = refl
ones_of_digit (suc zero) h = refl
ones_of_digit (suc (suc d)) h = absurd (omega arith)

-- what `count_ones` gives of a word's k lowest bits
pub low_ones_counted : (w k : ℕ) → low_ones w k ≡ ones (w % 2 ^ k)
unfolding low_ones
low_ones_counted w zero = sym (ap ones (mod-one w) ∙ ones_of_digit 0 (omega arith))
low_ones_counted w (suc k) =
    let d : ℕ = w / 2 ^ k % 2 in
    let s : d < 2 = mod-lt (w / 2 ^ k) (lit< tt) in
    ap₂ ◌+◌ (low_ones_counted w k) (sym (ones_of_digit d s))
    ∙ add_comm (ones (w % 2 ^ k)) (ones d)
    ∙ sym (ones_cat k d (w % 2 ^ k) (mod-lt w (pow_pos k)))
    ∙ ap ones (sym (mod-pow-add w 1 k))
    ∙ ap (λ (n : ℕ). ones (w % 2 ^ n)) (one-add k)

pub few_ones : (w : ℕ) → w < 2 ^ 32 → ones w < 2 ^ 64
few_ones w h = lt_of_le_of_lt (ones-le 32 w h) (lit< tt)

module _ (ws : List ℕ) where
  pub ones_at_most : (n : ℕ) → ones_below ws n ≤ n
  unfolding ones_below
  ones_at_most zero = omega arith
  ones_at_most (suc n) = omega (arith, ones_at_most n)

  -- the ones of word i's k lowest bits, after those of the words before it
  in_word : (i k : ℕ) → k ≤ 32 → ones_below ws (i * 32 + k) ≡ ones_below ws (i * 32) + low_ones (get_or ws i 0) k
  unfolding ones_below low_ones
  in_word i zero h = ap (ones_below ws) (add-zero (i * 32)) ∙ sym (add-zero (ones_below ws (i * 32)))
  in_word i (suc k) h =
      let q : (i * 32 + k) / 32 ≡ i = omega arith in
      let r : (i * 32 + k) % 32 ≡ k = omega arith in
      let b : bit_at ws (i * 32 + k) ≡ get_or ws i 0 / 2 ^ k % 2 = ap₂ (λ (x y : ℕ). get_or ws x 0 / 2 ^ y % 2) q r in
      ap (ones_below ws) (add-suc (i * 32) k) ∙ omega (arith, in_word i k (omega arith), b)

  -- one word more is counted
  one_word : (n i : ℕ) → ones_below ws (min n (i * 32)) + low_ones (get_or ws i 0) (min (n - i * 32) 32) ≡ ones_below ws (min n ((i + 1) * 32))
  unfolding low_ones
  one_word n i = go (dec_lt (i * 32) n)
    where
      go : Dec (i * 32 < n) → ones_below ws (min n (i * 32)) + low_ones (get_or ws i 0) (min (n - i * 32) 32) ≡ ones_below ws (min n ((i + 1) * 32))
      go (yes p) =
          let k : ℕ = min (n - i * 32) 32 in
          let a : min n (i * 32) ≡ i * 32 = omega arith in
          let b : i * 32 + k ≡ min n ((i + 1) * 32) = omega arith in
          ap (λ (m : ℕ). ones_below ws m + low_ones (get_or ws i 0) k) a ∙ sym (in_word i k (omega arith)) ∙ ap (ones_below ws) b
      go (no q) =
          let a : min n (i * 32) ≡ min n ((i + 1) * 32) = omega arith in
          let z : min (n - i * 32) 32 ≡ 0 = omega arith in
          ap₂ (λ (m k : ℕ). ones_below ws m + low_ones (get_or ws i 0) k) a z ∙ add-zero (ones_below ws (min n ((i + 1) * 32)))

  pub counted_one_more : (n i left s r : ℕ) → left ≡ n - i * 32 → s ≡ ones_below ws (min n (i * 32)) → r ≡ low_ones (get_or ws i 0) (min left 32)
      → s + r ≡ ones_below ws (min n ((i + 1) * 32))
  counted_one_more n i left s r el es er = ap₂ ◌+◌ es (er ∙ ap (λ (k : ℕ). low_ones (get_or ws i 0) (min k 32)) el) ∙ one_word n i

  past_end : (d : ℕ) → ones_below ws (length ws * 32 + d) ≡ ones_below ws (length ws * 32)
  unfolding ones_below
  past_end zero = ap (ones_below ws) (add-zero (length ws * 32))
  past_end (suc d) =
      let z : bit_at ws (length ws * 32 + d) ≡ 0 = no_bit_past_end ws (length ws * 32 + d) (omega arith) in
      ap (ones_below ws) (add-suc (length ws * 32) d) ∙ omega (arith, past_end d, z)

  -- all words are counted
  pub counted_whole : (n i : ℕ) → i ≡ length ws → ones_below ws (min n (i * 32)) ≡ ones_below ws n
  counted_whole n i e = go (dec_lt (length ws * 32) n)
    where
      go : Dec (length ws * 32 < n) → ones_below ws (min n (i * 32)) ≡ ones_below ws n
      go (yes p) =
          let a : min n (i * 32) ≡ length ws * 32 = omega arith in
          let b : length ws * 32 + (n - length ws * 32) ≡ n = omega arith in
          ap (ones_below ws) a ∙ sym (past_end (n - length ws * 32)) ∙ ap (ones_below ws) b
      go (no q) = ap (ones_below ws) (omega arith)
