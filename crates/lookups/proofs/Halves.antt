-- In strictly ascending places the match that a search by halves finds is the first match, and the only one: once over
-- the places, as a function of their index, then for places in a table of words. Assumes nothing.
use Rattle.std.specs.Prelude.{Some, None}
use mathlib.Core.Path.{◌≡◌, sym, ◌∙◌, subst}
use mathlib.Core.Bool.{true, false}
use mathlib.Core.List.{List}
use Prim.Native.Nat.{ℕ, suc, ◌+◌, ◌*◌, ◌^◌, ◌≤◌, ◌<◌}
use native.Mathlib.Nat.{lt_trans, mul-le-mul_right, suc-mul}
use native.Mathlib.Decide.{dec_lt}
use native.Mathlib.Omega.{arith}
use lib.ListN.{length, get_or}
use mir.Syntax.{w32}
use mir.Val.{Fits}
use Rattle.places.specs.declared.SectionAddress.{SectionAddress}
use Rattle.search.specs.First.{first}
use Rattle.search.proofs.FirstMatch.{first_at, first_none}
use Rattle.image.specs.Rules.{ascending}
use Rattle.lookups.specs.Keys.{key_at, places_at, here_of}
use Rattle.lookups.proofs.PlaceKeys.{key, here_key, not_here_key, keys_ascend}

-- a search by halves: the keys below lo are smaller than k, those from hi on are not
pub record Halves (ks : ℕ → ℕ) (n k lo hi : ℕ) : Type 0 where
  pub ordered : lo ≤ hi
  pub within : hi ≤ n
  pub smaller : (i : ℕ) → i < lo → ks i < k
  pub others : (i : ℕ) → hi ≤ i → i < n → k ≤ ks i

pub halves_begin : (ks : ℕ → ℕ) (n k : ℕ) → Halves ks n k 0 n
halves_begin ks n k = record { ordered = omega arith; within = omega arith; smaller = λ i l. absurd (omega arith); others = λ i l m. absurd (omega arith) }

module _ (ks : ℕ → ℕ) (n k : ℕ) (asc : (i j : ℕ) → i < j → j < n → ks i < ks j) where
  upto : (m i : ℕ) → m < n → i < m + 1 → ks m < k → Dec (i < m) → ks i < k
  upto m i h l s (yes d) = lt_trans (asc i m d h) s
  upto m i h l s (no d) = let e : i ≡ m = omega arith in rw e s

  onward : (m i : ℕ) → m ≤ i → i < n → k ≤ ks m → Dec (m < i) → k ≤ ks i
  onward m i l h s (yes d) = omega (arith, asc m i d h)
  onward m i l h s (no d) = let e : i ≡ m = omega arith in rw e s

  pub halves_up : (lo hi m : ℕ) → Halves ks n k lo hi → lo ≤ m → m < hi → ks m < k → Halves ks n k (m + 1) hi
  halves_up lo hi m h l b s =
      record { ordered = omega arith; within = h.within; smaller = λ i d. upto m i (omega arith) d s (dec_lt i m); others = h.others }

  pub halves_down : (lo hi m : ℕ) → Halves ks n k lo hi → lo ≤ m → m < hi → k ≤ ks m → Halves ks n k lo m
  halves_down lo hi m h l b s =
      record { ordered = l; within = omega arith; smaller = h.smaller; others = λ i d e. onward m i d e s (dec_lt m i) }

-- where lo and hi have met, the key at lo decides
module _ (at : ℕ → SectionAddress) (n : ℕ) (p : SectionAddress) (f : (j : ℕ) → (at j).address < 2 ^ 32) (g : p.address < 2 ^ 32)
    (asc : (i j : ℕ) → i < j → j < n → key (at i) < key (at j)) where
  other_before : (lo hi : ℕ) → Halves (λ (j : ℕ). key (at j)) n (key p) lo hi → (j : ℕ) → j < lo → here_of at p j ≡ false
  other_before lo hi h j l = not_here_key at p j (λ e. omega (arith, h.smaller j l))

  other_at_or_after : (lo j : ℕ) → lo < n → key p ≤ key (at lo) → (key (at lo) ≡ key p → ⊥) → lo ≤ j → j < n → Dec (lo < j) → key (at j) ≡ key p → ⊥
  other_at_or_after lo j h l ne b c (yes d) e = omega (arith, asc lo j d c)
  other_at_or_after lo j h l ne b c (no d) e = let q : j ≡ lo = omega arith in ne (rw q at e)

  other : (lo hi : ℕ) → Halves (λ (j : ℕ). key (at j)) n (key p) lo hi → hi ≤ lo → lo < n → (key (at lo) ≡ key p → ⊥) → (j : ℕ) → j < n → Dec (j < lo) → here_of at p j ≡ false
  other lo hi h m l ne j b (yes d) = other_before lo hi h j d
  other lo hi h m l ne j b (no d) =
      not_here_key at p j (other_at_or_after lo j l (h.others lo m l) ne (omega arith) b (dec_lt lo j))

  pub halves_hit : (lo hi : ℕ) → Halves (λ (j : ℕ). key (at j)) n (key p) lo hi → lo < n → key (at lo) ≡ key p → first (here_of at p) n ≡ Some lo
  halves_hit lo hi h l e = first_at (here_of at p) n lo l (other_before lo hi h) (here_key at p lo (f lo) g e)

  pub halves_miss : (lo hi : ℕ) → Halves (λ (j : ℕ). key (at j)) n (key p) lo hi → hi ≤ lo → lo < n → (key (at lo) ≡ key p → ⊥) → first (here_of at p) n ≡ None
  halves_miss lo hi h m l ne = first_none (here_of at p) n (λ j b. other lo hi h m l ne j b (dec_lt j lo))

  pub halves_end : (lo hi : ℕ) → Halves (λ (j : ℕ). key (at j)) n (key p) lo hi → n ≤ lo → first (here_of at p) n ≡ None
  halves_end lo hi h l = first_none (here_of at p) n (λ j b. other_before lo hi h j (omega arith))

-- a table of places: each lies inside the words where they all do
pub inside : (ws : List ℕ) (from stride n j : ℕ) → (2 ≤ stride) × (from + n * stride ≤ length ws) → j < n → from + j * stride + 1 < length ws
inside ws from stride n j all l =
    let m : suc j * stride ≤ n * stride = mul-le-mul_right stride l in
    omega (arith, suc-mul j stride, all.0, all.1)

abbrev pub keys_at : List ℕ → ℕ → ℕ → ℕ → ℕ
keys_at ws from stride j = key_at ws (from + j * stride)

-- the turns and the ends of a search in a table, k the wanted key and x the one that was read
module _ (ws : List ℕ) (from stride n : ℕ) (fits : (i : ℕ) → Fits w32 (get_or ws i 0)) (up : ascending (places_at ws from stride) n ≡ true) where
  addresses_fit : (j : ℕ) → (places_at ws from stride j).address < 2 ^ 32
  addresses_fit j = (fits (from + j * stride + 1)).fits

  ascend : (i j : ℕ) → i < j → j < n → keys_at ws from stride i < keys_at ws from stride j
  ascend = keys_ascend (places_at ws from stride) n addresses_fit up

  pub table_up : (k lo hi m x : ℕ) → Halves (keys_at ws from stride) n k lo hi → lo ≤ m → m < hi → x ≡ keys_at ws from stride m → x < k
      → Halves (keys_at ws from stride) n k (m + 1) hi
  table_up k lo hi m x h l b e s = halves_up (keys_at ws from stride) n k ascend lo hi m h l b (rw e at s)

  pub table_down : (k lo hi m x : ℕ) → Halves (keys_at ws from stride) n k lo hi → lo ≤ m → m < hi → x ≡ keys_at ws from stride m → k ≤ x
      → Halves (keys_at ws from stride) n k lo m
  table_down k lo hi m x h l b e s = halves_down (keys_at ws from stride) n k ascend lo hi m h l b (rw e at s)

  wanted : (p : SectionAddress) (k lo hi : ℕ) → k ≡ key p → Halves (keys_at ws from stride) n k lo hi → Halves (keys_at ws from stride) n (key p) lo hi
  wanted p k lo hi e h = subst (λ (q : ℕ). Halves (keys_at ws from stride) n q lo hi) e h

  pub table_end : (p : SectionAddress) (k lo hi : ℕ) → (k ≡ key p) × (p.address < 2 ^ 32) → Halves (keys_at ws from stride) n k lo hi → n ≤ lo
      → first (here_of (places_at ws from stride) p) n ≡ None
  table_end p k lo hi w h l = halves_end (places_at ws from stride) n p addresses_fit w.1 ascend lo hi (wanted p k lo hi w.0 h) l

  pub table_hit : (p : SectionAddress) (k lo hi x : ℕ) → (k ≡ key p) × (p.address < 2 ^ 32) → Halves (keys_at ws from stride) n k lo hi → lo < n
      → x ≡ keys_at ws from stride lo → x ≡ k → first (here_of (places_at ws from stride) p) n ≡ Some lo
  table_hit p k lo hi x w h l e s = halves_hit (places_at ws from stride) n p addresses_fit w.1 ascend lo hi (wanted p k lo hi w.0 h) l (sym e ∙ s ∙ w.0)

  pub table_miss : (p : SectionAddress) (k lo hi x : ℕ) → (k ≡ key p) × (p.address < 2 ^ 32) → Halves (keys_at ws from stride) n k lo hi → hi ≤ lo → lo < n
      → x ≡ keys_at ws from stride lo → (x ≡ k → ⊥) → first (here_of (places_at ws from stride) p) n ≡ None
  table_miss p k lo hi x w h m l e s =
      halves_miss (places_at ws from stride) n p addresses_fit w.1 ascend lo hi (wanted p k lo hi w.0 h) m l (λ q. s (e ∙ q ∙ sym w.0))
