-- Places as keys: a place before another has the smaller key, and a place is there exactly where its key is.
-- Assumes nothing.
use mathlib.Core.Path.{◌≡◌}
use mathlib.Core.Bool.{true, false, ◌&&◌}
use Prim.Native.Nat.{ℕ, ◌^◌, ◌<◌}
use native.Mathlib.Decide.{dec_lt}
use native.Mathlib.Omega.{arith}
use borrow.Author.Tests.{eq-eqb, ne_eqb}
use lib.Dec.{eqb}
use Rattle.places.specs.declared.SectionAddress.{SectionAddress}
use Rattle.places.specs.Places.{before}
use Rattle.search.proofs.EveryLaws.{and_false_left, and_false_right}
use Rattle.image.specs.Rules.{ascending}
use Rattle.image.proofs.Order.{Precedes, before_says, ascends}
use Rattle.lookups.specs.Keys.{key_of, here_of}

abbrev pub key : SectionAddress → ℕ
key p = key_of p.section p.address

-- a place before another has the smaller key
by_section_or_address : (a b : SectionAddress) → a.address < 2 ^ 32 → Precedes a b → Dec (a.section < b.section) → key a < key b
by_section_or_address a b f p (yes l) = omega arith
by_section_or_address a b f p (no l) = let e : a.section ≡ b.section = omega (arith, p.sections) in omega (arith, p.addresses e)

pub before_key : (a b : SectionAddress) → a.address < 2 ^ 32 → before a b ≡ true → key a < key b
before_key a b f e = by_section_or_address a b f (before_says a b e) (dec_lt a.section b.section)

-- a place is there exactly where its key is
pub here_key : (at : ℕ → SectionAddress) (p : SectionAddress) (j : ℕ) → (at j).address < 2 ^ 32 → p.address < 2 ^ 32 → key (at j) ≡ key p → here_of at p j ≡ true
here_key at p j f g e =
    let s : (at j).section ≡ p.section = omega arith in
    let a : (at j).address ≡ p.address = omega arith in
    rw (eq-eqb _ _ s, eq-eqb _ _ a)

apart : (a b : SectionAddress) → (key a ≡ key b → ⊥) → Dec (a.section < b.section) → Dec (b.section < a.section) → eqb a.section b.section && eqb a.address b.address ≡ false
apart a b n (yes l) d = and_false_left _ (eqb a.address b.address) (ne_eqb a.section b.section (λ e. omega arith))
apart a b n (no l) (yes m) = and_false_left _ (eqb a.address b.address) (ne_eqb a.section b.section (λ e. omega arith))
apart a b n (no l) (no m) =
    let s : a.section ≡ b.section = omega arith in
    and_false_right (eqb a.section b.section) _ (ne_eqb a.address b.address (λ e. n (omega arith)))

pub not_here_key : (at : ℕ → SectionAddress) (p : SectionAddress) (j : ℕ) → (key (at j) ≡ key p → ⊥) → here_of at p j ≡ false
not_here_key at p j n = apart (at j) p n (dec_lt (at j).section p.section) (dec_lt p.section (at j).section)

-- the keys of strictly ascending places ascend
pub keys_ascend : (at : ℕ → SectionAddress) (n : ℕ) → ((j : ℕ) → (at j).address < 2 ^ 32) → ascending at n ≡ true
    → (i j : ℕ) → i < j → j < n → key (at i) < key (at j)
keys_ascend at n f t i j l h = before_key (at i) (at j) (f i) (ascends at n i j t l h)
