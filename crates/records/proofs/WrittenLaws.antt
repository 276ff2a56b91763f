-- Records written into the words one after another: one more, the end, and that each has room.
-- Assumes nothing.
use mathlib.Core.Path.{◌≡◌, sym, ap, ◌∙◌}
use mathlib.Core.Bool.{true}
use mathlib.Core.List.{List, [], ◌∷◌, ◌++◌}
use Prim.Native.Nat.{ℕ, suc, ◌+◌, ◌*◌, ◌<◌, ◌≤◌}
use native.Mathlib.Nat.{add-zero}
use native.Mathlib.Numerals.{add-one}
use native.Mathlib.Omega.{arith}
use lib.ListN.{length, drop, set, drop_of_length-le}
use lib.Seq.{drop-cons, sets}
use borrow.Author.Tests.{leb-true}
use Rattle.search.proofs.EveryLaws.{and_left, and_right}
use Rattle.image.specs.declared.Section.{Section}
use Rattle.records.specs.Records.{no_record, nth_record}
use Rattle.records.specs.Written.{few, roomy, fits, section_words, table_words, with_section}

-- six stores one after another
pub six_stores : (ws : List ℕ) (i a b c d e f : ℕ) → set (set (set (set (set (set ws i a) (i + 1) b) (i + 2) c) (i + 3) d) (i + 4) e) (i + 5) f ≡ sets ws i (a ∷ b ∷ c ∷ d ∷ e ∷ f ∷ [])
six_stores ws i a b c d e f =
    let e₁ : i + 1 ≡ suc i = omega arith in
    let e₂ : i + 2 ≡ suc (suc i) = omega arith in
    let e₃ : i + 3 ≡ suc (suc (suc i)) = omega arith in
    let e₄ : i + 4 ≡ suc (suc (suc (suc i))) = omega arith in
    let e₅ : i + 5 ≡ suc (suc (suc (suc (suc i)))) = omega arith in
    rw (e₁, e₂, e₃, e₄, e₅)

sets_joined : (ws : List ℕ) (i : ℕ) (us vs : List ℕ) → sets ws i (us ++ vs) ≡ sets (sets ws i us) (i + length us) vs
sets_joined ws i [] vs = ap (λ (k : ℕ). sets ws k vs) (sym (add-zero i))
sets_joined ws i (u ∷ us) vs = let e : suc i + length us ≡ i + suc (length us) = omega arith in sets_joined (set ws i u) (suc i) us vs ∙ ap (λ (k : ℕ). sets (sets (set ws i u) (suc i) us) k vs) e

-- the words with records from number i on
abbrev pub with_from : List ℕ → ℕ → List Section → List ℕ
with_from ws i t = sets ws (i * 6 + 6) (table_words t)

-- one more record is written
pub from_more : (zs : List ℕ) (t : List Section) (i : ℕ) → i < length t → with_from zs i (drop i t) ≡ with_from (with_section zs i (nth_record t i)) (i + 1) (drop (i + 1) t)
unfolding table_words
from_more zs t i h =
    let e : i * 6 + 6 + 6 ≡ suc i * 6 + 6 = omega arith in
    rw (drop-cons t i no_record h, add-one i)
    (sets_joined zs (i * 6 + 6) (section_words (nth_record t i)) (table_words (drop (suc i) t)) ∙ ap (λ (k : ℕ). sets (with_section zs i (nth_record t i)) k (table_words (drop (suc i) t))) e)

-- none is left to write
pub from_done : (zs : List ℕ) (t : List Section) (i : ℕ) → length t ≤ i → with_from zs i (drop i t) ≡ zs
unfolding table_words
from_done zs t i h = rw (drop_of_length-le t h)

-- where records are written they are few, and have room
pub fit_few : (n m : ℕ) → fits n m ≡ true → n ≤ 64
fit_few n m e = leb-true n 64 (and_left (few n) (roomy n m) e)

pub fit_room : (n m : ℕ) → fits n m ≡ true → n * 6 + 6 ≤ m
fit_room n m e = leb-true (n * 6 + 6) m (and_right (few n) (roomy n m) e)
