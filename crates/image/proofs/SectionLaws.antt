-- The rules on sections, at each index, as plain facts.
-- Assumes nothing.
use Rattle.std.specs.Prelude.{Some}
use mathlib.Core.Path.{◌≡◌, refl, sym}
use mathlib.Core.Bool.{Bool, true, false, ◌&&◌, not}
use mathlib.Core.List.{List, [], ◌∷◌}
use Prim.Native.Nat.{ℕ, ◌+◌, ◌%◌, ◌^◌, ◌≤◌, ◌<◌}
use native.Mathlib.Decide.{dec_lt}
use native.Mathlib.Omega.{arith}
use lib.Dec.{leb, ltb, eqb}
use borrow.Author.Tests.{eq-eqb, ne_eqb, leb-true, ltb-true, eqb-true, eqb-false, not-true}
use Rattle.words.specs.Choice.{pick}
use Rattle.search.specs.Every.{every}
use Rattle.search.proofs.EveryLaws.{and_left, and_right, every_at}
use Rattle.search.proofs.FirstMatch.{first_at}
use Rattle.search.proofs.Conjunction.{chain_first, chain_at}
use Rattle.image.specs.declared.Section.{Section}
use Rattle.image.specs.Numbers.{executable_kind, code_kind, bss_kind}
use Rattle.image.specs.Layout.{image_kind, sections, section_at}
use Rattle.image.specs.Rules.{end_of, holds, aligned, section_sound, sections_sound, elf_distinct, apart, sections_apart, has_elf, elf_index, data_inside}
use Rattle.image.proofs.SoundTables.{SoundTables}
use Rattle.image.proofs.Apart.{apart_none_shared}

-- one section
pub record SoundSection (s : Section) : Type 0 where
  pub kind_known_lem : s.kind < 4
  pub ends : s.address + s.size < 2 ^ 32
  pub data_short : s.length ≤ s.size
  pub bss_empty : s.kind ≡ bss_kind → s.length ≡ 0
  pub data_whole : (s.kind ≡ bss_kind → ⊥) → s.length ≡ s.size
  pub code_address : s.kind ≡ code_kind → s.address % 4 ≡ 0
  pub code_size : s.kind ≡ code_kind → s.size % 4 ≡ 0

short : {n m : ℕ} (t : Bool) → n ≡ pick t 0 m → n ≤ m
short true e = omega arith
short false e = omega arith

pub sound_section : (s : Section) → section_sound s ≡ true → SoundSection s
sound_section s e =
    let first = ltb s.kind 4 in
    let rest = ltb (end_of s) (2 ^ 32) ∷ eqb s.length (pick (eqb s.kind bss_kind) 0 s.size) ∷ aligned s ∷ [] in
    let length-is : s.length ≡ pick (eqb s.kind bss_kind) 0 s.size = eqb-true _ _ (chain_at first rest 1 e) in
    let code : s.kind ≡ code_kind → eqb (s.address % 4) 0 && eqb (s.size % 4) 0 ≡ true =
    λ k. rw (eq-eqb s.kind code_kind k) at (chain_at first rest 2 e) in
    let bss : s.kind ≡ bss_kind → s.length ≡ 0 = λ k. rw (eq-eqb s.kind bss_kind k) at length-is in
    let whole : (s.kind ≡ bss_kind → ⊥) → s.length ≡ s.size = λ k. rw (ne_eqb s.kind bss_kind k) at length-is in
    record {
      kind_known_lem = ltb-true _ _ (chain_first first rest e);
      ends = ltb-true _ _ (chain_at first rest 0 e);
      data_short = short (eqb s.kind bss_kind) length-is;
      bss_empty = bss;
      data_whole = whole;
      code_address = λ k. eqb-true _ _ (and_left (eqb (s.address % 4) 0) (eqb (s.size % 4) 0) (code k));
      code_size = λ k. eqb-true _ _ (and_right (eqb (s.address % 4) 0) (eqb (s.size % 4) 0) (code k));
    }

pub section_at_lem : (ws : List ℕ) → SoundTables ws → (i : ℕ) → i < sections ws → SoundSection (section_at ws i)
unfolding sections_sound
section_at_lem ws t i l = sound_section (section_at ws i) (every_at (λ (k : ℕ). section_sound (section_at ws k)) (sections ws) i t.sections_sound_lem l)

-- what holds of no two sections, one before the other, holds of one alone
one_alone : (P : ℕ → ℕ → Type 0) → ((j i : ℕ) → P i j → P j i) → ((j i : ℕ) → j < i → P j i → ⊥) → (i j : ℕ) → P i j → i ≡ j
one_alone P turn none i j p =
    elim (dec_lt i j) [
      | yes l ↦ absurd (none i j l p)
      | no l ↦ elim (dec_lt j i) [ yes k ↦ absurd (none j i k (turn j i p)) | no k ↦ omega arith ]
    ]

-- elf numbers are distinct
elf_new : (ws : List ℕ) → SoundTables ws → (i : ℕ) → i < sections ws → (j : ℕ) → j < i → not (eqb (section_at ws j).elf (section_at ws i).elf) ≡ true
unfolding elf_distinct
elf_new ws t i l j k =
    every_at (λ (b : ℕ). not (eqb (section_at ws b).elf (section_at ws i).elf)) i j
    (every_at (λ (a : ℕ). every (λ (b : ℕ). not (eqb (section_at ws b).elf (section_at ws a).elf)) a) (sections ws) i t.elf_distinct_lem l)
    k

pub elf_once : (ws : List ℕ) → SoundTables ws → (i j : ℕ) → i < sections ws → j < sections ws → (section_at ws i).elf ≡ (section_at ws j).elf → i ≡ j
elf_once ws t i j l m e =
    one_alone (λ (a b : ℕ). (a < sections ws) × (b < sections ws) × ((section_at ws a).elf ≡ (section_at ws b).elf))
    (λ a b p. (p.1, p.0, sym p.2))
    (λ a b k p. eqb-false _ _ (not-true _ (elf_new ws t b p.1 a k)) p.2)
    i j (l, m, e)

-- so a section is found by its own elf number
pub elf_index_own : (ws : List ℕ) → SoundTables ws → (i : ℕ) → i < sections ws → elf_index ws (section_at ws i).elf ≡ Some i
elf_index_own ws t i l =
    first_at (has_elf ws (section_at ws i).elf) (sections ws) i l
    (λ j k. ne_eqb _ _ (λ (e : (section_at ws j).elf ≡ (section_at ws i).elf). absurd (omega (arith, elf_once ws t j i (omega arith) l e))))
    (eq-eqb (section_at ws i).elf (section_at ws i).elf refl)

-- in an Executable no address is in two sections
apart_at : (ws : List ℕ) → SoundTables ws → image_kind ws ≡ executable_kind → (i : ℕ) → i < sections ws → (j : ℕ) → j < i
    → apart (section_at ws j) (section_at ws i) ≡ true
unfolding sections_apart
apart_at ws t x i l j k =
    every_at (λ (b : ℕ). apart (section_at ws b) (section_at ws i)) i j
    (every_at (λ (a : ℕ). every (λ (b : ℕ). apart (section_at ws b) (section_at ws a)) a) (sections ws) i
    (rw (eq-eqb (image_kind ws) executable_kind x) at t.sections_apart_lem)
    l)
    k

pub address_once : (ws : List ℕ) → SoundTables ws → image_kind ws ≡ executable_kind → (i j a : ℕ) → i < sections ws → j < sections ws
    → holds (section_at ws i) a ≡ true → holds (section_at ws j) a ≡ true → i ≡ j
address_once ws t x i j a l m h k =
    one_alone (λ (b c : ℕ). (b < sections ws) × (c < sections ws) × (holds (section_at ws b) a ≡ true) × (holds (section_at ws c) a ≡ true))
    (λ b c p. (p.1, p.0, p.3, p.2))
    (λ b c d p. apart_none_shared (section_at ws b) (section_at ws c) (apart_at ws t x c p.1 b d) a p.2 p.3)
    i j (l, m, h, k)

-- each section's data lies in the buffer
pub data_at : (ws : List ℕ) (n : ℕ) → data_inside ws n ≡ true → (i : ℕ) → i < sections ws → (section_at ws i).place + (section_at ws i).length ≤ n
unfolding data_inside
data_at ws n e i l =
    leb-true _ _ (every_at (λ (k : ℕ). leb ((section_at ws k).place + (section_at ws k).length) n) (sections ws) i e l)
