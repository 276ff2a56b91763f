-- What sound tables are, each rule by its name; the rules at each index are in SectionLaws and EntryLaws.
-- Assumes nothing.
use mathlib.Core.Path.{◌≡◌}
use mathlib.Core.Bool.{true, ◌&&◌}
use mathlib.Core.List.{List, [], ◌∷◌}
use Prim.Native.Nat.{ℕ, ◌≤◌, ◌<◌}
use native.Mathlib.Omega.{arith}
use lib.ListN.{length}
use lib.Dec.{leb}
use borrow.Author.Tests.{eqb-true, leb-true, ltb-true}
use Rattle.search.proofs.EveryLaws.{and_left, and_right}
use Rattle.search.proofs.Conjunction.{chain_first, chain_at}
use Rattle.image.specs.Numbers.{max_sections, max_entries, max_code_words}
use Rattle.image.specs.Layout.{image_kind, sections, bounds, unbounds, symbols, words_in_all}
use Rattle.image.specs.Rules.{laid_out, counted, kind_known, sections_sound, elf_distinct, sections_apart, few_code_words, bounds_sound, bounds_ascend, unbounds_sound, symbols_sound, symbols_ascend, code_words, tables_sound, data_inside, sound}
use Rattle.image.specs.Laid.{Laid}

-- words that are laid out have a head
pub long_head : (ws : List ℕ) → laid_out ws ≡ true → 5 < length ws
long_head ws e = let q : length ws ≡ words_in_all ws = eqb-true _ _ e in omega arith

pub laid_by : (ws : List ℕ) → laid_out ws ≡ true → counted ws ≡ true → Laid ws
laid_by ws e h =
    let first = leb 1 (sections ws) in
    let rest = leb (sections ws) max_sections ∷ leb (bounds ws) max_entries ∷ leb (unbounds ws) max_entries ∷ leb (symbols ws) max_entries ∷ [] in
    record {
      laid_out = eqb-true _ _ e;
      some_section = leb-true _ _ (chain_first first rest h);
      few_sections = leb-true _ _ (chain_at first rest 0 h);
      few_bounds = leb-true _ _ (chain_at first rest 1 h);
      few_unbounds = leb-true _ _ (chain_at first rest 2 h);
      few_symbols = leb-true _ _ (chain_at first rest 3 h);
    }

-- the rules on the head are enough
pub laid_head : (ws : List ℕ) → laid_out ws && counted ws && kind_known ws ≡ true → Laid ws
laid_head ws e =
    let rest = counted ws ∷ kind_known ws ∷ [] in
    laid_by ws (chain_first (laid_out ws) rest e) (chain_at (laid_out ws) rest 0 e)

pub record SoundTables (ws : List ℕ) : Type 0 where
  pub laid : Laid ws
  pub kind_known_lem : image_kind ws < 2
  pub sections_sound_lem : sections_sound ws ≡ true
  pub elf_distinct_lem : elf_distinct ws ≡ true
  pub sections_apart_lem : sections_apart ws ≡ true
  pub few_code_words_lem : code_words ws ≤ max_code_words
  pub bounds_sound_lem : bounds_sound ws ≡ true
  pub bounds_ascend_lem : bounds_ascend ws ≡ true
  pub unbounds_sound_lem : unbounds_sound ws ≡ true
  pub symbols_sound_lem : symbols_sound ws ≡ true
  pub symbols_ascend_lem : symbols_ascend ws ≡ true

pub sound_tables : (ws : List ℕ) → tables_sound ws ≡ true → SoundTables ws
unfolding tables_sound
sound_tables ws e =
    let first = laid_out ws in
    let rest =
    counted ws ∷ kind_known ws ∷ sections_sound ws ∷ elf_distinct ws ∷ sections_apart ws ∷ few_code_words ws ∷ bounds_sound ws ∷ bounds_ascend ws ∷ unbounds_sound ws ∷ symbols_sound ws ∷ symbols_ascend ws ∷ [] in
    record {
      laid = laid_by ws (chain_first first rest e) (chain_at first rest 0 e);
      kind_known_lem = ltb-true _ _ (chain_at first rest 1 e);
      sections_sound_lem = chain_at first rest 2 e;
      elf_distinct_lem = chain_at first rest 3 e;
      sections_apart_lem = chain_at first rest 4 e;
      few_code_words_lem = leb-true _ _ (chain_at first rest 5 e);
      bounds_sound_lem = chain_at first rest 6 e;
      bounds_ascend_lem = chain_at first rest 7 e;
      unbounds_sound_lem = chain_at first rest 8 e;
      symbols_sound_lem = chain_at first rest 9 e;
      symbols_ascend_lem = chain_at first rest 10 e;
    }

pub laid : (ws : List ℕ) → tables_sound ws ≡ true → Laid ws
laid ws e = (sound_tables ws e).laid

-- a sound image has sound tables, and its data inside the buffer
pub tables_of_sound : (ws : List ℕ) (n : ℕ) → sound ws n ≡ true → tables_sound ws ≡ true
tables_of_sound ws n e = and_left (tables_sound ws) (data_inside ws n) e

pub data_of_sound : (ws : List ℕ) (n : ℕ) → sound ws n ≡ true → data_inside ws n ≡ true
data_of_sound ws n e = and_right (tables_sound ws) (data_inside ws n) e
