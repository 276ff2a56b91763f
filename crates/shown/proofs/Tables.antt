-- What sound tables give a reader of sections: Code words are few.
-- Assumes nothing.
use mathlib.Core.Path.{◌≡◌}
use mathlib.Core.Bool.{true}
use mathlib.Core.List.{List}
use Prim.Native.Nat.{ℕ, ◌+◌, ◌≤◌, ◌<◌}
use native.Mathlib.Omega.{arith}
use Rattle.image.specs.Layout.{sections, section_at}
use Rattle.image.specs.Rules.{words_of, words_before, tables_sound}
use Rattle.image.proofs.SoundTables.{sound_tables}
use Rattle.image.proofs.CodeWords.{words_ahead_lem}

module _ (ws : List ℕ) (sound : tables_sound ws ≡ true) where
  pub words_inside : (i : ℕ) → i < sections ws → words_before ws i + words_of (section_at ws i) ≤ 262144
  words_inside i h = omega (arith, words_ahead_lem ws i (sections ws) h, (sound_tables ws sound).few_code_words_lem)
