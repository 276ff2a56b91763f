-- Tables whose words are all there, and few enough: what every reader of the tables asks.
-- Assumes nothing. `laid` of proofs/SoundTables.antt gives it of sound tables.
use Rattle.std.specs.Prelude.{ℕ, ◌≤◌, ◌≡◌, List, length}
use Rattle.image.specs.Numbers.{max_sections, max_entries}
use Rattle.image.specs.Layout.{sections, bounds, unbounds, symbols, words_in_all}

pub record Laid (ws : List ℕ) : Type 0 where
  pub laid_out : length ws ≡ words_in_all ws
  pub some_section : 1 ≤ sections ws
  pub few_sections : sections ws ≤ max_sections
  pub few_bounds : bounds ws ≤ max_entries
  pub few_unbounds : unbounds ws ≤ max_entries
  pub few_symbols : symbols ws ≤ max_entries
