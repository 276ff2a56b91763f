-- What the contract of `gelruptai_walk` says to a caller in C: one answer, and a refusal leaves every buffer as it was.
-- Assumes nothing.
use Prim.Native.Nat.{ℕ}
use mathlib.Core.List.{List, [], ◌∷◌}
use mathlib.Core.Path.{◌≡◌, refl, sym, ◌∙◌}
use Rattle.std.specs.Prelude.{⊤, Result, Ok, Err}
use Rattle.turns.specs.declared.WalkError.{WalkError}
use Rattle.turns.specs.Walks.{Given, given, judged, walked, answer_of}
use Rattle.walk.specs.Starts.{places_of}
use Rattle.gelruptai.specs.Given.{base_in, place_in, maybe_in}
use Rattle.gelruptai.specs.Handed.{Handed, walk_on}

module _ (ws bs starts g vis stack entries : List ℕ) where
  abbrev asked : Given
  asked = given ws bs (places_of starts) (base_in g 0) (base_in g 2) (place_in g 4) (maybe_in g 6)

  -- the answer, the counts and all three buffers
  pub one_handed : (h k : Handed) → walk_on ws bs starts g vis stack entries ≡ h → walk_on ws bs starts g vis stack entries ≡ k → h ≡ k
  one_handed h k a b = sym a ∙ b

  -- 1, 4, 2, 3
  abbrev refused_as : Result ⊤ WalkError → Handed
  refused_as a = record { answer = answer_of a; counts = 0 ∷ 0 ∷ 0 ∷ 0 ∷ 0 ∷ []; map = vis; stack = stack; entries = entries }

  pub refused_touches_nothing : (h : Handed) → walk_on ws bs starts g vis stack entries ≡ h → (judged asked vis ≡ Ok tt → ⊥)
      → h ≡ refused_as (judged asked vis)
  unfolding walked
  refused_touches_nothing h allowed no_Walk = by (judged asked vis) refl
    where
      by : (a : Result ⊤ WalkError) → judged asked vis ≡ a → h ≡ refused_as (judged asked vis)
      by (Ok u) e = absurd (no_Walk e)
      by (Err x) e = sym allowed ∙ rw e
