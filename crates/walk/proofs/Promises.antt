-- Document 01's sentences on the walk, of what the code answers and leaves; and that its contract allows one answer alone.
-- Assumes the contract of `walk`: an answer r, a map vis' and lent words lent' that it allows for what is given.
use Prim.Native.Nat.{ℕ, ◌+◌, ◌*◌, ◌≤◌, ◌<◌}
use mathlib.Core.Path.{◌≡◌, refl, sym, ap, ◌∙◌}
use mathlib.Core.Bool.{Bool, true, false}
use mathlib.Core.List.{List}
use native.Mathlib.Omega.{arith}
use lib.ListN.{length}
use Rattle.std.specs.Prelude.{⊤, Result, Ok, Err}
use Rattle.words.specs.Choice.{pick}
use Rattle.places.specs.declared.SectionAddress.{SectionAddress}
use Rattle.image.specs.Rules.{code_words}
use Rattle.lookups.specs.Code.{code_place, word_number}
use Rattle.vm.specs.declared.VM.{VM}
use Rattle.vm.specs.States.{bases_of}
use Rattle.visited.specs.Bits.{bit_at, visited_at, ones_below}
use Rattle.turns.specs.declared.WalkError.{WalkError}
use Rattle.turns.specs.declared.WalkError.TheVariants as error
use Rattle.turns.specs.declared.Walked.{Walked}
use Rattle.turns.specs.Turns.{ended}
use Rattle.turns.specs.Histories.{first_visits, tables, ReachedFrom}
use Rattle.turns.specs.Moves.{Lent, is_fine, is_read}
use Rattle.turns.specs.Walks.{Given, Leaves, answer_of, ground_in, judged, walk_over, refused_with, left_by, walked}
use Rattle.turns.proofs.Missed.{Wanted}
use Rattle.turns.proofs.Tallies.{read_or_not}
use Rattle.turns.proofs.WalkLaws as laws

-- what the contract of `walk` allows
abbrev pub Allows : Given → List ℕ → Lent → Walked → List ℕ → Lent → Type 0
Allows i vis lent r vis' lent' = walked i vis lent ≡ record { result = r; vis = vis'; lent = lent' }

-- one answer, one map, one stack and entry buffer
pub one_answer : (i : Given) (vis : List ℕ) (lent : Lent) (r q : Walked) (vis' vis'' : List ℕ) (lent' lent'' : Lent)
    → Allows i vis lent r vis' lent' → Allows i vis lent q vis'' lent'' → (r ≡ q) × (vis' ≡ vis'') × (lent' ≡ lent'')
one_answer i vis lent r q vis' vis'' lent' lent'' a b =
    let same = sym a ∙ b in
    (ap (λ (x : Leaves). x.result) same, ap (λ (x : Leaves). x.vis) same, ap (λ (x : Leaves). x.lent) same)

-- an answer other than 0 and 5 is a refusal: the judgement, with counts 0, and nothing is touched
pub record Untouched (i : Given) (vis : List ℕ) (lent : Lent) (r : Walked) (vis' : List ℕ) (lent' : Lent) : Type 0 where
  pub answers : r.answer ≡ judged i vis
  pub counts : (r.stepped ≡ 0) × (r.begun ≡ 0) × (r.read ≡ 0) × (r.not_read ≡ 0) × (r.held ≡ 0)
  pub map : vis' ≡ vis
  pub words : lent' ≡ lent

untouched : (i : Given) (vis : List ℕ) (lent : Lent) (r : Walked) (vis' : List ℕ) (lent' : Lent) (e : WalkError) → judged i vis ≡ Err e
    → refused_with e vis lent ≡ record { result = r; vis = vis'; lent = lent' } → Untouched i vis lent r vis' lent'
untouched i vis lent r vis' lent' e f same = record {
  answers = sym (ap (λ (x : Leaves). x.result.answer) same) ∙ sym f;
  counts = (
    sym (ap (λ (x : Leaves). x.result.stepped) same),
    sym (ap (λ (x : Leaves). x.result.begun) same),
    sym (ap (λ (x : Leaves). x.result.read) same),
    sym (ap (λ (x : Leaves). x.result.not_read) same),
    sym (ap (λ (x : Leaves). x.result.held) same),
  );
  map = sym (ap (λ (x : Leaves). x.vis) same);
  words = sym (ap (λ (x : Leaves). x.lent) same);
}

module _ (i : Given) (vis : List ℕ) (lent : Lent) (r : Walked) (vis' : List ℕ) (lent' : Lent) (allowed : Allows i vis lent r vis' lent') where
  abbrev W : ℕ
  W = code_words i.tables

  pub refusal : (judged i vis ≡ Ok tt → ⊥) → Untouched i vis lent r vis' lent'
  unfolding walked
  refusal no_Walk = by (judged i vis) refl
    where
      by : (a : Result ⊤ WalkError) → judged i vis ≡ a → Untouched i vis lent r vis' lent'
      by (Ok u) e = absurd (no_Walk e)
      by (Err x) e = untouched i vis lent r vis' lent' x e (rw e at allowed)

  -- of a walk that nothing refused
  module _ (fine : judged i vis ≡ Ok tt) where
    ends_so : left_by (walk_over i vis lent) ≡ record { result = r; vis = vis'; lent = lent' }
    ends_so = sym (laws.walked_whole i vis lent fine) ∙ allowed

    map_is : (walk_over i vis lent).vis ≡ vis'
    map_is = ap (λ (x : Leaves). x.vis) ends_so

    -- the walk that is answered ran to its end
    pub ran_to_its_end : ended (ground_in i lent) (walk_over i vis lent) ≡ true
    ran_to_its_end = laws.walk_ends i vis lent fine

    -- "Steps that found their word unvisited number exactly the ones below bit W"
    pub ones_are_first_visits : ones_below vis' W ≡ first_visits (walk_over i vis lent).pile.log
    ones_are_first_visits = rw (← map_is) (sym (laws.first_visits_lem i vis lent fine))

    -- "Blocks begun never exceed W"
    pub blocks_at_most : r.begun ≤ W
    blocks_at_most = rw (← ap (λ (x : Leaves). x.result.begun) ends_so) (laws.few_blocks i vis lent fine)

    -- "steps never exceed W times W"
    pub steps_at_most : r.stepped ≤ W * W
    steps_at_most = rw (← ap (λ (x : Leaves). x.result.stepped) ends_so) (laws.few_steps i vis lent fine)

    -- tables read and not read are those that stepped words asked for
    pub tables_are_asked : r.read + r.not_read ≡ tables (walk_over i vis lent).pile.log
    tables_are_asked =
        rw (← ap (λ (x : Leaves). x.result.read) ends_so, ← ap (λ (x : Leaves). x.result.not_read) ends_so) (read_or_not is_read (walk_over i vis lent).pile.log)

    -- "Bits from W up stay as they were", and the map's length
    pub high_bits_kept : (b : ℕ) → W ≤ b → bit_at vis' b ≡ bit_at vis b
    high_bits_kept b high = rw (← map_is) (laws.high_bits i vis lent fine b high)

    pub map_length_kept : length vis' ≡ length vis
    map_length_kept = rw (← map_is) (laws.map_length i vis lent fine)

    -- nothing is made up: a visited word was reached from a start
    pub visited_was_reached : (b : ℕ) → b < W → bit_at vis' b ≡ 1
        → (p : SectionAddress) × (s : VM) × ReachedFrom (ground_in i lent) i.starts (bases_of i.two i.thirteen) p s
        × (is_fine (code_place i.tables p) ≡ true) × (word_number i.tables p ≡ b)
    visited_was_reached b low one = laws.visited_reached i vis lent fine b low (rw map_is one)

    -- a walk of one block alone is ruled out: where the answer is 0, every start is visited, every word of code that a stepped word
    -- leads to, and nothing waits
    module _ (zero : r.answer ≡ Ok tt) where
      not_full : (walk_over i vis lent).pile.full ≡ false
      not_full = by (walk_over i vis lent).pile.full (ap (λ (x : Leaves). x.result.answer) ends_so ∙ zero)
        where
          by : (t : Bool) → ◌≡◌ {A = Result ⊤ WalkError} (pick t (Err error.StackFull) (Ok tt)) (Ok tt) → t ≡ false
          by true e = let z = ap answer_of e in absurd (omega arith)
          by false e = refl

      pub none_missed : (q : SectionAddress) → Wanted (ground_in i lent) (laws.lawful i vis lent fine) i.starts (walk_over i vis lent).pile.log q
          → is_fine (code_place i.tables q) ≡ true → visited_at vis' (word_number i.tables q) ≡ true
      none_missed q wanted word = rw (← map_is) (laws.none_missed i vis lent fine not_full q wanted word)

      pub none_waits : r.held ≡ 0
      none_waits = sym (ap (λ (x : Leaves). x.result.held) ends_so) ∙ ap length (laws.done_empty i vis lent fine not_full)
