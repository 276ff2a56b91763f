-- What each call answers, by what was judged.
-- Assumes nothing.
use Prim.Native.Nat.{ℕ, ◌-◌}
use mathlib.Core.Path.{◌≡◌, sym, ap, ◌∙◌}
use mathlib.Core.Bool.{Bool, true, false}
use mathlib.Core.List.{List, []}
use Rattle.std.specs.Prelude.{Result, Ok}
use lib.ListN.{length}
use borrow.Author.Tests.{ne_eqb}
use Rattle.words.specs.Choice.{pick}
use Rattle.image.specs.Rules.{code_words}
use Rattle.visited.specs.Bits.{has_room}
use Rattle.stack.specs.Stack.{Entry, entries, held_at}
use Rattle.executor.specs.declared.Refusal.{Refusal}
use Rattle.executor.specs.declared.Phase.TheVariants as phase
use Rattle.executor.specs.declared.Execution.{Execution}
use Rattle.executor.specs.declared.Handed.{Handed}
use Rattle.executor.specs.Standing.{Standing, standing}
use Rattle.executor.specs.Judge.{is_word, verdict_of}
use Rattle.executor.specs.Next.{Nexted, none, some, ended_at, stepped_at, resumed, popped, next_of, next_call, handed_with, handed_by, AnsweredBy, Tops}
use Rattle.executor.proofs.Waiting.{entries_length}

-- a result in two parts, of a definition in two parts
answers : (q q' : Nexted) (r : Result Handed Refusal) (v : List ℕ) → q ≡ q' → AnsweredBy q' r v → AnsweredBy q r v
answers q q' r v e h = (h.0 ∙ ap handed_by (sym e), h.1 ∙ ap (λ (x : Nexted). x.then.map) (sym e))

module _ (im bs words : List ℕ) (n : ℕ) (v : List ℕ) (run : Execution) where
  abbrev here : Standing
  here = standing (entries words n) v run

  module _ (fine : verdict_of im (length bs) words n run.phase run.at ≡ Ok tt) (room : has_room v (code_words im) ≡ true) where
    pub next_is : next_call im bs words n v run ≡ next_of im bs here
    next_is = rw (fine, room)

    pub next_run : (r : Result Handed Refusal) (v' : List ℕ) → run.phase ≡ phase.Running
        → r ≡ handed_with (resumed im bs (standing [] v run)) n → v' ≡ (resumed im bs (standing [] v run)).then.map
        → AnsweredBy (next_call im bs words n v run) r v'
    next_run r v' e h g = answers (next_call im bs words n v run) (resumed im bs here) r v' (next_is ∙ rw e) (by (is_word im run.at) h g)
      where
        go : List Entry → Bool → Nexted
        go es t = pick t (stepped_at im bs es v run.at run.block_start run.vm) (ended_at es v run)

        by : (t : Bool) → r ≡ handed_with (go [] t) n → v' ≡ (go [] t).then.map → AnsweredBy (go (entries words n) t) r v'
        by true a b = (a ∙ ap (handed_with (go [] true)) (sym (entries_length words n)), b)
        by false a b = (a ∙ ap (handed_with (go [] false)) (sym (entries_length words n)), b)

  -- a pop where some states are left
  pub popped_some : (m : ℕ) (r : Result Handed Refusal) (v' : List ℕ) → Tops im v words n m → (m ≡ 0 → ⊥)
      → r ≡ handed_with (stepped_at im bs [] v (held_at words (m - 1)).place (held_at words (m - 1)).place (held_at words (m - 1)).state) (m - 1)
      → v' ≡ (stepped_at im bs [] v (held_at words (m - 1)).place (held_at words (m - 1)).place (held_at words (m - 1)).state).then.map
      → AnsweredBy (popped im bs here) r v'
  popped_some m r v' t z h g =
      let e = held_at words (m - 1) in
      answers (popped im bs here) (stepped_at im bs (entries words (m - 1)) v e.place e.place e.state) r v'
      (rw (t.same ∙ ap (λ (b : Bool). pick b none (some (entries words (m - 1)) e)) (ne_eqb m 0 z)))
      (h ∙ ap (handed_with (stepped_at im bs [] v e.place e.place e.state)) (sym (entries_length words (m - 1))), g)
