-- Each answer is given exactly where its row says, in document 01's order, and a refusal leaves everything as it was.
-- Assumes nothing.
use Prim.Native.Nat.{ℕ, ◌+◌, ◌%◌}
use mathlib.Core.Path.{◌≡◌, refl}
use Rattle.std.specs.Prelude.{Result, Ok, Err}
use Rattle.std.specs.Result.{result_and}
use mathlib.Core.Bool.{Bool, true, false, not}
use mathlib.Core.List.{List, [], ◌∷◌}
use lib.Dec.{eqb, ltb}
use lib.ListN.{length}
use Rattle.words.specs.Choice.{pick}
use Rattle.places.specs.declared.SectionAddress.{SectionAddress}
use Rattle.image.specs.Rules.{sound, code_words}
use Rattle.lookups.specs.Code.{in_code}
use Rattle.vm.specs.declared.VM.{VM}
use Rattle.stack.specs.Push.{pushed_words}
use Rattle.stack.specs.Stack.{entries, room}
use Rattle.visited.specs.Bits.{has_room}
use Rattle.executor.specs.declared.Refusal.{Refusal}
use Rattle.executor.specs.declared.Refusal.TheVariants as refusal
use Rattle.executor.specs.declared.Phase.{Phase}
use Rattle.executor.specs.declared.Phase.TheVariants as phase
use Rattle.executor.specs.declared.Execution.{Execution}
use Rattle.executor.specs.declared.ExecCbResult.{ExecCbResult}
use Rattle.executor.specs.declared.ExecCbResult.TheVariants as how
use Rattle.executor.specs.Standing.{Standing, standing, execution, dropped, on_phase, on_answer, number_of, kept_of, first_failing}
use Rattle.executor.specs.Judge.{test, place_answer, is_word, lawful}
use Rattle.executor.specs.Next.{seen, Top, none, some, on_top, top, Nexted, refused_at, ended_at, stepped_at, resumed, popped, next_call}
use Rattle.executor.specs.Reply.{followed, reply_call}
use Rattle.executor.specs.Push.{Pushes, pushes, push_call}
use Rattle.executor.specs.Visits.{visit_call}
use Rattle.lookups.specs.declared.PlaceError.TheVariants as place

-- an instruction waits
abbrev pub waits : Phase → Bool
waits ph = on_phase ph false false true

-- `next`: 1, 12, 4, 11
module _ (im bs words : List ℕ) (n : ℕ) (v : List ℕ) (run : Execution) where
  abbrev here : Standing
  here = standing (entries words n) v run

  by_top : (t : Top) → number_of (on_top t (ended_at [] v run) (λ es e. stepped_at im bs es v e.place e.place e.state)).outcome ≡ 0
  by_top none = refl
  by_top (some es e) = refl

  by_word : (t : Bool)
      → number_of (pick t (stepped_at im bs (entries words n) v run.at run.block_start run.vm) (ended_at (entries words n) v run)).outcome ≡ 0
  by_word true = refl
  by_word false = refl

  next_by : (s l r : Bool) (ph : Phase) (i g : Nexted) → number_of i.outcome ≡ 0 → number_of g.outcome ≡ 0
      → (q : Nexted)
      → q ≡ on_answer (result_and (result_and (test s refusal.BrokenImage) (test l refusal.BadStack)) (test r refusal.SmallMap))
      (λ why. refused_at why here) (λ fine. on_phase ph i g (refused_at refusal.OutOfTurn here))
      → (number_of q.outcome ≡ first_failing ((s, 1) ∷ (l, 12) ∷ (r, 4) ∷ (not (waits ph), 11) ∷ []))
      × ((number_of q.outcome ≡ 0 → ⊥) → q.then ≡ here)
  unfolding first_failing
  next_by true true true phase.Idle i g a b q e = rw e (a, λ no. absurd (no a))
  next_by true true true phase.Running i g a b q e = rw e (b, λ no. absurd (no b))
  next_by true true true phase.Waiting i g a b q e = rw e (refl, λ no. refl)
  next_by true true false ph i g a b q e = rw e (refl, λ no. refl)
  next_by true false r ph i g a b q e = rw e (refl, λ no. refl)
  next_by false l r ph i g a b q e = rw e (refl, λ no. refl)

  next_said : (number_of (next_call im bs words n v run).outcome
      ≡ first_failing ((sound im (length bs), 1) ∷ (lawful im words n run.phase run.at, 12) ∷ (has_room v (code_words im), 4) ∷ (not (waits run.phase), 11) ∷ []))
      × ((number_of (next_call im bs words n v run).outcome ≡ 0 → ⊥) → (next_call im bs words n v run).then ≡ here)
  next_said =
      next_by (sound im (length bs)) (lawful im words n run.phase run.at) (has_room v (code_words im)) run.phase
      (popped im bs here) (resumed im bs here) (by_top (top im v (entries words n))) (by_word (is_word im run.at)) (next_call im bs words n v run) refl

  pub next_number : number_of (next_call im bs words n v run).outcome
      ≡ first_failing ((sound im (length bs), 1) ∷ (lawful im words n run.phase run.at, 12) ∷ (has_room v (code_words im), 4) ∷ (not (waits run.phase), 11) ∷ [])
  next_number = next_said.0

  pub refused_next_touches_nothing : (number_of (next_call im bs words n v run).outcome ≡ 0 → ⊥) → (next_call im bs words n v run).then ≡ here
  refused_next_touches_nothing = next_said.1

-- `reply`: 1, 12, 4, 11, and for a Jump 6, 2, 3
abbrev pub jump_tests : List ℕ → Execution → ExecCbResult → List (Bool × ℕ)
jump_tests im run how.Continue = []
jump_tests im run (how.Jump q) = (eqb q.section run.at.section, 6) ∷ (in_code im q, 2) ∷ (eqb (q.address % 4) 0, 3) ∷ []
jump_tests im run how.EndBlock = []
jump_tests im run how.End = []

module _ (im v : List ℕ) (run : Execution) where
  abbrev Said : Result Execution Refusal → ℕ → Type 0
  Said r k = (number_of r ≡ k) × ((number_of r ≡ 0 → ⊥) → kept_of run r ≡ run)

  jump_by_lem : (x c a t : Bool) (z w : Execution)
      → Said
      (result_and
      (result_and (test x refusal.OtherSection) (place_answer (pick c (pick a (Ok tt) (Err place.Misaligned)) (Err place.NotCode))))
      (Ok (pick t z w)))
      (first_failing ((x, 6) ∷ (c, 2) ∷ (a, 3) ∷ []))
  unfolding first_failing
  jump_by_lem true true true t z w = (refl, λ no. absurd (no refl))
  jump_by_lem true true false t z w = (refl, λ no. refl)
  jump_by_lem true false a t z w = (refl, λ no. refl)
  jump_by_lem false c a t z w = (refl, λ no. refl)

  followed_said : (h : ExecCbResult) → Said (followed im v run h) (first_failing (jump_tests im run h))
  unfolding first_failing
  followed_said how.Continue = (refl, λ no. absurd (no refl))
  followed_said (how.Jump q) =
      jump_by_lem (eqb q.section run.at.section) (in_code im q) (eqb (q.address % 4) 0) (seen im v q) (dropped run) (execution phase.Running q q run.vm)
  followed_said how.EndBlock = (refl, λ no. absurd (no refl))
  followed_said how.End = (refl, λ no. absurd (no refl))

  reply_by : (s l r : Bool) (ph : Phase) (ts : List (Bool × ℕ)) (f : Result Execution Refusal) → Said f (first_failing ts)
      → Said
      (result_and (result_and (result_and (test s refusal.BrokenImage) (test l refusal.BadStack)) (test r refusal.SmallMap))
      (on_phase ph (Err refusal.OutOfTurn) (Err refusal.OutOfTurn) f))
      (first_failing ((s, 1) ∷ (l, 12) ∷ (r, 4) ∷ (waits ph, 11) ∷ ts))
  unfolding first_failing
  reply_by true true true phase.Idle ts f e = (refl, λ no. refl)
  reply_by true true true phase.Running ts f e = (refl, λ no. refl)
  reply_by true true true phase.Waiting ts f e = e
  reply_by true true false ph ts f e = (refl, λ no. refl)
  reply_by true false r ph ts f e = (refl, λ no. refl)
  reply_by false l r ph ts f e = (refl, λ no. refl)

  module _ (d : ℕ) (words : List ℕ) (n : ℕ) (h : ExecCbResult) where
    reply_said : Said (reply_call im d words n v run h)
        (first_failing ((sound im d, 1) ∷ (lawful im words n run.phase run.at, 12) ∷ (has_room v (code_words im), 4) ∷ (waits run.phase, 11) ∷ jump_tests im run h))
    reply_said =
        reply_by (sound im d) (lawful im words n run.phase run.at) (has_room v (code_words im)) run.phase (jump_tests im run h)
        (followed im v run h) (followed_said h)

    pub reply_number : number_of (reply_call im d words n v run h)
        ≡ first_failing ((sound im d, 1) ∷ (lawful im words n run.phase run.at, 12) ∷ (has_room v (code_words im), 4) ∷ (waits run.phase, 11) ∷ jump_tests im run h)
    reply_number = reply_said.0

    pub refused_reply_still_waits : (number_of (reply_call im d words n v run h) ≡ 0 → ⊥) → kept_of run (reply_call im d words n v run h) ≡ run
    refused_reply_still_waits = reply_said.1

-- `push`: 1, 12, 2, 3, 5
module _ (im : List ℕ) (d : ℕ) (words : List ℕ) (n : ℕ) (p : SectionAddress) (s : VM) (sorted : Bool) where
  push_by : (t l c a f : Bool) (k : ℕ) (words' : List ℕ) (q : Pushes)
      → q ≡ on_answer
      (result_and (result_and (test t refusal.BrokenImage) (test l refusal.BadStack))
      (place_answer (pick c (pick a (Ok tt) (Err place.Misaligned)) (Err place.NotCode))))
      (λ why. pushes (Err why) words) (λ fine. pick f (pushes (Ok k) words') (pushes (Err refusal.StackFull) words))
      → (number_of q.result ≡ first_failing ((t, 1) ∷ (l, 12) ∷ (c, 2) ∷ (a, 3) ∷ (f, 5) ∷ []))
      × ((number_of q.result ≡ 0 → ⊥) → (kept_of n q.result ≡ n) × (q.words ≡ words))
  unfolding first_failing
  push_by true true true true true k words' q e = rw e (refl, λ no. absurd (no refl))
  push_by true true true true false k words' q e = rw e (refl, λ no. (refl, refl))
  push_by true true true false f k words' q e = rw e (refl, λ no. (refl, refl))
  push_by true true false a f k words' q e = rw e (refl, λ no. (refl, refl))
  push_by true false c a f k words' q e = rw e (refl, λ no. (refl, refl))
  push_by false l c a f k words' q e = rw e (refl, λ no. (refl, refl))

  push_said : (number_of (push_call im d words n p s sorted).result
      ≡ first_failing ((sound im d, 1) ∷ (lawful im words n phase.Idle p, 12) ∷ (in_code im p, 2) ∷ (eqb (p.address % 4) 0, 3) ∷ (ltb n (room (length words)), 5) ∷ []))
      × ((number_of (push_call im d words n p s sorted).result ≡ 0 → ⊥) → (kept_of n (push_call im d words n p s sorted).result ≡ n) × ((push_call im d words n p s sorted).words ≡ words))
  push_said =
      push_by (sound im d) (lawful im words n phase.Idle p) (in_code im p) (eqb (p.address % 4) 0) (ltb n (room (length words)))
      (n + 1) (pushed_words words n p s sorted) (push_call im d words n p s sorted) refl

  pub push_number : number_of (push_call im d words n p s sorted).result
      ≡ first_failing ((sound im d, 1) ∷ (lawful im words n phase.Idle p, 12) ∷ (in_code im p, 2) ∷ (eqb (p.address % 4) 0, 3) ∷ (ltb n (room (length words)), 5) ∷ [])
  push_number = push_said.0

  pub refused_push_touches_nothing : (number_of (push_call im d words n p s sorted).result ≡ 0 → ⊥)
      → (kept_of n (push_call im d words n p s sorted).result ≡ n) × ((push_call im d words n p s sorted).words ≡ words)
  refused_push_touches_nothing = push_said.1

-- `visited`: 1, 4, 2, 3
pub visit_number : (im : List ℕ) (d : ℕ) (v : List ℕ) (p : SectionAddress)
    → number_of (visit_call im d v p) ≡ first_failing ((sound im d, 1) ∷ (has_room v (code_words im), 4) ∷ (in_code im p, 2) ∷ (eqb (p.address % 4) 0, 3) ∷ [])
unfolding first_failing
visit_number im d v p = by (sound im d) (has_room v (code_words im)) (in_code im p) (eqb (p.address % 4) 0)
  where
    by : (s r c a : Bool)
        → number_of
        (result_and
        (result_and (result_and (test s refusal.BrokenImage) (test r refusal.SmallMap))
        (place_answer (pick c (pick a (Ok tt) (Err place.Misaligned)) (Err place.NotCode))))
        (Ok (seen im v p)))
        ≡ first_failing ((s, 1) ∷ (r, 4) ∷ (c, 2) ∷ (a, 3) ∷ [])
    by true true true true = refl
    by true true true false = refl
    by true true false a = refl
    by true false c a = refl
    by false r c a = refl
