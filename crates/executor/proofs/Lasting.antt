-- What a call leaves is fit for the next: 1, 12 and 4 never answer a caller who hands back what he was handed, and he can always go on.
-- Assumes nothing.
use Prim.Native.Nat.{ℕ, ◌≤◌}
use mathlib.Core.Path.{◌≡◌, refl, sym, ◌∙◌, subst}
use Rattle.std.specs.Prelude.{Result, Ok}
use mathlib.Core.Bool.{Bool, true, false, not}
use mathlib.Core.List.{List, []}
use native.Mathlib.Omega.{arith}
use lib.ListN.{length}
use Rattle.words.specs.Choice.{pick}
use Rattle.places.specs.Places.{moved}
use Rattle.places.specs.declared.SectionAddress.{SectionAddress}
use Rattle.lookups.specs.Code.{word_number}
use Rattle.vm.specs.declared.VM.{VM}
use Rattle.stack.specs.Stack.{entries, held_at}
use Rattle.visited.specs.Bits.{with_bit}
use Rattle.visited.proofs.BitLaws.{inserted_length}
use Rattle.executor.specs.declared.Refusal.{Refusal}
use Rattle.executor.specs.declared.Phase.{Phase}
use Rattle.executor.specs.declared.Phase.TheVariants as phase
use Rattle.executor.specs.declared.Execution.{Execution}
use Rattle.executor.specs.declared.ExecCbResult.{ExecCbResult}
use Rattle.executor.specs.declared.ExecCbResult.TheVariants as how
use Rattle.executor.specs.Standing.{Standing, standing, execution, dropped, number_of, kept_of, first_failing}
use Rattle.executor.specs.Judge.{is_word, is_placed}
use Rattle.executor.specs.Next.{seen, Nexted, ended_at, stepped_at, resumed, popped, next_of, next_call}
use Rattle.executor.specs.Reply.{jumped, followed, reply_call}
use Rattle.executor.specs.Calls.{Kept, kept_by, with_state, Call, asked, answered}
use Rattle.executor.proofs.Answering.{next_is}
use Rattle.executor.proofs.Judging.{lawful_says, lawful_by, held_word, fewer_held, fewer_words, word_fine}
use Rattle.executor.proofs.Waiting.{entries_length, Found, all_seen, found, find}
use Rattle.executor.proofs.Ahead.{word_or_end}
use Rattle.executor.proofs.Refusals.{waits, jump_tests, next_number, reply_number}
use Rattle.executor.proofs.Accepted.{Fit, fit_judged, accepted_next, accepted_reply, accepted_jump, waiting, reply_is}

module _ (im bs words : List ℕ) where
  abbrev FitKept : Kept → Type 0
  FitKept k = Fit im bs words k.count k.map k.run

  -- fewer states, a map of the same length, a place where it may be
  fit_again : (n : ℕ) (v : List ℕ) (run : Execution) → Fit im bs words n v run → (m : ℕ) (v' : List ℕ) (run' : Execution)
      → m ≤ n → length v' ≡ length v → is_placed im run'.phase run'.at ≡ true → Fit im bs words m v' run'
  fit_again n v run f m v' run' l e h =
      let j = fit_judged f in
      record {
        fine = lawful_by im (length bs) words m run'.phase run'.at j.image (fewer_held words n m j.held l) (fewer_words im words n m l j.at_words) h;
        room = rw e f.room;
      }

  module _ (k : Kept) (f : FitKept k) where
    abbrev here : Standing
    here = standing (entries words k.count) k.map k.run

    -- a stepped word, with fewer states
    stepped_fit : (m : ℕ) (p start : SectionAddress) (s : VM) → m ≤ k.count → is_word im p ≡ true
        → FitKept (kept_by (stepped_at im bs (entries words m) k.map p start s))
    stepped_fit m p start s l w =
        rw (entries_length words m)
        (fit_again k.count k.map k.run f m (with_bit k.map (word_number im p)) (stepped_at im bs (entries words m) k.map p start s).then.run l
        (inserted_length k.map (word_number im p)) w)

    became : (q r : Nexted) → q ≡ r → FitKept (kept_by r) → FitKept (kept_by q)
    became q r e h = subst (λ (x : Nexted). FitKept (kept_by x)) (sym e) h

    pop_fit : Found im k.map words k.count → FitKept (kept_by (popped im bs here))
    pop_fit (all_seen a) =
        became (popped im bs here) (ended_at [] k.map k.run) (rw a)
        (fit_again k.count k.map k.run f 0 k.map (dropped k.run) (omega arith) refl refl)
    pop_fit (found m l a new) =
        let e = held_at words m in
        became (popped im bs here) (stepped_at im bs (entries words m) k.map e.place e.place e.state) (rw a)
        (stepped_fit m e.place e.place e.state (omega arith) (held_word im words k.count m (fit_judged f).at_words l))

    run_fit : (t : Bool) → is_word im k.run.at ≡ t → FitKept (kept_by (resumed im bs here))
    run_fit true w =
        became (resumed im bs here) (stepped_at im bs (entries words k.count) k.map k.run.at k.run.block_start k.run.vm) (rw w)
        (stepped_fit k.count k.run.at k.run.block_start k.run.vm (omega arith) w)
    run_fit false w =
        became (resumed im bs here) (ended_at (entries words k.count) k.map k.run) (rw w)
        (rw (entries_length words k.count) (fit_again k.count k.map k.run f k.count k.map (dropped k.run) (omega arith) refl refl))

    next_fit : (ph : Phase) → k.run.phase ≡ ph → not (waits ph) ≡ true → FitKept (kept_by (next_of im bs here))
    next_fit phase.Idle e free = became (next_of im bs here) (popped im bs here) (rw e) (pop_fit (find im k.map words k.count))
    next_fit phase.Running e free = became (next_of im bs here) (resumed im bs here) (rw e) (run_fit (is_word im k.run.at) refl)
    next_fit phase.Waiting e free = absurd (cc)

  -- a reply: nothing under way, or a run at a word or its section's end
  module _ (k : Kept) (s : VM) (f : Fit im bs words k.count k.map (with_state k.run s)) (waits-now : k.run.phase ≡ phase.Waiting) where
    abbrev run : Execution
    run = with_state k.run s

    abbrev FitWith : Result Execution Refusal → Type 0
    FitWith r = Fit im bs words k.count k.map (kept_of k.run r)

    placed_fit : (r : Execution) → is_placed im r.phase r.at ≡ true → Fit im bs words k.count k.map r
    placed_fit r h = fit_again k.count k.map run f k.count k.map r (omega arith) refl h

    jump_fit : (q : SectionAddress) → is_word im q ≡ true → (t : Bool) → FitWith (Ok (pick t (dropped run) (execution phase.Running q q s)))
    jump_fit q w true = placed_fit (dropped run) refl
    jump_fit q w false = placed_fit (execution phase.Running q q s) (rw w)

    reply_fit : (h : ExecCbResult) → first_failing (jump_tests im run h) ≡ 0 → FitWith (followed im k.map run h)
    reply_fit how.Continue e =
        placed_fit (execution phase.Running (moved run.at 4) run.block_start run.vm)
        (word_or_end im run.at (fit_judged f).tables (rw waits-now at (fit_judged f).placed))
    reply_fit (how.Jump q) e =
        let ok = accepted_jump im run q e in
        let is : jumped im k.map run q ≡ Ok (pick (seen im k.map q) (dropped run) (execution phase.Running q q s)) =
        rw (ok.0, word_fine im q ok.1) in
        subst FitWith (sym is) (jump_fit q ok.1 (seen im k.map q))
    reply_fit how.EndBlock e = placed_fit (dropped run) refl
    reply_fit how.End e = placed_fit (dropped run) refl

  -- what an accepted call leaves is fit
  pub call_fit : (k l : Kept) → Call im bs words k l → FitKept l
  call_fit k _ (asked e) =
      let a = accepted_next im bs words k.count k.map k.run e in
      became k a.0 (next_call im bs words k.count k.map k.run) (next_of im bs (standing (entries words k.count) k.map k.run))
      (next_is im bs words k.count k.map k.run a.0.fine a.0.room) (next_fit k a.0 k.run.phase refl a.1)
  call_fit k _ (answered how s e) =
      let a = accepted_reply im bs words k.count k.map (with_state k.run s) how e in
      let w = waiting k.run.phase a.1 in
      subst (λ (r : Result Execution Refusal). Fit im bs words k.count k.map (kept_of k.run r))
      (sym (reply_is im bs words k.count k.map (with_state k.run s) how a.0 w)) (reply_fit k s a.0 w how a.2)

  -- the caller can go on: by asking where nothing waits, by any reply but a Jump where something does
  pub can_ask : (k : Kept) → FitKept k → waits k.run.phase ≡ false → number_of (next_call im bs words k.count k.map k.run).outcome ≡ 0
  unfolding first_failing
  can_ask k f w =
      let says = lawful_says im (length bs) words k.count k.run.phase k.run.at f.fine in
      next_number im bs words k.count k.map k.run ∙ rw (says.0, says.1, f.room, w)

  pub can_reply : (k : Kept) (h : ExecCbResult) → FitKept k → waits k.run.phase ≡ true → first_failing (jump_tests im k.run h) ≡ 0
      → number_of (reply_call im (length bs) words k.count k.map k.run h) ≡ 0
  unfolding first_failing
  can_reply k h f w e =
      let says = lawful_says im (length bs) words k.count k.run.phase k.run.at f.fine in
      reply_number im k.map k.run (length bs) words k.count h ∙ rw (says.0, says.1, f.room, w, e)
