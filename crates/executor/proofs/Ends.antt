-- Every run ends: a caller who asks and replies, whatever the replies, and pushes nothing more, comes to the empty stack.
-- Assumes nothing: calls that are refused are no calls here, and change nothing.
use Prim.Native.Nat.{ℕ, ◌+◌, ◌*◌, ◌≤◌, ◌<◌}
use mathlib.Core.Path.{◌≡◌, refl, sym, ap, ◌∙◌, subst}
use Rattle.std.specs.Prelude.{Result, Ok}
use mathlib.Core.Bool.{Bool, true, false, not, ◌&&◌}
use mathlib.Core.List.{List, []}
use mathlib.Core.Logic.{◌⊎◌, inl, inr}
use native.Mathlib.Nat.{mul-le-mul_right}
use native.Mathlib.Omega.{arith}
use lib.Dec.{eqb}
use lib.ListN.{length}
use borrow.Author.Tests.{eqb-true}
use Rattle.words.specs.Choice.{pick}
use Rattle.places.specs.Places.{moved}
use Rattle.places.specs.declared.SectionAddress.{SectionAddress}
use Rattle.image.specs.Rules.{code_words}
use Rattle.vm.specs.declared.VM.{VM}
use Rattle.stack.specs.Stack.{entries, held_at}
use Rattle.executor.specs.declared.Refusal.{Refusal}
use Rattle.executor.specs.declared.Phase.{Phase}
use Rattle.executor.specs.declared.Phase.TheVariants as phase
use Rattle.executor.specs.declared.Execution.{Execution}
use Rattle.executor.specs.declared.ExecCbResult.{ExecCbResult}
use Rattle.executor.specs.declared.ExecCbResult.TheVariants as how
use Rattle.executor.specs.Standing.{Standing, standing, execution, dropped, on_phase, first_failing, kept_of}
use Rattle.executor.specs.Judge.{is_word}
use Rattle.executor.specs.Next.{seen, top, Nexted, ended_at, stepped_at, resumed, popped, next_of, next_call}
use Rattle.executor.specs.Reply.{jumped, followed, reply_call}
use Rattle.executor.specs.Calls.{Kept, is_over, kept_by, with_state, Call, asked, answered, Calls, here, more, unvisited, words_ahead, calls_ahead, calls_left}
use Rattle.executor.proofs.Answering.{next_is}
use Rattle.executor.proofs.Judging.{held_word, word_fine}
use Rattle.executor.proofs.Waiting.{Found, all_seen, found, find, top_none}
use Rattle.executor.proofs.Ahead.{ahead_some, ahead_next}
use Rattle.executor.proofs.Falling.{new_falls, old_falls}
use Rattle.executor.proofs.Refusals.{waits, jump_tests}
use Rattle.executor.proofs.Accepted.{Fit, fit_judged, accepted_next, accepted_reply, accepted_jump, waiting, reply_is}

-- a call brings down the calls that are left, or all is over
abbrev Falls : List ℕ → Kept → Kept → Type 0
Falls im k l = (is_over l ≡ true) ⊎ (calls_left im l + 1 ≤ calls_left im k)

at_most : (t : Bool) (x : ℕ) → pick t 0 x ≤ x
at_most true x = omega arith
at_most false x = omega arith

-- asking for the next instruction
module _ (im bs words : List ℕ) (k : Kept) (f : Fit im bs words k.count k.map k.run) where
  abbrev at : SectionAddress
  at = k.run.at

  abbrev standing_here : Standing
  standing_here = standing (entries words k.count) k.map k.run

  abbrev FallsTo : Nexted → Type 0
  FallsTo q = Falls im k (kept_by q)

  became : (q r : Nexted) → q ≡ r → FallsTo r → FallsTo q
  became q r e h = subst FallsTo (sym e) h

  pop_falls : Found im k.map words k.count → FallsTo (popped im bs standing_here)
  pop_falls (all_seen a) = became (popped im bs standing_here) (ended_at [] k.map k.run) (rw a) (inl refl)
  pop_falls (found m l a new) =
      let p = (held_at words m).place in
      let j = fit_judged f in
      let less = new_falls im k.map p j.tables (held_word im words k.count m j.at_words l) f.room new in
      became (popped im bs standing_here) (stepped_at im bs (entries words m) k.map p p (held_at words m).state) (rw a) (inr (omega (arith, less)))

  module _ (running : k.run.phase ≡ phase.Running) where
    step_falls : is_word im at ≡ true → (t : Bool) → seen im k.map at ≡ t
        → FallsTo (stepped_at im bs (entries words k.count) k.map at k.run.block_start k.run.vm)
    step_falls word true old =
        let j = fit_judged f in
        let before : calls_ahead im k.map k.run ≡ words_ahead im at * 2 + 1 = rw (running, word, old) in
        let same = old_falls im k.map at j.tables word f.room old in
        inr (rw same (omega (arith, before)))
    step_falls word false new =
        let j = fit_judged f in
        let less = new_falls im k.map at j.tables word f.room new in
        inr (omega (arith, less))

    run_falls : (t : Bool) → is_word im at ≡ t → FallsTo (resumed im bs standing_here)
    run_falls true word =
        became (resumed im bs standing_here) (stepped_at im bs (entries words k.count) k.map at k.run.block_start k.run.vm) (rw word)
        (step_falls word (seen im k.map at) refl)
    run_falls false end =
        let before : calls_ahead im k.map k.run ≡ words_ahead im at * 2 + 1 = rw (running, end) in
        became (resumed im bs standing_here) (ended_at (entries words k.count) k.map k.run) (rw end) (inr (omega (arith, before)))

  next_falls : (ph : Phase) → k.run.phase ≡ ph → not (waits ph) ≡ true → FallsTo (next_of im bs standing_here)
  next_falls phase.Idle e free = became (next_of im bs standing_here) (popped im bs standing_here) (rw e) (pop_falls (find im k.map words k.count))
  next_falls phase.Running e free = became (next_of im bs standing_here) (resumed im bs standing_here) (rw e) (run_falls e (is_word im at) refl)
  next_falls phase.Waiting e free = absurd (cc)

-- replying
module _ (im bs words : List ℕ) (k : Kept) (s : VM) (f : Fit im bs words k.count k.map (with_state k.run s)) (waits-now : k.run.phase ≡ phase.Waiting) where
  abbrev run : Execution
  run = with_state k.run s

  abbrev FallsWith : Result Execution Refusal → Type 0
  FallsWith r = Falls im k (record { count = k.count; map = k.map; run = kept_of k.run r })

  with_same : (q r : Result Execution Refusal) → q ≡ r → FallsWith r → FallsWith q
  with_same q r e h = subst FallsWith (sym e) h

  at_word : is_word im run.at ≡ true
  at_word = rw waits-now at (fit_judged f).placed

  before : calls_ahead im k.map k.run ≡ words_ahead im run.at * 2
  before = rw waits-now

  some_left : 1 ≤ words_ahead im run.at
  some_left = ahead_some im run.at (fit_judged f).tables at_word

  jump_falls : (q : SectionAddress) → is_word im q ≡ true → (t : Bool) → seen im k.map q ≡ t
      → FallsWith (Ok (pick t (dropped run) (execution phase.Running q q s)))
  jump_falls q word true e = inr (omega (arith, before, some_left))
  jump_falls q word false e =
      let after : calls_ahead im k.map (execution phase.Running q q s) ≡ 0 = rw (word, e) in
      inr (omega (arith, before, some_left, after))

  reply_falls : (h : ExecCbResult) → first_failing (jump_tests im run h) ≡ 0 → FallsWith (followed im k.map run h)
  reply_falls how.Continue e =
      let next = ahead_next im run.at (fit_judged f).tables at_word in
      let after = at_most (is_word im (moved run.at 4) && not (seen im k.map (moved run.at 4))) (words_ahead im (moved run.at 4) * 2 + 1) in
      inr (omega (arith, before, next, after))
  reply_falls (how.Jump q) e =
      let ok = accepted_jump im run q e in
      with_same (jumped im k.map run q) (Ok (pick (seen im k.map q) (dropped run) (execution phase.Running q q s)))
      (rw (ok.0, word_fine im q ok.1)) (jump_falls q ok.1 (seen im k.map q) refl)
  reply_falls how.EndBlock e = inr (omega (arith, before, some_left))
  reply_falls how.End e = inr (omega (arith, before, some_left))

-- any call
module _ (im bs words : List ℕ) where
  pub call_falls : (k l : Kept) → Call im bs words k l → Falls im k l
  call_falls k _ (asked e) =
      let a = accepted_next im bs words k.count k.map k.run e in
      became im bs words k a.0 (next_call im bs words k.count k.map k.run) (next_of im bs (standing (entries words k.count) k.map k.run))
      (next_is im bs words k.count k.map k.run a.0.fine a.0.room) (next_falls im bs words k a.0 k.run.phase refl a.1)
  call_falls k _ (answered how s e) =
      let run = with_state k.run s in
      let a = accepted_reply im bs words k.count k.map run how e in
      let w = waiting k.run.phase a.1 in
      with_same im bs words k s a.0 w (reply_call im (length bs) words k.count k.map run how) (followed im k.map run how)
      (reply_is im bs words k.count k.map run how a.0 w) (reply_falls im bs words k s a.0 w how a.2)

  -- what is over stays so
  over_idle : (ph : Phase) (n : ℕ) → on_phase ph (eqb n 0) false false ≡ true → (ph ≡ phase.Idle) × (n ≡ 0)
  over_idle phase.Idle n e = (refl, eqb-true n 0 e)
  over_idle phase.Running n e = absurd (cc)
  over_idle phase.Waiting n e = absurd (cc)

  pub over_stays : (k l : Kept) → Call im bs words k l → is_over k ≡ true → is_over l ≡ true
  over_stays k _ (asked e) o =
      let a = accepted_next im bs words k.count k.map k.run e in
      let i = over_idle k.run.phase k.count o in
      let here-now = standing (entries words k.count) k.map k.run in
      let none_left = ap (λ (n : ℕ). top im k.map (entries words n)) i.1 ∙ top_none im k.map words in
      let is = next_is im bs words k.count k.map k.run a.0.fine a.0.room in
      let ends : next_of im bs here-now ≡ ended_at [] k.map k.run = rw (i.0, none_left) in
      subst (λ (q : Nexted). is_over (kept_by q) ≡ true) (sym (is ∙ ends)) refl
  over_stays k _ (answered how s e) o =
      let a = accepted_reply im bs words k.count k.map (with_state k.run s) how e in
      let i = over_idle k.run.phase k.count o in
      let w = waiting k.run.phase a.1 in
      let z : phase.Idle ≡ phase.Waiting = sym i.0 ∙ w in
      absurd (cc)

  over_on : (n : ℕ) (k l : Kept) → Calls im bs words n k l → is_over k ≡ true → is_over l ≡ true
  over_on n k l here o = o
  over_on n k l (more c cs) o = over_on _ _ l cs (over_stays k _ c o)

  -- more calls than are left come to the empty stack
  pub every_run_ends : (n : ℕ) (k l : Kept) → Calls im bs words n k l → calls_left im k < n → is_over l ≡ true
  every_run_ends n k l here h = absurd (let z : ⊥ = omega arith in z)
  every_run_ends n k l (more {n = m} {l = j} c cs) h = by (call_falls k j c) (every_run_ends m j l cs)
    where
      by : Falls im k j → (calls_left im j < m → is_over l ≡ true) → is_over l ≡ true
      by (inl o) rest = over_on m j l cs o
      by (inr less) rest = rest (omega (arith, less))

  -- from where nothing is under way: W times (2 W + 1) calls and one more are enough
  pub ends_from_rest : (n : ℕ) (k l : Kept) → Calls im bs words n k l → k.run.phase ≡ phase.Idle → code_words im * (code_words im * 2 + 1) < n → is_over l ≡ true
  ends_from_rest n k l cs idle h =
      let rest : calls_ahead im k.map k.run ≡ 0 = rw idle in
      let few : unvisited im k.map ≤ code_words im = omega arith in
      every_run_ends n k l cs (omega (arith, rest, mul-le-mul_right (code_words im * 2 + 1) few))
