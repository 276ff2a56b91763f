-- What a call that is not refused tells of what was handed over.
-- Assumes nothing.
use Prim.Native.Nat.{ℕ, suc, ◌%◌}
use mathlib.Core.Path.{◌≡◌, refl, sym, ◌∙◌}
use Rattle.std.specs.Prelude.{Ok}
use mathlib.Core.Bool.{Bool, true, false, not}
use mathlib.Core.List.{List, [], ◌∷◌}
use native.Mathlib.Omega.{arith}
use lib.Dec.{eqb}
use lib.ListN.{length}
use Rattle.places.specs.declared.SectionAddress.{SectionAddress}
use Rattle.image.specs.Rules.{code_words, sound}
use Rattle.lookups.specs.Code.{in_code}
use Rattle.visited.specs.Bits.{has_room}
use Rattle.executor.specs.declared.Phase.{Phase}
use Rattle.executor.specs.declared.Phase.TheVariants as phase
use Rattle.executor.specs.declared.Execution.{Execution}
use Rattle.executor.specs.declared.ExecCbResult.{ExecCbResult}
use Rattle.executor.specs.Standing.{number_of, first_failing}
use Rattle.executor.specs.Judge.{lawful, verdict_of, is_word}
use Rattle.executor.specs.Next.{next_call}
use Rattle.executor.specs.Reply.{reply_call, followed}
use Rattle.executor.proofs.Judging.{Judged, judged}
use Rattle.executor.proofs.Refusals.{waits, jump_tests, next_number, reply_number}

-- image, stack, running place and map are fine
pub record Fit (im bs words : List ℕ) (n : ℕ) (v : List ℕ) (run : Execution) : Type 0 where
  pub fine : verdict_of im (length bs) words n run.phase run.at ≡ Ok tt
  pub room : has_room v (code_words im) ≡ true

pub fit_judged : {im bs words : List ℕ} {n : ℕ} {v : List ℕ} {run : Execution} → Fit im bs words n v run → Judged im (length bs) words n run.phase run.at
fit_judged {im} {bs} {words} {n} {v} {run} f = judged im (length bs) words n run.phase run.at f.fine

-- no test failed
pub passed : (k : ℕ) (t : Bool) (ts : List (Bool × ℕ)) → first_failing ((t, suc k) ∷ ts) ≡ 0 → (t ≡ true) × (first_failing ts ≡ 0)
unfolding first_failing
passed k true ts e = (refl, e)
passed k false ts e = absurd (let z : ⊥ = omega arith in z)

-- by the phase
pub waiting : (ph : Phase) → waits ph ≡ true → ph ≡ phase.Waiting
waiting phase.Idle e = absurd (cc)
waiting phase.Running e = absurd (cc)
waiting phase.Waiting e = refl

module _ (im bs words : List ℕ) (n : ℕ) (v : List ℕ) (run : Execution) where
  fit_by : sound im (length bs) ≡ true → lawful im words n run.phase run.at ≡ true → has_room v (code_words im) ≡ true → Fit im bs words n v run
  fit_by s l r = record { fine = rw (s, l); room = r }

  -- a next that is not refused
  pub accepted_next : number_of (next_call im bs words n v run).outcome ≡ 0 → Fit im bs words n v run × (not (waits run.phase) ≡ true)
  accepted_next e =
      let one = passed 0 (sound im (length bs)) _ (sym (next_number im bs words n v run) ∙ e) in
      let twelve = passed 11 (lawful im words n run.phase run.at) _ one.1 in
      let four = passed 3 (has_room v (code_words im)) _ twelve.1 in
      (fit_by one.0 twelve.0 four.0, (passed 10 (not (waits run.phase)) _ four.1).0)

  -- a reply that is not refused
  pub accepted_reply : (h : ExecCbResult) → number_of (reply_call im (length bs) words n v run h) ≡ 0
      → Fit im bs words n v run × (waits run.phase ≡ true) × (first_failing (jump_tests im run h) ≡ 0)
  accepted_reply h e =
      let one = passed 0 (sound im (length bs)) _ (sym (reply_number im v run (length bs) words n h) ∙ e) in
      let twelve = passed 11 (lawful im words n run.phase run.at) _ one.1 in
      let four = passed 3 (has_room v (code_words im)) _ twelve.1 in
      let eleven = passed 10 (waits run.phase) _ four.1 in
      (fit_by one.0 twelve.0 four.0, eleven.0, eleven.1)

  -- what an accepted reply leads to
  pub reply_is : (h : ExecCbResult) → Fit im bs words n v run → run.phase ≡ phase.Waiting → reply_call im (length bs) words n v run h ≡ followed im v run h
  reply_is h f w = rw (f.fine, f.room, w)

-- an accepted Jump goes to an aligned code word of the same section
pub accepted_jump : (im : List ℕ) (run : Execution) (q : SectionAddress)
    → first_failing ((eqb q.section run.at.section, 6) ∷ (in_code im q, 2) ∷ (eqb (q.address % 4) 0, 3) ∷ []) ≡ 0
    → (eqb q.section run.at.section ≡ true) × (is_word im q ≡ true)
accepted_jump im run q e =
    let six = passed 5 (eqb q.section run.at.section) _ e in
    let two = passed 1 (in_code im q) _ six.1 in
    let three = passed 2 (eqb (q.address % 4) 0) _ two.1 in
    (six.0, rw (two.0, three.0))
