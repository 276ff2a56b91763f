-- `push`: one waiting state more.
-- Assumes nothing.
use Rattle.std.specs.Prelude.{ℕ, ◌+◌, ◌≡◌, Bool, List, ltb, length, Result, Ok, Err}
use Rattle.std.specs.Result.{result_and}
use Rattle.words.specs.Choice.{pick}
use Rattle.places.specs.declared.SectionAddress.{SectionAddress}
use Rattle.vm.specs.declared.VM.{VM}
use Rattle.slot.specs.Fits.{Fits}
use Rattle.stack.specs.Stack.{room}
use Rattle.stack.specs.Push.{pushed_words}
use Rattle.executor.specs.declared.Refusal.{Refusal}
use Rattle.executor.specs.declared.Refusal.TheVariants as refusal
use Rattle.executor.specs.declared.Phase.TheVariants as phase
use Rattle.executor.specs.Standing.{number_of, on_answer}
use Rattle.executor.specs.Judge.{verdict_of, word_of}

-- the count after it, or a refusal, and the stack's words then
pub record Pushes : Type 0 where
  pub result : Result ℕ Refusal
  pub words : List ℕ

abbrev pub pushes : Result ℕ Refusal → List ℕ → Pushes
pushes r words = record { result = r; words = words }

-- 1, 12, 2, 3, 5, touching nothing; else the words that hold one state more
abbrev pub push_call : List ℕ → ℕ → List ℕ → ℕ → SectionAddress → VM → Bool → Pushes
push_call im d words n p s sorted =
    on_answer (result_and (verdict_of im d words n phase.Idle p) (word_of im p))
    (λ why. pushes (Err why) words)
    (λ fine. pick (ltb n (room (length words))) (pushes (Ok (n + 1)) (pushed_words words n p s sorted)) (pushes (Err refusal.StackFull) words))

-- what `push` promises: this answer and these words; and, of a state that it took, what the state's type says
pub record PushesTo (im : List ℕ) (d : ℕ) (words : List ℕ) (n : ℕ) (p : SectionAddress) (s : VM) (sorted : Bool) (r : Result ℕ Refusal) (words' : List ℕ) : Type 0 where
  pub result : r ≡ (push_call im d words n p s sorted).result
  pub leaves : words' ≡ (push_call im d words n p s sorted).words
  pub fits : number_of r ≡ 0 → Fits s
