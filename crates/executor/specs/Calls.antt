-- A caller who asks for the next instruction, replies as he likes, and pushes nothing more: how many calls there can be.
-- Assumes nothing.
use Rattle.std.specs.Prelude.{ℕ, zero, suc, ◌+◌, ◌-◌, ◌*◌, ◌/◌, ◌≡◌, Bool, false, not, ◌&&◌, List, eqb, length}
use Rattle.words.specs.Choice.{pick}
use Rattle.places.specs.declared.SectionAddress.{SectionAddress}
use Rattle.image.specs.Layout.{section_at}
use Rattle.image.specs.Rules.{code_words, end_of}
use Rattle.vm.specs.declared.VM.{VM}
use Rattle.visited.specs.Bits.{ones_below}
use Rattle.executor.specs.declared.Execution.{Execution}
use Rattle.executor.specs.declared.ExecCbResult.{ExecCbResult}
use Rattle.executor.specs.Standing.{execution, on_phase, number_of, kept_of}
use Rattle.executor.specs.Judge.{is_word}
use Rattle.executor.specs.Next.{seen, Nexted, next_call}
use Rattle.executor.specs.Reply.{reply_call}

-- what a caller keeps between two calls, beside the stack's words
pub record Kept : Type 0 where
  pub count : ℕ
  pub map : List ℕ
  pub run : Execution

-- the stack is empty and nothing is under way
abbrev pub is_over : Kept → Bool
is_over k = on_phase k.run.phase (eqb k.count 0) false false

abbrev pub kept_by : Nexted → Kept
kept_by q = record { count = length q.then.stack; map = q.then.map; run = q.then.run }

-- what is under way, with a state of the caller's
abbrev pub with_state : Execution → VM → Execution
with_state run s = execution run.phase run.at run.block_start s

-- one call that is not refused: the next instruction, or a reply, with whatever state
pub data Call (im bs words : List ℕ) (k : Kept) : Kept → Type 0 where
  asked : number_of (next_call im bs words k.count k.map k.run).outcome ≡ 0
      → Call im bs words k (kept_by (next_call im bs words k.count k.map k.run))
  answered : (how : ExecCbResult) (s : VM) → number_of (reply_call im (length bs) words k.count k.map (with_state k.run s) how) ≡ 0
      → Call im bs words k
      (record { count = k.count; map = k.map; run = kept_of k.run (reply_call im (length bs) words k.count k.map (with_state k.run s) how) })

-- so many of them, one after the other
pub data Calls (im bs words : List ℕ) : ℕ → Kept → Kept → Type 0 where
  here : {k : Kept} → Calls im bs words zero k k
  more : {n : ℕ} {k l m : Kept} → Call im bs words k l → Calls im bs words n l m → Calls im bs words (suc n) k m

-- how many words are not visited yet
abbrev pub unvisited : List ℕ → List ℕ → ℕ
unvisited im v = code_words im - ones_below v (code_words im)

-- the words from a place to its section's end
abbrev pub words_ahead : List ℕ → SectionAddress → ℕ
words_ahead im p = (end_of (section_at im p.section) - p.address) / 4

-- what is under way takes two calls for each word ahead, and one at the end; a word that is unvisited pays for itself
abbrev pub calls_ahead : List ℕ → List ℕ → Execution → ℕ
calls_ahead im v run =
    on_phase run.phase 0
    (pick (is_word im run.at && not (seen im v run.at)) 0 (words_ahead im run.at * 2 + 1))
    (words_ahead im run.at * 2)

-- an unvisited word takes two calls for each word of the image, and one more
abbrev pub calls_left : List ℕ → Kept → ℕ
calls_left im k = unvisited im k.map * (code_words im * 2 + 1) + calls_ahead im k.map k.run
