-- Any two results that a call's contract allows are equal.
-- Assumes nothing.
use Prim.Native.Nat.{ℕ}
use mathlib.Core.Path.{◌≡◌}
use mathlib.Core.Bool.{Bool}
use mathlib.Core.List.{List}
use Rattle.std.specs.Prelude.{Result}
use Rattle.words.proofs.Unique.{allowed_once}
use Rattle.places.specs.declared.SectionAddress.{SectionAddress}
use Rattle.vm.specs.declared.VM.{VM}
use Rattle.executor.specs.declared.Execution.{Execution}
use Rattle.executor.specs.declared.ExecCbResult.{ExecCbResult}
use Rattle.executor.specs.declared.Handed.{Handed}
use Rattle.executor.specs.declared.Refusal.{Refusal}
use Rattle.executor.specs.Next.{next_call, handed_by}
use Rattle.executor.specs.Push.{PushesTo}
use Rattle.executor.specs.Reply.{reply_call}
use Rattle.executor.specs.Visits.{visit_call}

pub push_once : (im : List ℕ) (d : ℕ) (words : List ℕ) (n : ℕ) (p : SectionAddress) (s : VM) (sorted : Bool) (r q : Result ℕ Refusal) (x y : List ℕ)
    → PushesTo im d words n p s sorted r x → PushesTo im d words n p s sorted q y → (r ≡ q) × (x ≡ y)
push_once im d words n p s sorted r q x y a b = (allowed_once a.result b.result, allowed_once a.leaves b.leaves)

pub next_once : (im bs words : List ℕ) (n : ℕ) (v : List ℕ) (run : Execution) (r q : Result Handed Refusal) (x y : List ℕ)
    → (r ≡ handed_by (next_call im bs words n v run)) × (x ≡ (next_call im bs words n v run).then.map)
    → (q ≡ handed_by (next_call im bs words n v run)) × (y ≡ (next_call im bs words n v run).then.map) → (r ≡ q) × (x ≡ y)
next_once im bs words n v run r q x y a b = (allowed_once a.0 b.0, allowed_once a.1 b.1)

pub reply_once : (im : List ℕ) (d : ℕ) (words : List ℕ) (n : ℕ) (v : List ℕ) (run : Execution) (h : ExecCbResult) (r q : Result Execution Refusal)
    → r ≡ reply_call im d words n v run h → q ≡ reply_call im d words n v run h → r ≡ q
reply_once im d words n v run h r q a b = allowed_once a b

pub visit_once : (im : List ℕ) (d : ℕ) (v : List ℕ) (p : SectionAddress) (r q : Result Bool Refusal) → r ≡ visit_call im d v p → q ≡ visit_call im d v p → r ≡ q
visit_once im d v p r q a b = allowed_once a b
