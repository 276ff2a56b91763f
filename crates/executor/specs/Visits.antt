-- `visited`: whether the word at a place was visited.
-- Assumes nothing.
use Rattle.std.specs.Prelude.{ℕ, Bool, List, Result, Ok}
use Rattle.std.specs.Result.{result_and}
use Rattle.places.specs.declared.SectionAddress.{SectionAddress}
use Rattle.executor.specs.declared.Refusal.{Refusal}
use Rattle.executor.specs.Judge.{image_of, room_of, word_of}
use Rattle.executor.specs.Next.{seen}

-- 1, 4, 2, 3, or the bit
abbrev pub visit_call : List ℕ → ℕ → List ℕ → SectionAddress → Result Bool Refusal
visit_call im d v p = result_and (result_and (result_and (image_of im d) (room_of im v)) (word_of im p)) (Ok (seen im v p))
