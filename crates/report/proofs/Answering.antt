-- The answers of writing and reading, each where it is given.
-- Assumes nothing.
use mathlib.Core.Path.{◌≡◌, refl, sym, ap, ◌∙◌}
use mathlib.Core.Bool.{Bool, true, false}
use mathlib.Core.List.{List}
use Prim.Native.Nat.{ℕ, ◌^◌, ◌≤◌, ◌<◌}
use native.Mathlib.Omega.{arith}
use lib.ListN.{length, replicate}
use lib.Seq.{length-sets}
use borrow.Author.Tests.{le-leb, lt-leb}
use Rattle.words.specs.Choice.{pick}
use Rattle.image.specs.Laid as image
use Rattle.image.specs.Rules.{sound, judged, code_words}
use Rattle.image.proofs.SoundTables.{SoundTables, sound_tables, tables_of_sound}
use Rattle.visited.specs.Bits.{has_room}
use Rattle.std.specs.Prelude.{Some, None, Result, Ok, Err, ⊤}
use Rattle.report.specs.declared.WriteError.{WriteError}
use Rattle.report.specs.declared.WriteError.TheVariants as write
use Rattle.report.specs.declared.ReadError.{ReadError}
use Rattle.report.specs.declared.ReadError.TheVariants as read
use Rattle.report.specs.Bytes.{report_of}
use Rattle.report.specs.Reading.{read_report}
use Rattle.report.specs.Marks.{map_of}
use Rattle.report.specs.Steps.{Laid}
use Rattle.report.specs.Answers.{write_answer, write_leaves, read_answer, read_leaves}
use Rattle.report.proofs.Laying.{laid_at_start}
use Rattle.image.specs.declared.BrokenImage.{BrokenImage}
use Rattle.image.specs.Rules.{broken}

-- what the judge of the image says
by_soundness : (t : Bool) → ◌≡◌ {A = Result ⊤ BrokenImage} (pick t (Ok tt) (Err broken)) (Ok tt) → t ≡ true
by_soundness true e = refl
by_soundness false e = let z : ◌≡◌ {A = ℕ} 0 1 = cc in absurd (omega arith)

by_breakage : (t : Bool) → ◌≡◌ {A = Result ⊤ BrokenImage} (pick t (Ok tt) (Err broken)) (Err broken) → t ≡ false
by_breakage false e = refl
by_breakage true e = let z : ◌≡◌ {A = ℕ} 0 1 = cc in absurd (omega arith)

pub judged_sound : (im : List ℕ) (n : ℕ) → judged im n ≡ Ok tt → sound im n ≡ true
judged_sound im n e = by_soundness (sound im n) e

pub judged_broken : (im : List ℕ) (n : ℕ) → judged im n ≡ Err broken → sound im n ≡ false
judged_broken im n e = by_breakage (sound im n) e

-- a sound image's tables are there, and its Code words are few
pub tables_there : (im : List ℕ) (n : ℕ) → sound im n ≡ true → image.Laid im × (code_words im < 2 ^ 31)
tables_there im n e =
    let t : SoundTables im = sound_tables im (tables_of_sound im n e) in
    (t.laid, omega (arith, t.few_code_words_lem))

-- writing
abbrev pub WriteGives : List ℕ → ℕ → List ℕ → List ℕ → Result ℕ WriteError → List ℕ → Type 0
WriteGives im n ws out r after = (r ≡ write_answer im n ws (length out)) × (after ≡ write_leaves im n ws out)

module _ (im : List ℕ) (n : ℕ) (ws out : List ℕ) where
  pub write_broken : sound im n ≡ false → WriteGives im n ws out (Err write.BrokenImage) out
  write_broken e = (sym (rw e), sym (rw e))

  module _ (e : sound im n ≡ true) where
    pub write_small : has_room ws (code_words im) ≡ false → WriteGives im n ws out (Err write.SmallMap) out
    write_small h = (sym (rw (e, h)), sym (rw (e, h)))

    module _ (h : has_room ws (code_words im) ≡ true) (mid : List ℕ) (k : ℕ) (u : Laid out mid 0 (report_of im ws) k) where
      pub write_no_room : (after : List ℕ) → length mid < k → after ≡ replicate (length mid) 0 → WriteGives im n ws out (Err write.NoRoom) after
      write_no_room after l z =
          let long : length mid ≡ length out = ap length u.bytes ∙ length-sets out 0 (report_of im ws) in
          let over : length out < length (report_of im ws) = omega (arith, u.place) in (
            sym (rw (e, h, lt-leb (length (report_of im ws)) (length out) over)),
            z ∙ ap (λ (m : ℕ). replicate m 0) long ∙ sym (rw (e, h, lt-leb (length (report_of im ws)) (length out) over)),
          )

      pub write_fits : k ≤ length mid → WriteGives im n ws out (Ok k) mid
      write_fits l =
          let long : length mid ≡ length out = ap length u.bytes ∙ length-sets out 0 (report_of im ws) in
          let size : k ≡ length (report_of im ws) = omega (arith, u.place) in
          let fits : length (report_of im ws) ≤ length out = omega arith in (
            ap Ok size ∙ sym (rw (e, h, le-leb (length (report_of im ws)) (length out) fits)),
            u.bytes ∙ laid_at_start out (report_of im ws) fits ∙ sym (rw (e, h, le-leb (length (report_of im ws)) (length out) fits)),
          )

-- reading
abbrev pub ReadGives : List ℕ → ℕ → List ℕ → List ℕ → Result ⊤ ReadError → List ℕ → Type 0
ReadGives im n s ws r after = (r ≡ read_answer im n s ws) × (after ≡ read_leaves im n s ws)

module _ (im : List ℕ) (n : ℕ) (s ws : List ℕ) where
  pub read_broken : sound im n ≡ false → ReadGives im n s ws (Err read.BrokenImage) ws
  read_broken e = (sym (rw e), sym (rw e))

  module _ (e : sound im n ≡ true) where
    pub read_small : has_room ws (code_words im) ≡ false → ReadGives im n s ws (Err read.SmallMap) ws
    read_small h = (sym (rw (e, h)), sym (rw (e, h)))

    module _ (h : has_room ws (code_words im) ≡ true) where
      pub read_no_report : None ≡ (read_report im s).end → ReadGives im n s ws (Err read.NoReport) ws
      read_no_report q = (sym (rw (e, h, ← q)), sym (rw (e, h, ← q)))

      pub read_done : (d : ℕ) → Some d ≡ (read_report im s).end → ReadGives im n s ws (Ok tt) (map_of im ws (read_report im s).runs)
      read_done d q = (sym (rw (e, h, ← q)), sym (rw (e, h, ← q)))
