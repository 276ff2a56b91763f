-- What a state's type says of it: thirty-two registers, eight compare records, marks that are bytes.
-- Assumes nothing; the functions that write a state hand this on.
use Rattle.std.specs.Prelude.{◌≡◌, ℕ, ◌<◌, length}
use Rattle.vm.specs.Registers.{reg, cr_at}
use Rattle.vm.specs.declared.Cr.{Cr}
use Rattle.vm.specs.declared.GprValue.{GprValue}
use Rattle.vm.specs.declared.VM.{VM}
use Rattle.slot.specs.Values.{numbers_of, mark_of}
use Rattle.slot.specs.declared.Numbers.{Numbers}

-- r has the numbers of v
pub record Numbered (v : GprValue) (r : Numbers) : Type 0 where
  pub numbers : r ≡ numbers_of v
  pub tag : r.tag < 16
  pub mark : mark_of v < 256

pub record FitsCr (r : Cr) : Type 0 where
  pub left : mark_of r.left < 256
  pub right : mark_of r.right < 256

pub record Fits (s : VM) : Type 0 where
  pub gpr_count : length s.gpr ≡ 32
  pub cr_count : length s.cr ≡ 8
  pub gprs : (i : ℕ) → i < 32 → mark_of (reg s i).value < 256
  pub crs : (i : ℕ) → i < 8 → FitsCr (cr_at s i)
  pub lr : mark_of s.lr.value < 256
  pub ctr : mark_of s.ctr.value < 256
