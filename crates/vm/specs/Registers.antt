-- A register's record and its place in a state.
-- Assumes nothing; past register 31 a state reads as Unknown and keeps what it has.
use Rattle.std.specs.Prelude.{ℕ, List, set, get_or, false, Option, Some, None}
use Rattle.places.specs.declared.SectionAddress.{SectionAddress}
use Rattle.vm.specs.declared.GprValue.{GprValue}
use Rattle.vm.specs.declared.GprValue.TheVariants.{Unknown}
use Rattle.vm.specs.declared.Gpr.{Gpr}
use Rattle.vm.specs.declared.Cr.{Cr}
use Rattle.vm.specs.declared.VM.{VM}

-- set_direct
abbrev pub direct : GprValue → Gpr
direct v = record { value = v; hi_addr = None; lo_addr = None }

-- set_hi
abbrev pub high : GprValue → SectionAddress → Gpr
high v p = record { value = v; hi_addr = Some p; lo_addr = None }

-- the older place, if there is one
abbrev pub or_at : Option SectionAddress → SectionAddress → Option SectionAddress
or_at (Some q) p = Some q
or_at None p = Some p

-- set_lo, by the register g that holds the high part
abbrev pub low : GprValue → SectionAddress → Gpr → Gpr
low v p g = record { value = v; hi_addr = g.hi_addr; lo_addr = or_at g.lo_addr p }

-- the value alone is replaced
abbrev pub marked : Gpr → GprValue → Gpr
marked g v = record { value = v; hi_addr = g.hi_addr; lo_addr = g.lo_addr }

-- nothing is known
abbrev pub blank : Gpr
blank = direct Unknown

-- register i
abbrev pub reg : VM → ℕ → Gpr
reg s i = get_or s.gpr i blank

abbrev pub with_gprs : VM → List Gpr → VM
with_gprs s gs = record { gpr = gs; cr = s.cr; lr = s.lr; ctr = s.ctr }

-- the state with register i replaced
abbrev pub with_reg : VM → ℕ → Gpr → VM
with_reg s i g = with_gprs s (set s.gpr i g)

-- no compare
abbrev pub no_cr : Cr
no_cr = record { left = Unknown; right = Unknown; signed = false }

-- compare record k
abbrev pub cr_at : VM → ℕ → Cr
cr_at s k = get_or s.cr k no_cr

-- the state with compare record k and register a replaced
abbrev pub with_compare : VM → ℕ → Cr → ℕ → Gpr → VM
with_compare s k c a g = record { gpr = set s.gpr a g; cr = set s.cr k c; lr = s.lr; ctr = s.ctr }

-- mtlr, mtctr
abbrev pub with_lr : VM → GprValue → VM
with_lr s v = record { gpr = s.gpr; cr = s.cr; lr = record { value = v }; ctr = s.ctr }

abbrev pub with_ctr : VM → GprValue → VM
with_ctr s v = record { gpr = s.gpr; cr = s.cr; lr = s.lr; ctr = record { value = v } }
