-- States: new ones, those of the two sides of a call, and changes to all registers.
-- Assumes nothing.
use Rattle.std.specs.Prelude.{ℕ, ◌++◌, map, take, drop, replicate, eqb, Option, Some, None}
use Rattle.words.specs.Choice.{pick}
use Rattle.vm.specs.declared.GprValue.{GprValue}
use Rattle.vm.specs.declared.GprValue.TheVariants.{Unknown, Constant}
use Rattle.vm.specs.declared.Gpr.{Gpr}
use Rattle.vm.specs.declared.VM.{VM}
use Rattle.vm.specs.Values.{on_mark}
use Rattle.vm.specs.Registers.{direct, blank, marked, reg, with_gprs, with_reg, no_cr}

-- new
abbrev pub fresh : VM
fresh = record { gpr = replicate 32 blank; cr = replicate 8 no_cr; lr = record { value = Unknown }; ctr = record { value = Unknown } }

abbrev pub with_base : VM → ℕ → Option ℕ → VM
with_base s i (Some n) = with_reg s i (direct (Constant n))
with_base s i None = s

-- new_with_base: r2, r13
abbrev pub bases_of : Option ℕ → Option ℕ → VM
bases_of two thirteen = with_base (with_base fresh 2 two) 13 thirteen

-- register i's value, without its places
abbrev pub keep_value : VM → VM → ℕ → VM
keep_value t s i = with_reg t i (direct (reg s i).value)

-- clone_for_link: r2 and r13 alone
abbrev pub link_of : VM → VM
link_of s = keep_value (keep_value fresh s 2) s 13

-- the registers from 14 up are those of s
abbrev pub saved_from : VM → VM → VM
saved_from t s = with_gprs t (take 14 t.gpr ++ drop 14 s.gpr)

-- clone_for_return: the values of r1, r2, r13, the records of r14 to r31
abbrev pub return_of : VM → VM
return_of s = saved_from (keep_value (keep_value (keep_value fresh s 1) s 2) s 13) s

-- a register marked with field k gets the value
abbrev pub result_of : GprValue → ℕ → Gpr → Gpr
result_of v k g = on_mark g.value (λ j. pick (eqb j k) (marked g v) g) g

-- set_comparison_result
abbrev pub with_result : VM → GprValue → ℕ → VM
with_result s v k = with_gprs s (map (result_of v k) s.gpr)
