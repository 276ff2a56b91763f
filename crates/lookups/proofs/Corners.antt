-- Document 01's order of errors and its corners, sentence by sentence, for every image.
-- Assumes nothing.
use Rattle.std.specs.Prelude.{Some, Ok, Err, None}
use mathlib.Core.Path.{◌≡◌, refl, ap}
use mathlib.Core.Bool.{true, false}
use mathlib.Core.List.{List}
use Prim.Native.Nat.{ℕ, ◌+◌, ◌^◌, ◌<◌}
use native.Mathlib.Omega.{arith}
use borrow.Author.Tests.{lt-ltb, le-ltb, eq-eqb, ne_eqb}
use Rattle.words.specs.Choice.{pick}
use Rattle.words.specs.Sums.{sum}
use Rattle.words.specs.Signed.{signed_of, offset_by}
use Rattle.words.proofs.Signs.{sum_is_signed}
use Rattle.places.specs.declared.SectionAddress.{SectionAddress}
use Rattle.places.specs.declared.RelocationTarget.{RelocationTarget}
use Rattle.places.specs.declared.RelocationTarget.TheVariants.{External, Address}
use Rattle.image.specs.declared.Bound.{Bound}
use Rattle.image.specs.declared.Unbound.{Unbound}
use Rattle.image.specs.Numbers.{no_section}
use Rattle.image.specs.Layout.{image_kind, module_number, sections, section_at, bound_at, unbound_at}
use Rattle.image.specs.Rules.{holds, elf_index}
use Rattle.lookups.specs.declared.Wanted.{Wanted}
use Rattle.lookups.specs.Sections.{at_address}
use Rattle.lookups.specs.Relocations.{differs, bound_index, bound_target, unbound_index, unbound_target, into_section, relocation_for, target_at, place_in, section_address_for}
use Rattle.lookups.specs.Relocations.{relocation_error}

-- bound: a wanted kind that differs is an error, before External
pub bound_kind_first : (k : Wanted) (r : Bound) → differs k r.kind ≡ true → bound_target k r ≡ Err relocation_error
bound_kind_first k r e = rw e

pub bound_external : (k : Wanted) (r : Bound) → differs k r.kind ≡ false → r.symbol_section ≡ no_section → bound_target k r ≡ Ok (Some External)
bound_external k r e s = rw (e, eq-eqb r.symbol_section no_section s)

-- else the symbol's address plus the signed addend, modulo 2^32
pub bound_address : (k : Wanted) (r : Bound) → r.addend < 2 ^ 32 → differs k r.kind ≡ false → (r.symbol_section ≡ no_section → ⊥)
    → bound_target k r ≡ Ok (Some (Address (record { section = r.symbol_section; address = offset_by r.symbol_address (signed_of 32 r.addend) })))
bound_address k r f e s =
    rw (e, ne_eqb r.symbol_section no_section s)
    (ap (λ (a : ℕ). Ok (Some (Address (record { section = r.symbol_section; address = a })))) (sum_is_signed r.symbol_address r.addend f))

-- at both ends of the addend
addend_ends : (sum 0x80000000 0x7FFFFFFF ≡ 0xFFFFFFFF) × (sum 0x80000000 0x80000000 ≡ 0) × (sum 5 0xFFFFFFFF ≡ 4) × (sum 0xFFFFFFFF 1 ≡ 0)
addend_ends = (refl, refl, refl, refl)

-- unbound: another module is External before the kind is looked at
pub unbound_external_first : (ws : List ℕ) (k : Wanted) (r : Unbound) → (r.«module» ≡ module_number ws → ⊥) → unbound_target ws k r ≡ Ok (Some External)
unbound_external_first ws k r e = rw (ne_eqb r.«module» (module_number ws) e)

-- then the kind
pub unbound_kind_second : (ws : List ℕ) (k : Wanted) (r : Unbound) → r.«module» ≡ module_number ws → differs k r.kind ≡ true → unbound_target ws k r ≡ Err relocation_error
unbound_kind_second ws k r e d = rw (eq-eqb r.«module» (module_number ws) e, d)

-- then the target section, whose absence is an error
pub unbound_section_third : (ws : List ℕ) (k : Wanted) (r : Unbound) → r.«module» ≡ module_number ws → differs k r.kind ≡ false
    → elf_index ws r.target ≡ None → unbound_target ws k r ≡ Err relocation_error
unbound_section_third ws k r e d n = rw (eq-eqb r.«module» (module_number ws) e, d, n)

-- then the sum: an error at 2^32 or more, and not below
pub unbound_sum_fourth : (ws : List ℕ) (k : Wanted) (r : Unbound) (i : ℕ) → r.«module» ≡ module_number ws → differs k r.kind ≡ false
    → elf_index ws r.target ≡ Some i → unbound_target ws k r ≡ into_section ws r.addend i
unbound_sum_fourth ws k r i e d n = rw (eq-eqb r.«module» (module_number ws) e, d, n)

pub sum_at_2^32 : (ws : List ℕ) (n i : ℕ) → (section_at ws i).address + n ≡ 2 ^ 32 → into_section ws n i ≡ Err relocation_error
sum_at_2^32 ws n i e = rw (le-ltb ((section_at ws i).address + n) (2 ^ 32) (omega arith))

pub sum_at_2^32_less_1 : (ws : List ℕ) (n i : ℕ) → (section_at ws i).address + n + 1 ≡ 2 ^ 32
    → into_section ws n i ≡ Ok (Some (Address (record { section = i; address = (section_at ws i).address + n })))
sum_at_2^32_less_1 ws n i e = rw (lt-ltb ((section_at ws i).address + n) (2 ^ 32) (omega arith))

-- the bound table is asked first
pub bound_first : (ws : List ℕ) (p : SectionAddress) (k : Wanted) (j : ℕ) → p.section < sections ws → bound_index ws p ≡ Some j
    → relocation_for ws p k ≡ bound_target k (bound_at ws j)
unfolding relocation_for
bound_first ws p k j h e = rw (lt-ltb p.section (sections ws) h, e)

pub unbound_second : (ws : List ℕ) (p : SectionAddress) (k : Wanted) (j : ℕ) → p.section < sections ws → bound_index ws p ≡ None
    → unbound_index ws (section_at ws p.section).elf p.address ≡ Some j → relocation_for ws p k ≡ unbound_target ws k (unbound_at ws j)
unfolding relocation_for
unbound_second ws p k j h e f = rw (lt-ltb p.section (sections ws) h, e, f)

-- an error counts as no relocation
pub error_is_none : (ws : List ℕ) (p : SectionAddress) → relocation_for ws p Wanted.Any ≡ Err relocation_error → target_at ws p ≡ None
error_is_none ws p e = rw e

-- the relocation at the instruction wins over everything, External included
pub relocation_wins : (ws : List ℕ) (p : SectionAddress) (v : ℕ) (t : RelocationTarget) → target_at ws p ≡ Some t → section_address_for ws p v ≡ Some t
unfolding section_address_for
relocation_wins ws p v t e = rw e

-- without one, in an Executable the section holding the value
pub executable_value : (ws : List ℕ) (p : SectionAddress) (v i : ℕ) → target_at ws p ≡ None → image_kind ws ≡ 0 → at_address ws v ≡ Some i
    → section_address_for ws p v ≡ place_in v i
unfolding section_address_for
executable_value ws p v i e k f = rw (e, eq-eqb (image_kind ws) 0 k, f)

-- in a Relocatable no section is looked for: the instruction's own, or nothing
pub relocatable_own : (ws : List ℕ) (p : SectionAddress) (v : ℕ) → target_at ws p ≡ None → image_kind ws ≡ 1 → p.section < sections ws
    → section_address_for ws p v ≡ pick (holds (section_at ws p.section) v) (place_in v p.section) None
unfolding section_address_for
relocatable_own ws p v e k h =
    let n : image_kind ws ≡ 0 → ⊥ = λ z. omega arith in
    rw (e, ne_eqb (image_kind ws) 0 n, lt-ltb p.section (sections ws) h)
