-- Relocations: the bound table is asked first, then the unbound one, with document 01's order of errors.
-- Assumes nothing.
use Rattle.std.specs.Prelude.{ℕ, ◌+◌, ◌^◌, Bool, false, ◌&&◌, not, List, ltb, eqb, Some, None, Ok, Err, Result, Option}
use Rattle.words.specs.Choice.{pick}
use Rattle.words.specs.Sums.{sum}
use Rattle.places.specs.declared.SectionAddress.{SectionAddress}
use Rattle.places.specs.declared.RelocationTarget.TheVariants.{External, Address}
use Rattle.search.specs.First.{first, on_found}
use Rattle.image.specs.declared.Bound.{Bound}
use Rattle.image.specs.declared.Unbound.{Unbound}
use Rattle.image.specs.Numbers.{executable_kind, absolute_kind, no_section}
use Rattle.image.specs.Layout.{word, image_kind, module_number, sections, bounds, unbounds, section_at, bound_at, unbound_at}
use Rattle.image.specs.Rules.{holds, elf_index}
use Rattle.lookups.specs.declared.Wanted.{Wanted}
use Rattle.lookups.specs.declared.Wanted.TheVariants as wanted
use Rattle.lookups.specs.Sections.{at_address}
use Rattle.places.specs.declared.RelocationTarget.{RelocationTarget}
use Rattle.lookups.specs.declared.RelocationError.{RelocationError}

-- a wanted kind differs from the entry's
abbrev pub differs : Wanted → ℕ → Bool
differs wanted.Any kind = false
differs wanted.Absolute kind = not (eqb kind absolute_kind)
differs wanted.Other kind = eqb kind absolute_kind

-- the bound entry at a place
abbrev pub bound_here : List ℕ → SectionAddress → ℕ → Bool
bound_here ws p j = eqb (bound_at ws j).section p.section && eqb (bound_at ws j).address p.address

abbrev pub bound_index : List ℕ → SectionAddress → Option ℕ
bound_index ws p = first (bound_here ws p) (bounds ws)

-- a target, or none; or that the tables say what names no place
abbrev pub Relocation : Type 0
Relocation = Result (Option RelocationTarget) RelocationError

abbrev pub relocation_error : RelocationError
relocation_error = record {}

-- another kind: an error, before External; no symbol section: External; else the symbol's address plus the addend
abbrev pub bound_target : Wanted → Bound → Relocation
bound_target k r =
    pick (differs k r.kind) (Err relocation_error)
    (pick (eqb r.symbol_section no_section) (Ok (Some External))
    (Ok (Some (Address (record { section = r.symbol_section; address = sum r.symbol_address r.addend })))))

-- the unbound entry that begins at word k is for a section's elf number and an address
abbrev pub entry_is : List ℕ → ℕ → ℕ → ℕ → Bool
entry_is ws k elf a = eqb (word ws k) elf && eqb (word ws (k + 1)) a

-- the first unbound entry for a section's elf number and an address
abbrev pub unbound_here : List ℕ → ℕ → ℕ → ℕ → Bool
unbound_here ws elf a j = eqb (unbound_at ws j).section elf && eqb (unbound_at ws j).address a

abbrev pub unbound_index : List ℕ → ℕ → ℕ → Option ℕ
unbound_index ws elf a = first (unbound_here ws elf a) (unbounds ws)

-- the address of section i plus an addend; 2^32 or more: an error
abbrev pub into_section : List ℕ → ℕ → ℕ → Relocation
into_section ws n i =
    pick (ltb ((section_at ws i).address + n) (2 ^ 32)) (Ok (Some (Address (record { section = i; address = (section_at ws i).address + n })))) (Err relocation_error)

-- another module: External, before the kind is looked at; another kind: an error; no such target section: an error
abbrev pub unbound_target : List ℕ → Wanted → Unbound → Relocation
unbound_target ws k r =
    pick (eqb r.«module» (module_number ws))
    (pick (differs k r.kind) (Err relocation_error) (on_found (elf_index ws r.target) (into_section ws r.addend) (Err relocation_error)))
    (Ok (Some External))

-- what the unbound table says of a section's elf number and an address
abbrev pub unbound_for : List ℕ → ℕ → ℕ → Wanted → Relocation
unbound_for ws elf a k = on_found (unbound_index ws elf a) (λ (j : ℕ). unbound_target ws k (unbound_at ws j)) (Ok None)

-- what the tables say of a place; of a place in no section, nothing
unfoldable pub relocation_for : List ℕ → SectionAddress → Wanted → Relocation
relocation_for ws p k =
    pick (ltb p.section (sections ws))
    (on_found (bound_index ws p) (λ (j : ℕ). bound_target k (bound_at ws j)) (unbound_for ws (section_at ws p.section).elf p.address k))
    (Ok None)

-- an error counts as no relocation
abbrev pub known : Relocation → Option RelocationTarget
known (Ok None) = None
known (Err why) = None
known (Ok (Some t)) = Some t

-- the relocation at an instruction, of any kind
abbrev pub target_at : List ℕ → SectionAddress → Option RelocationTarget
target_at ws p = known (relocation_for ws p wanted.Any)

abbrev pub on_target : Option RelocationTarget → Option RelocationTarget → Option RelocationTarget
on_target (Some t) z = Some t
on_target None z = z

-- the place of an address in a section
abbrev pub place_in : ℕ → ℕ → Option RelocationTarget
place_in a i = Some (Address (record { section = i; address = a }))

-- a value at an instruction of section i, with no relocation: Executable, the section holding the value;
-- else the instruction's own section if it holds it; else nothing
abbrev pub bare_address : List ℕ → ℕ → ℕ → Option RelocationTarget
bare_address ws i v =
    pick (eqb (image_kind ws) executable_kind)
    (on_found (at_address ws v) (place_in v) None)
    (pick (ltb i (sections ws) && holds (section_at ws i) v) (place_in v i) None)

-- the relocation at the instruction if any; else the bare value
unfoldable pub section_address_for : List ℕ → SectionAddress → ℕ → Option RelocationTarget
section_address_for ws p v = on_target (target_at ws p) (bare_address ws p.section v)
