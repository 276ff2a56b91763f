-- Whatever a lookup points to lies in a section that exists.
-- Assumes nothing.
use Rattle.std.specs.Prelude.{Some, None, Ok, Err, Option}
use mathlib.Core.Path.{◌≡◌, refl, ◌∙◌}
use mathlib.Core.Bool.{Bool, true, false, ◌&&◌}
use mathlib.Core.List.{List}
use Prim.Native.Nat.{ℕ, ◌+◌, ◌^◌, ◌<◌}
use native.Mathlib.Omega.{arith}
use borrow.Author.Tests.{ltb-true, eqb-false}
use lib.Dec.{ltb, eqb}
use Rattle.words.specs.Choice.{pick}
use Rattle.words.specs.Sums.{sum}
use Rattle.places.specs.declared.SectionAddress.{SectionAddress}
use Rattle.places.specs.declared.RelocationTarget.TheVariants.{External, Address}
use Rattle.search.specs.First.{on_found}
use Rattle.search.proofs.FirstMatch.{first_below}
use Rattle.image.specs.declared.Bound.{Bound}
use Rattle.image.specs.declared.Unbound.{Unbound}
use Rattle.image.specs.Numbers.{executable_kind, no_section}
use Rattle.image.specs.Layout.{image_kind, module_number, sections, bounds, section_at, bound_at, unbound_at}
use Rattle.image.specs.Rules.{has_elf, elf_index, holds, tables_sound}
use Rattle.lookups.specs.declared.Wanted.{Wanted}
use Rattle.lookups.specs.declared.Wanted.TheVariants as wanted
use Rattle.lookups.specs.Sections.{held, at_address}
use Rattle.lookups.specs.Relocations.{differs, bound_here, bound_index, bound_target, unbound_index, unbound_target, into_section, relocation_for, known, target_at, on_target, place_in, bare_address, section_address_for}
use Rattle.image.proofs.SoundTables.{SoundTables, sound_tables}
use Rattle.image.proofs.EntryLaws.{SoundBound, bound_at_lem}
use Rattle.lookups.specs.Relocations.{Relocation}
use Rattle.lookups.specs.Relocations.{relocation_error}
use Rattle.places.specs.declared.RelocationTarget.{RelocationTarget}

-- an address, by the section that it names
named : (ws : List ℕ) (i a : ℕ) (q : SectionAddress) → i < sections ws → ◌≡◌ {A = Relocation} (Ok (Some (Address (record { section = i; address = a })))) (Ok (Some (Address q))) → q.section < sections ws
named ws i a q h e =
    let s : q ≡ record { section = i; address = a } = cc in
    rw s h

not_external : {A : Type 0} (q : SectionAddress) → ◌≡◌ {A = Relocation} (Ok (Some External)) (Ok (Some (Address q))) → A
not_external q e = let z : ◌≡◌ {A = ℕ} 0 1 = cc in absurd (omega arith)

not_error : {A : Type 0} (q : SectionAddress) → ◌≡◌ {A = Relocation} (Err relocation_error) (Ok (Some (Address q))) → A
not_error q e = let z : ◌≡◌ {A = ℕ} 0 1 = cc in absurd (omega arith)

not_nothing : {A : Type 0} (q : SectionAddress) → ◌≡◌ {A = Relocation} (Ok None) (Ok (Some (Address q))) → A
not_nothing q e = let z : ◌≡◌ {A = ℕ} 0 1 = cc in absurd (omega arith)

-- a bound entry names its symbol's section
bound_case : (ws : List ℕ) (r : Bound) (q : SectionAddress) (d n : Bool) → eqb r.symbol_section no_section ≡ n → SoundBound ws r
    → ◌≡◌ {A = Relocation} (pick d (Err relocation_error) (pick n (Ok (Some External)) (Ok (Some (Address (record { section = r.symbol_section; address = sum r.symbol_address r.addend })))))) (Ok (Some (Address q)))
    → q.section < sections ws
bound_case ws r q true n g s e = not_error q e
bound_case ws r q false true g s e = not_external q e
bound_case ws r q false false g s e = named ws r.symbol_section (sum r.symbol_address r.addend) q (s.symbol_in (eqb-false _ _ g)) e

bound_exists : (ws : List ℕ) (k : Wanted) (j : ℕ) (q : SectionAddress) → SoundTables ws → j < bounds ws → bound_target k (bound_at ws j) ≡ Ok (Some (Address q)) → q.section < sections ws
bound_exists ws k j q s h e =
    let r = bound_at ws j in
    bound_case ws r q (differs k r.kind) (eqb r.symbol_section no_section) refl (bound_at_lem ws s j h) e

-- an unbound entry names the section that was found for its target
sum_case : (ws : List ℕ) (i a : ℕ) (q : SectionAddress) (t : Bool) → i < sections ws → ◌≡◌ {A = Relocation} (pick t (Ok (Some (Address (record { section = i; address = a })))) (Err relocation_error)) (Ok (Some (Address q))) → q.section < sections ws
sum_case ws i a q true h e = named ws i a q h e
sum_case ws i a q false h e = not_error q e

unbound_case : (ws : List ℕ) (r : Unbound) (q : SectionAddress) (m d : Bool) (f : Option ℕ) → elf_index ws r.target ≡ f
    → ◌≡◌ {A = Relocation} (pick m (pick d (Err relocation_error) (on_found f (into_section ws r.addend) (Err relocation_error))) (Ok (Some External))) (Ok (Some (Address q))) → q.section < sections ws
unbound_case ws r q false d f g e = not_external q e
unbound_case ws r q true true f g e = not_error q e
unbound_case ws r q true false None g e = not_error q e
unbound_case ws r q true false (Some i) g e =
    sum_case ws i ((section_at ws i).address + r.addend) q (ltb ((section_at ws i).address + r.addend) (2 ^ 32)) (first_below (has_elf ws r.target) (sections ws) i g) e

tables_case : (ws : List ℕ) (p : SectionAddress) (k : Wanted) (q : SectionAddress) → SoundTables ws → (t : Bool) (b u : Option ℕ) → bound_index ws p ≡ b
    → ◌≡◌ {A = Relocation} (pick t (on_found b (λ (j : ℕ). bound_target k (bound_at ws j)) (on_found u (λ (j : ℕ). unbound_target ws k (unbound_at ws j)) (Ok None))) (Ok None)) (Ok (Some (Address q))) → q.section < sections ws
tables_case ws p k q s false b u f e = not_nothing q e
tables_case ws p k q s true (Some j) u f e = bound_exists ws k j q s (first_below (bound_here ws p) (bounds ws) j f) e
tables_case ws p k q s true None None f e = not_nothing q e
tables_case ws p k q s true None (Some j) f e =
    let r = unbound_at ws j in
    unbound_case ws r q (eqb r.«module» (module_number ws)) (differs k r.kind) (elf_index ws r.target) refl e

pub target_exists : (ws : List ℕ) (p : SectionAddress) (k : Wanted) (q : SectionAddress) → tables_sound ws ≡ true → relocation_for ws p k ≡ Ok (Some (Address q)) → q.section < sections ws
unfolding relocation_for
target_exists ws p k q t e =
    tables_case ws p k q (sound_tables ws t) (ltb p.section (sections ws)) (bound_index ws p) (unbound_index ws (section_at ws p.section).elf p.address) refl e

-- the same of the place that a value at an instruction stands for
from_known : (r : Relocation) (q : SectionAddress) → known r ≡ Some (Address q) → r ≡ Ok (Some (Address q))
from_known (Ok None) q e = let z : ◌≡◌ {A = ℕ} 0 1 = cc in absurd (omega arith)
from_known (Err why) q e = let z : ◌≡◌ {A = ℕ} 0 1 = cc in absurd (omega arith)
from_known (Ok (Some t)) q e = cc

missing : {A : Type 0} (q : SectionAddress) → None ≡ Some (Address q) → A
missing q e = let z : ◌≡◌ {A = ℕ} 0 1 = cc in absurd (omega arith)

placed : (ws : List ℕ) (v i : ℕ) (q : SectionAddress) → i < sections ws → place_in v i ≡ Some (Address q) → q.section < sections ws
placed ws v i q h e = let s : q ≡ record { section = i; address = v } = cc in rw s h

held_case : (ws : List ℕ) (v : ℕ) (q : SectionAddress) (f : Option ℕ) → at_address ws v ≡ f → on_found f (place_in v) None ≡ Some (Address q) → q.section < sections ws
held_case ws v q None g e = missing q e
held_case ws v q (Some i) g e = placed ws v i q (first_below (held ws v) (sections ws) i g) e

own_case : (ws : List ℕ) (v i : ℕ) (q : SectionAddress) (t h : Bool) → ltb i (sections ws) ≡ t → pick (t && h) (place_in v i) None ≡ Some (Address q) → q.section < sections ws
own_case ws v i q false h l e = missing q e
own_case ws v i q true false l e = missing q e
own_case ws v i q true true l e = placed ws v i q (ltb-true _ _ l) e

bare_case : (ws : List ℕ) (v i : ℕ) (q : SectionAddress) (x : Bool)
    → pick x (on_found (at_address ws v) (place_in v) None) (pick (ltb i (sections ws) && holds (section_at ws i) v) (place_in v i) None) ≡ Some (Address q) → q.section < sections ws
bare_case ws v i q true e = held_case ws v q (at_address ws v) refl e
bare_case ws v i q false e = own_case ws v i q (ltb i (sections ws)) (holds (section_at ws i) v) refl e

value_case : (ws : List ℕ) (p q : SectionAddress) (v : ℕ) → tables_sound ws ≡ true → (m : Option RelocationTarget) → target_at ws p ≡ m
    → on_target m (bare_address ws p.section v) ≡ Some (Address q) → q.section < sections ws
value_case ws p q v t (Some r) m e = target_exists ws p wanted.Any q t (from_known (relocation_for ws p wanted.Any) q (m ∙ e))
value_case ws p q v t None m e = bare_case ws v p.section q (eqb (image_kind ws) executable_kind) e

pub value_exists : (ws : List ℕ) (p q : SectionAddress) (v : ℕ) → tables_sound ws ≡ true → section_address_for ws p v ≡ Some (Address q) → q.section < sections ws
unfolding section_address_for
value_exists ws p q v t e = value_case ws p q v t (target_at ws p) refl e
