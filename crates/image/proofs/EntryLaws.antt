-- The rules on relocations and object symbols, at each index, as plain facts.
-- Assumes nothing.
use Rattle.std.specs.Prelude.{Option, Some, None}
use mathlib.Core.Path.{◌≡◌, refl}
use mathlib.Core.Bool.{Bool, true, false, ◌||◌}
use mathlib.Core.List.{List, [], ◌∷◌}
use Prim.Native.Nat.{ℕ, ◌+◌, ◌≤◌, ◌<◌}
use native.Mathlib.Omega.{arith}
use lib.Dec.{leb, ltb, eqb}
use borrow.Author.Tests.{eq-eqb, leb-true, ltb-true, eqb-true}
use Rattle.words.specs.Choice.{pick}
use Rattle.places.specs.Places.{before}
use Rattle.search.specs.First.{on_found}
use Rattle.search.proofs.EveryLaws.{and_left, and_right, every_at}
use Rattle.search.proofs.FirstMatch.{first_below}
use Rattle.search.proofs.Conjunction.{chain_first, chain_at}
use Rattle.image.specs.declared.Section.{Section}
use Rattle.image.specs.declared.Bound.{Bound}
use Rattle.image.specs.declared.Unbound.{Unbound}
use Rattle.image.specs.declared.Symbol.{Symbol}
use Rattle.image.specs.Numbers.{absolute_kind, no_section}
use Rattle.image.specs.Layout.{sections, bounds, unbounds, symbols, section_at, bound_at, unbound_at, symbol_at}
use Rattle.image.specs.Rules.{end_of, lies_in, has_elf, elf_index, bound_sound, bounds_sound, bound_place, unbound_sound, unbounds_sound, symbol_sound, symbols_sound, symbol_place}
use Rattle.image.proofs.SoundTables.{SoundTables}
use Rattle.image.proofs.Order.{ascends}

-- a relocation of a kind at an address lies in a section
pub record Lies (s : Section) (a kind : ℕ) : Type 0 where
  pub from : s.address ≤ a
  pub to : a < s.address + s.size
  pub four_bytes : kind ≡ absolute_kind → a + 4 ≤ s.address + s.size

room : (t : Bool) (a e : ℕ) → a + pick t 4 1 ≤ e → a < e
room true a e l = omega arith
room false a e l = omega arith

pub lies_says : (s : Section) (a kind : ℕ) → lies_in s a kind ≡ true → Lies s a kind
lies_says s a kind h =
    let tail = leb (a + pick (eqb kind absolute_kind) 4 1) (end_of s) in
    let to : a + pick (eqb kind absolute_kind) 4 1 ≤ end_of s = leb-true _ _ (and_right (leb s.address a) tail h) in
    record {
      from = leb-true _ _ (and_left (leb s.address a) tail h);
      to = room (eqb kind absolute_kind) a (end_of s) to;
      four_bytes = λ k. rw (eq-eqb kind absolute_kind k) at to;
    }

-- a bound relocation
pub record SoundBound (ws : List ℕ) (r : Bound) : Type 0 where
  pub in_section : r.section < sections ws
  pub kind_known_lem : r.kind < 2
  pub lies : Lies (section_at ws r.section) r.address r.kind
  pub symbol_in : (r.symbol_section ≡ no_section → ⊥) → r.symbol_section < sections ws

or_else : (a b : Bool) → a || b ≡ true → (a ≡ true → ⊥) → b ≡ true
or_else true b e f = absurd (f refl)
or_else false b e f = e

pub sound_bound : (ws : List ℕ) (r : Bound) → bound_sound ws r ≡ true → SoundBound ws r
sound_bound ws r e =
    let first = ltb r.section (sections ws) in
    let none = eqb r.symbol_section no_section in
    let some = ltb r.symbol_section (sections ws) in
    let rest = ltb r.kind 2 ∷ lies_in (section_at ws r.section) r.address r.kind ∷ (none || some) ∷ [] in
    record {
      in_section = ltb-true _ _ (chain_first first rest e);
      kind_known_lem = ltb-true _ _ (chain_at first rest 0 e);
      lies = lies_says (section_at ws r.section) r.address r.kind (chain_at first rest 1 e);
      symbol_in = λ f. ltb-true _ _ (or_else none some (chain_at first rest 2 e) (λ q. f (eqb-true _ _ q)));
    }

pub bound_at_lem : (ws : List ℕ) → SoundTables ws → (j : ℕ) → j < bounds ws → SoundBound ws (bound_at ws j)
unfolding bounds_sound
bound_at_lem ws t j l = sound_bound ws (bound_at ws j) (every_at (λ (k : ℕ). bound_sound ws (bound_at ws k)) (bounds ws) j t.bounds_sound_lem l)

pub bounds_ordered : (ws : List ℕ) → SoundTables ws → (j k : ℕ) → j < k → k < bounds ws → before (bound_place ws j) (bound_place ws k) ≡ true
bounds_ordered ws t j k l m = ascends (bound_place ws) (bounds ws) j k t.bounds_ascend_lem l m

-- an unbound relocation: the section with its elf number
pub record SoundUnbound (ws : List ℕ) (r : Unbound) : Type 0 where
  pub kind_known_lem : r.kind < 2
  pub index : ℕ
  pub found : elf_index ws r.section ≡ Some index
  pub in_section : index < sections ws
  pub lies : Lies (section_at ws index) r.address r.kind

by_found : (ws : List ℕ) (r : Unbound) (f : Option ℕ) → elf_index ws r.section ≡ f → r.kind < 2
    → on_found f (λ (i : ℕ). lies_in (section_at ws i) r.address r.kind) false ≡ true → SoundUnbound ws r
by_found ws r (Some i) q k e =
    record {
      kind_known_lem = k;
      index = i;
      found = q;
      in_section = first_below (has_elf ws r.section) (sections ws) i q;
      lies = lies_says (section_at ws i) r.address r.kind e;
    }
by_found ws r None q k e = let z : ◌≡◌ {A = ℕ} 0 1 = cc in absurd (omega arith)

pub sound_unbound : (ws : List ℕ) (r : Unbound) → unbound_sound ws r ≡ true → SoundUnbound ws r
sound_unbound ws r e =
    let known = ltb r.kind 2 in
    let inside = on_found (elf_index ws r.section) (λ (i : ℕ). lies_in (section_at ws i) r.address r.kind) false in
    by_found ws r (elf_index ws r.section) refl (ltb-true _ _ (and_left known inside e)) (and_right known inside e)

pub unbound_at_lem : (ws : List ℕ) → SoundTables ws → (j : ℕ) → j < unbounds ws → SoundUnbound ws (unbound_at ws j)
unfolding unbounds_sound
unbound_at_lem ws t j l = sound_unbound ws (unbound_at ws j) (every_at (λ (k : ℕ). unbound_sound ws (unbound_at ws k)) (unbounds ws) j t.unbounds_sound_lem l)

-- an object symbol
pub record SoundSymbol (ws : List ℕ) (s : Symbol) : Type 0 where
  pub in_section : s.section < sections ws
  pub flag_known : s.known < 2

pub symbol_at_lem : (ws : List ℕ) → SoundTables ws → (j : ℕ) → j < symbols ws → SoundSymbol ws (symbol_at ws j)
unfolding symbols_sound
symbol_at_lem ws t j l =
    let s = symbol_at ws j in
    let e = every_at (λ (k : ℕ). symbol_sound ws (symbol_at ws k)) (symbols ws) j t.symbols_sound_lem l in
    record {
      in_section = ltb-true _ _ (and_left (ltb s.section (sections ws)) (ltb s.known 2) e);
      flag_known = ltb-true _ _ (and_right (ltb s.section (sections ws)) (ltb s.known 2) e);
    }

pub symbols_ordered : (ws : List ℕ) → SoundTables ws → (j k : ℕ) → j < k → k < symbols ws → before (symbol_place ws j) (symbol_place ws k) ≡ true
symbols_ordered ws t j k l m = ascends (symbol_place ws) (symbols ws) j k t.symbols_ascend_lem l m
