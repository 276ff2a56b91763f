-- A value as a tag and three numbers, a place that may be missing as a flag and two.
-- Assumes nothing. What no value has as its tag reads as Unknown.
use Rattle.std.specs.Prelude.{Bool, true, false, ℕ, ◌+◌, ◌%◌, eqb, Option, Some, None}
use Rattle.places.specs.declared.RelocationTarget.TheVariants as target
use Rattle.places.specs.declared.RelocationTarget.{RelocationTarget}
use Rattle.vm.specs.Values.{on_mark}
use Rattle.vm.specs.declared.GprValue.TheVariants.{Unknown, Constant, Address, ComparisonResult, Range, LoadIndexed}
use Rattle.vm.specs.declared.GprValue.{GprValue}
use Rattle.words.specs.Choice.{pick}
use Rattle.slot.specs.declared.AddressNumbers.{AddressNumbers}
use Rattle.slot.specs.declared.Numbers.{Numbers}
use Rattle.places.specs.declared.SectionAddress.{SectionAddress}

-- External by its tag alone, an address by the next tag
abbrev pub target_numbers : RelocationTarget → ℕ → ℕ → Numbers
target_numbers target.External tag n = record { tag = tag; a = 0; b = 0; c = n }
target_numbers (target.Address p) tag n = record { tag = tag + 1; a = p.section; b = p.address; c = n }

abbrev pub load_numbers : RelocationTarget → Option ℕ → Numbers
load_numbers t None = target_numbers t 6 0
load_numbers t (Some n) = target_numbers t 8 n

-- a value's tag and numbers, 0 where it has fewer than three
abbrev pub numbers_of : GprValue → Numbers
numbers_of Unknown = record { tag = 0; a = 0; b = 0; c = 0 }
numbers_of (Constant n) = record { tag = 1; a = n; b = 0; c = 0 }
numbers_of (Address t) = target_numbers t 2 0
numbers_of (ComparisonResult k) = record { tag = 4; a = k; b = 0; c = 0 }
numbers_of (Range lo hi st) = record { tag = 5; a = lo; b = hi; c = st }
numbers_of (LoadIndexed t m) = load_numbers t m

-- the address that two numbers name
abbrev pub address_in : ℕ → ℕ → RelocationTarget
address_in a b = target.Address (record { section = a; address = b })

-- the value of a tag and three numbers
unfoldable pub value_of : ℕ → ℕ → ℕ → ℕ → GprValue
value_of t a b c =
    pick (eqb t 1) (Constant a)
    (pick (eqb t 2) (Address target.External)
    (pick (eqb t 3) (Address (address_in a b))
    (pick (eqb t 4) (ComparisonResult (a % 256))
    (pick (eqb t 5) (Range a b c)
    (pick (eqb t 6) (LoadIndexed target.External None)
    (pick (eqb t 7) (LoadIndexed (address_in a b) None)
    (pick (eqb t 8) (LoadIndexed target.External (Some c))
    (pick (eqb t 9) (LoadIndexed (address_in a b) (Some c)) Unknown))))))))

-- the CR field of a mark, 0 for any other value: a number of a byte
abbrev pub mark_of : GprValue → ℕ
mark_of v = on_mark v (λ k. k) 0

abbrev pub address_numbers : Option SectionAddress → AddressNumbers
address_numbers None = record { known = 0; section = 0; address = 0 }
address_numbers (Some p) = record { known = 1; section = p.section; address = p.address }

abbrev pub maybe_of : ℕ → ℕ → ℕ → Option SectionAddress
maybe_of known a b = pick (eqb known 1) (Some (record { section = a; address = b })) None

abbrev pub bit_of : Bool → ℕ
bit_of true = 1
bit_of false = 0
