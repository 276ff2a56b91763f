-- A contract `r ≡ d`, with d a definition of the arguments, allows one result: what every such contract of the
-- project cites for "any two allowed results are equal". Assumes nothing.
use Rattle.std.proofs.Common.{◌≡◌, sym, ◌∙◌}

pub allowed_once : {A : Type 0} {d r s : A} → r ≡ d → s ≡ d → r ≡ s
allowed_once p q = p ∙ sym q
