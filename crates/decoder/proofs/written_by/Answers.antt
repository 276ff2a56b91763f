-- Each arm's shifts are the set of its kind.
use mathlib.Core.Path.{sym, ap, ap₂, ◌∙◌}
use Prim.Native.Nat.{ℕ, ◌*◌, ◌%◌, ◌^◌, ◌<◌}
use native.Mathlib.Omega.{arith}
use lib.Bits.{bit_or}
use Rattle.words.specs.Word.{field}
use Rattle.decoder.specs.Written.{set_of, set_by}
use Rattle.decoder.specs.declared.Writes.{Writes}
use Rattle.decoder.proofs.Sets.{one_register, two_registers}
use Rattle.decoder.proofs.written_by.Goals as goal

pub returns-in-Nothing : goal.returns-in-Nothing
unfolding set_of
returns-in-Nothing c =
    let w = c.args.w in
    sym (ap (λ (k : Writes). set_by k w) c.in-Nothing.is)

pub returns-in-Rd : goal.returns-in-Rd
returns-in-Rd c =
    let w = c.args.w in
    let h : field w 6 10 < 32 = omega arith in
    ap (λ (d : ℕ). 1 * 2 ^ d % 2 ^ 32) c.rd.ensures
    ∙ one_register (field w 6 10) h
    ∙ sym (ap (λ (k : Writes). set_by k w) c.in-Rd.is)

pub returns-in-Ra : goal.returns-in-Ra
returns-in-Ra c =
    let w = c.args.w in
    let h : field w 11 15 < 32 = omega arith in
    ap (λ (d : ℕ). 1 * 2 ^ d % 2 ^ 32) c.ra.ensures
    ∙ one_register (field w 11 15) h
    ∙ sym (ap (λ (k : Writes). set_by k w) c.in-Ra.is)

pub returns-in-RdRa : goal.returns-in-RdRa
returns-in-RdRa c =
    let w = c.args.w in
    let hd : field w 6 10 < 32 = omega arith in
    let ha : field w 11 15 < 32 = omega arith in
    ap₂ (λ (d a : ℕ). bit_or (1 * 2 ^ d % 2 ^ 32) (1 * 2 ^ a % 2 ^ 32)) c.rd.ensures c.ra.ensures
    ∙ two_registers (field w 6 10) (field w 11 15) hd ha
    ∙ sym (ap (λ (k : Writes). set_by k w) c.in-RdRa.is)
