-- The loops' invariants: the words of the first records are put, and those records fit.
use mathlib.Core.List.{List}
use mathlib.Core.Path.{◌≡◌, refl, ap, ◌∙◌}
use Prim.Native.Nat.{ℕ, ◌+◌, ◌*◌}
use native.Mathlib.Omega.{arith}
use lib.ListN.{length, get_or}
use borrow.Author.Count.{below_more}
use borrow.Author.Rules.{rules}
use Rattle.vm.specs.Registers.{blank, no_cr}
use Rattle.slot.specs.Layout.{register_words, compare_words, ends_words, state_words}
use Rattle.slot.specs.Put.{put, many}
use Rattle.slot.proofs.PutLaws.{put_nil, put_put3, many_length, many_more}
use Rattle.slot.proofs.SlotLaws.{register_wide, compare_wide}
use Rattle.slot.proofs.put_state.Goals as goal

pub loop-i-init : goal.loop-i-init
unfolding many
loop-i-init c =
    let a = c.args in
    (refl, put_nil a.words.now a.at, λ k h. absurd (let z : ⊥ = omega arith in z), search rules, search rules)

pub loop-i-preserved : goal.loop-i-preserved
loop-i-preserved c =
    let a = c.args in (
      c.put_register.auto.words ∙ c.loop-i.invariant.0,
      c.put_register.ensures.0
          ∙ ap (λ (ws : List ℕ). put ws (a.at + c.loop-i.i * 8) (register_words (get_or a.s.gpr c.loop-i.i blank))) c.loop-i.invariant.1
          ∙ many_more register_words blank 8 register_wide a.words.now a.at c.loop-i.i a.s.gpr (omega arith),
      below_more _ _ c.loop-i.invariant.2 c.put_register.ensures.1,
      c.loop-i.invariant.3,
      c.loop-i.invariant.4,
    )

pub loop-j-init : goal.loop-j-init
unfolding many
loop-j-init c =
    (refl, put_nil c.loop-i.words (c.args.at + 256), λ k h. absurd (let z : ⊥ = omega arith in z), c.loop-i.invariant.4)

pub loop-j-preserved : goal.loop-j-preserved
loop-j-preserved c =
    let a = c.args in (
      c.put_compare.auto.words ∙ c.loop-j.invariant.0,
      c.put_compare.ensures.0
          ∙ ap (λ (ws : List ℕ). put ws (a.at + 256 + c.loop-j.j * 8) (compare_words (get_or a.s.cr c.loop-j.j no_cr))) c.loop-j.invariant.1
          ∙ many_more compare_words no_cr 8 compare_wide c.loop-i.words (a.at + 256) c.loop-j.j a.s.cr (omega arith),
      below_more _ _ c.loop-j.invariant.2 c.put_compare.ensures.1,
      c.loop-j.invariant.3,
    )

pub returns : goal.returns
unfolding state_words
returns c =
    let a = c.args in
    let i : c.loop-i.i ≡ 32 = omega arith in
    let j : c.loop-j.j ≡ 8 = omega arith in
    let gs : List ℕ = many register_words blank 32 a.s.gpr in
    let rs : List ℕ = many compare_words no_cr 8 a.s.cr in
    let gl : length gs ≡ 256 = many_length register_words blank 8 register_wide 32 a.s.gpr in
    let rl : length rs ≡ 64 = many_length compare_words no_cr 8 compare_wide 8 a.s.cr in
    let g : c.loop-i.words ≡ put a.words.now a.at gs = c.loop-i.invariant.1 ∙ ap (λ (k : ℕ). put a.words.now a.at (many register_words blank k a.s.gpr)) i in
    let r : c.loop-j.words ≡ put c.loop-i.words (a.at + 256) rs = c.loop-j.invariant.1 ∙ ap (λ (k : ℕ). put c.loop-i.words (a.at + 256) (many compare_words no_cr k a.s.cr)) j in (
      rw (c.put_ends.ensures.0, r, g)
          (put_put3 a.words.now a.at (a.at + 256) (a.at + 320) gs rs (ends_words a.s.lr a.s.ctr) (omega arith) (omega arith) (omega arith)),
      record { gpr_count = c.loop-i.invariant.3; cr_count = c.loop-i.invariant.4; gprs = λ k h. c.loop-i.invariant.2 k (omega arith); crs = λ k h. c.loop-j.invariant.2 k (omega arith); lr = c.put_ends.ensures.1.0; ctr = c.put_ends.ensures.1.1 },
    )
