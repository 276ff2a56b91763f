use Rattle.std.proofs.Common.{◌≡◌, ℕ, zero, suc, ◌+◌, ◌-◌, ◌≤◌, List, arith}
use Rattle.stack.specs.Stack.{Stack}
use Rattle.stack.proofs.Stacks.{pop_stack}
use Rattle.exchange.proofs.stacks.all.Goals as goal

-- popping leaves a stack
fewer_held : (words : List ℕ) (n m : ℕ) → Stack words n → m ≤ n → Stack words m
fewer_held words n m st l = down (n - m) m (let e : m + (n - m) ≡ n = omega arith in rw e st)
  where
    down : (k m : ℕ) → Stack words (m + k) → Stack words m
    down zero m s = let e : m + 0 ≡ m = omega arith in rw e at s
    down (suc k) m s = down k m (pop_stack words (m + k) (let e : m + k + 1 ≡ m + suc k = omega arith in rw e s))

pub one-requires : goal.one-requires
one-requires c = (fewer_held _ c.args.count _ c.requires (omega arith), omega arith)
