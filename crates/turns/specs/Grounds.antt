-- What a walk is over: places, states, tables that are asked for, and the history it leaves. Any kinds of them will do.
-- Assumes nothing.
use Rattle.std.specs.Prelude.{ℕ, Bool, List, ◌∷◌}

-- a way out of a word: to a place, or through a table that is asked for, each with its own state
pub data Way (P S A : Type 0) : Type 0 where
  to : P → S → Way P S A
  table : A → S → Way P S A

-- what a stepped word asks of the walk: go on at the next word, jump, or leave by ways in order
pub data Move (P S A : Type 0) : Type 0 where
  on : S → Move P S A
  jump : P → S → Move P S A
  leave : List (Way P S A) → Move P S A

-- what runs: nothing, or the word at a place from a state
pub data Spot (P S : Type 0) : Type 0 where
  idle : Spot P S
  busy : P → S → Spot P S

-- the history: a block begun at a place; a word stepped, whether it was unvisited, and the state before; a table that the word at a
-- place asked for, and what came of it
pub data Event (P S A O : Type 0) : Type 0 where
  begun : P → Event P S A O
  stepped : P → Bool → S → Event P S A O
  looked : P → A → O → Event P S A O

-- where a walk takes place: P places, S states, A asked tables, O their outcomes, E waiting states, M lent words
pub record Ground (P S A O E M : Type 0) : Type 0 where
  -- W, the stack's slots, and how many places one word can push at most
  pub words : ℕ
  pub slots : ℕ
  pub most : ℕ
  -- an aligned word of code, its number in the visited map, and the place after it
  pub is_word : P → Bool
  pub number : P → ℕ
  pub next : P → P
  -- a state that waits at a place, and what it is ordered by
  pub entry : P → S → E
  pub place : E → P
  pub state : E → S
  pub key : E → ℕ
  -- what the word at a place asks in a state
  pub move : P → S → Move P S A
  -- what asking for a table gives, whether that is a table read, and its entries in order
  pub look : A → O
  pub is_read : O → Bool
  pub listed : O → List P
  -- the lent words after a push onto so many states, and after a table was asked for; no rule reads them
  pub pushing : M → ℕ → P → S → M
  pub reading : M → A → O → M

-- what pushing changes: the waiting states (the next to pop last), whether a push was refused (5), the history (the latest first), the
-- lent words
pub record Pile (P S A O E M : Type 0) : Type 0 where
  pub stack : List E
  pub full : Bool
  pub log : List (Event P S A O)
  pub lent : M

-- where a walk stands; vis is the visited map
pub record Conf (P S A O E M : Type 0) : Type 0 where
  pub spot : Spot P S
  pub pile : Pile P S A O E M
  pub vis : List ℕ

module _ {P S A O E M : Type 0} where
  abbrev pub pile_of : List E → Bool → List (Event P S A O) → M → Pile P S A O E M
  pile_of st f l m = record { stack = st; full = f; log = l; lent = m }

  abbrev pub conf : Spot P S → Pile P S A O E M → List ℕ → Conf P S A O E M
  conf sp k v = record { spot = sp; pile = k; vis = v }

  -- one event more
  abbrev pub told : Event P S A O → Pile P S A O E M → Pile P S A O E M
  told x k = pile_of k.stack k.full (x ∷ k.log) k.lent

  -- other waiting states
  abbrev pub restacked : List E → Pile P S A O E M → Pile P S A O E M
  restacked st k = pile_of st k.full k.log k.lent

-- by cases
abbrev pub on_spot : {P S B : Type 0} → Spot P S → B → (P → S → B) → B
on_spot idle z f = z
on_spot (busy p s) z f = f p s

abbrev pub on_move : {P S A B : Type 0} → Move P S A → (S → B) → (P → S → B) → (List (Way P S A) → B) → B
on_move (on s) f g h = f s
on_move (jump q s) f g h = g q s
on_move (leave ys) f g h = h ys
