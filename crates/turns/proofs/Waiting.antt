-- What waits: a push that is not refused leaves its place waiting, and no push forgets one.
-- Assumes a lawful ground.
use mathlib.Core.Path.{◌≡◌, refl, sym, ap, ◌∙◌, subst}
use mathlib.Core.Bool.{Bool, true, false, ◌&&◌, not, true≢false}
use mathlib.Core.List.{List, [], ◌∷◌, ◌++◌, Memᴰ}
use lib.Dec.{ltb}
use lib.ListN.{length}
use Rattle.words.specs.Choice.{pick}
use Rattle.turns.specs.Grounds.{Way, to, table, Ground, Pile}
use Rattle.turns.specs.Turns.{push_at, push_each, asked_for, take_way, take_ways}
use Rattle.turns.proofs.Lists.{Some, some_first, some_last, sort_some}
use Rattle.turns.proofs.Lawful.{Lawful}
use Rattle.turns.proofs.Pushes.{grown, refused, by_push, each_keeps, ways_keep}
use Rattle.turns.proofs.TurnLaws.{pushes_after_full, ways_after_full}

module _ {P S A O E M : Type 0} (g : Ground P S A O E M) (laws : Lawful g) where
  abbrev pub At : P → E → Type 0
  At q e = g.place e ≡ q

  -- pushing forgets no waiting state
  push_keeps : (q x : P) (s : S) (k : Pile P S A O E M) → Some (At q) k.stack → Some (At q) (push_at g x s k).stack
  push_keeps q x s k h =
      by_push g (λ (j : Pile P S A O E M). Some (At q) j.stack) x s k h
      (λ e. sort_some (At q) g.key (k.stack ++ (g.entry x s ∷ [])) (some_first (At q) (g.entry x s ∷ []) h)) h

  pub pushes_keep : (q : P) (s : S) (xs : List P) (k : Pile P S A O E M) → Some (At q) k.stack → Some (At q) (push_each g s xs k).stack
  pushes_keep q s xs k h = each_keeps g (λ (j : Pile P S A O E M). Some (At q) j.stack) (push_keeps q) (λ p a j r. r) s xs k h

  pub takes_keep : (q p : P) (ys : List (Way P S A)) (k : Pile P S A O E M) → Some (At q) k.stack → Some (At q) (take_ways g p ys k).stack
  takes_keep q p ys k h = ways_keep g (λ (j : Pile P S A O E M). Some (At q) j.stack) (push_keeps q) (λ x a j r. r) p ys k h

  -- a push that is not refused leaves its word waiting
  push_waits : (q : P) (s : S) (k : Pile P S A O E M) → g.is_word q ≡ true → (push_at g q s k).full ≡ false → Some (At q) (push_at g q s k).stack
  push_waits q s k w = rw w (by k.full refl (ltb (length k.stack) g.slots))
    where
      by : (f : Bool) → k.full ≡ f → (r : Bool) → (pick (not f && true) (pick r (grown g q s k) (refused g k)) k).full ≡ false
          → Some (At q) (pick (not f && true) (pick r (grown g q s k) (refused g k)) k).stack
      by true e r h = absurd (true≢false (sym e ∙ h))
      by false e true h = sort_some (At q) g.key (k.stack ++ (g.entry q s ∷ [])) (some_last (At q) k.stack (g.entry q s) (laws.place_kept q s))
      by false e false h = absurd (true≢false h)

  -- if all is not full in the end it was not before
  pub pushes_open : (s : S) (xs : List P) (k : Pile P S A O E M) → (push_each g s xs k).full ≡ false → k.full ≡ false
  pushes_open s xs k h = by k.full refl
    where
      by : (f : Bool) → k.full ≡ f → k.full ≡ false
      by true e = absurd (true≢false (sym e ∙ ap (λ (j : Pile P S A O E M). j.full) (sym (pushes_after_full g s xs k e)) ∙ h))
      by false e = e

  pub takes_open : (p : P) (ys : List (Way P S A)) (k : Pile P S A O E M) → (take_ways g p ys k).full ≡ false → k.full ≡ false
  takes_open p ys k h = by k.full refl
    where
      by : (f : Bool) → k.full ≡ f → k.full ≡ false
      by true e = absurd (true≢false (sym e ∙ ap (λ (j : Pile P S A O E M). j.full) (sym (ways_after_full g p ys k e)) ∙ h))
      by false e = e

  pub pushes_wait : (q : P) (s : S) (xs : List P) (k : Pile P S A O E M) → g.is_word q ≡ true → Memᴰ q xs → (push_each g s xs k).full ≡ false
      → Some (At q) (push_each g s xs k).stack
  unfolding push_each
  pushes_wait q s (x ∷ xs) k w (Memᴰ.head e) h =
      pushes_keep q s xs (push_at g x s k)
      (subst (λ (y : P). Some (At q) (push_at g y s k).stack) e
      (push_waits q s k w (subst (λ (y : P). (push_at g y s k).full ≡ false) (sym e) (pushes_open s xs (push_at g x s k) h))))
  pushes_wait q s (x ∷ xs) k w (Memᴰ.tail m) h = pushes_wait q s xs (push_at g x s k) w m h
  pushes_wait q s [] k w x3 h = elim x3 [ ]

  -- the places that a way leads to
  pub data Through (q : P) : Way P S A → Type 0 where
    straight : {t : S} → Through q (to q t)
    entered : {a : A} {t : S} → Memᴰ q (g.listed (g.look a)) → Through q (table a t)

  way_waits : (q p : P) (y : Way P S A) (k : Pile P S A O E M) → g.is_word q ≡ true → Through q y → (take_way g p y k).full ≡ false
      → Some (At q) (take_way g p y k).stack
  unfolding take_way
  way_waits q p (to x t) k w straight h = push_waits q t k w h
  way_waits q p (table a t) k w (entered m) h = by k.full refl h
    where
      by : (f : Bool) → k.full ≡ f → (pick f k (push_each g t (g.listed (g.look a)) (asked_for g p a k))).full ≡ false
          → Some (At q) (pick f k (push_each g t (g.listed (g.look a)) (asked_for g p a k))).stack
      by true e r = absurd (true≢false (sym e ∙ r))
      by false e r = pushes_wait q t (g.listed (g.look a)) (asked_for g p a k) w m r

  pub takes_wait : (q p : P) {y : Way P S A} (ys : List (Way P S A)) (k : Pile P S A O E M) → g.is_word q ≡ true → Memᴰ y ys → Through q y
      → (take_ways g p ys k).full ≡ false → Some (At q) (take_ways g p ys k).stack
  unfolding take_ways
  takes_wait q p {y} (x ∷ ys) k w (Memᴰ.head e) u h =
      takes_keep q p ys (take_way g p x k)
      (way_waits q p x k w (subst (Through q) e u) (takes_open p ys (take_way g p x k) h))
  takes_wait q p (x ∷ ys) k w (Memᴰ.tail m) u h = takes_wait q p ys (take_way g p x k) w m u h
  takes_wait q p {y = y} [] k w x4 u h = elim x4 [ ]
