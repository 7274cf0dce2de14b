-- The walk's selections are those with exactly two taken on each edge, each once.
use mathlib.Core.Bool.{Bool, true, false, ◌&&◌, cond, true≢false}
use mathlib.Core.List.{List, [], ◌∷◌, ◌++◌}
use mathlib.Core.Path.{◌≡◌, refl, sym, ap, ap₂, ◌∙◌}
use Prim.Native.Nat.{ℕ, zero, suc, ◌+◌, ◌≤◌, ◌<◌}
use native.Mathlib.Omega.{arith}
use lib.ListN.{get_or, set}
use lib.Dec.{eqb, ltb}
use borrow.Author.Tests.{eq-eqb, eqb-true, eqb-false, ltb-false}
use Rattle.lists.specs.Lists.{filter, keep}
use Rattle.sets.specs.Word.{bit, count, both, first}
use Rattle.lists.proofs.Truth.{and_split, and_both, or-none}
use Rattle.paper.specs.Walk.{Status, Taken, Rejected, Undecided, is_open, taken_on, open_on, open_count}
use Rattle.paper.specs.Walk.{contradicts, Outcome, Broken, Stands, on_stands, stable, choose}
use Rattle.means_walk.specs.Complete.{allows, agrees, exact, equal, same, times_in, solutions}
use Rattle.means_walk.specs.Lowest.{opens}
use Rattle.means_walk.proofs.Status.{count_open, count-opens, count_set}
use Rattle.means_walk.proofs.Settled.{stable-agrees, cond_is, Calm, stable_rest}

-- ---- a state with nothing undecided
open_under : (mask : List Bool) (st : List Status) → open_on mask st ≤ open_count st
unfolding open_on open_count
open_under [] st = omega arith
open_under (b ∷ mask) [] = omega arith
open_under (true ∷ mask) (s ∷ st) = omega (arith, open_under mask st)
open_under (false ∷ mask) (s ∷ st) = omega (arith, open_under mask st)

pub calm_exact : (masks : List (List Bool)) (st : List Status) → open_count st ≡ 0 → Calm masks st → exact masks st ≡ true
unfolding exact contradicts
calm_exact [] st z c = refl
calm_exact (mask ∷ masks) st z c =
    let p = or-none (ltb 2 (taken_on mask st)) (ltb (taken_on mask st + open_on mask st) 2) c.0 in
    and_both
    (eq-eqb (taken_on mask st) 2
    (omega (arith, ltb-false 2 (taken_on mask st) p.0, ltb-false (taken_on mask st + open_on mask st) 2 p.1, open_under mask st)))
    (calm_exact masks st z c.1)

one_full : (s v : Status) → bit (is_open s) ≡ 0 → allows s v ≡ equal s v
one_full Taken Taken h = refl
one_full Taken Rejected h = refl
one_full Taken Undecided h = refl
one_full Rejected Taken h = refl
one_full Rejected Rejected h = refl
one_full Rejected Undecided h = refl
one_full Undecided v h = absurd (omega arith)

full_agrees : (st x : List Status) → open_count st ≡ 0 → agrees st x ≡ same st x
unfolding agrees same open_count
full_agrees [] [] z = refl
full_agrees [] (v ∷ x) z = refl
full_agrees (s ∷ st) [] z = refl
full_agrees (s ∷ st) (v ∷ x) z = ap₂ (λ (a b : Bool). a && b) (one_full s v (omega arith)) (full_agrees st x (omega arith))

equal_path : (s v : Status) → equal s v ≡ true → s ≡ v
equal_path Taken Taken e = refl
equal_path Taken Rejected e = absurd (true≢false (sym e))
equal_path Taken Undecided e = absurd (true≢false (sym e))
equal_path Rejected Taken e = absurd (true≢false (sym e))
equal_path Rejected Rejected e = refl
equal_path Rejected Undecided e = absurd (true≢false (sym e))
equal_path Undecided Taken e = absurd (true≢false (sym e))
equal_path Undecided Rejected e = absurd (true≢false (sym e))
equal_path Undecided Undecided e = refl

pub same_path : (st x : List Status) → same st x ≡ true → st ≡ x
unfolding same
same_path [] [] e = refl
same_path [] (v ∷ x) e = absurd (true≢false (sym e))
same_path (s ∷ st) [] e = absurd (true≢false (sym e))
same_path (s ∷ st) (v ∷ x) e =
    let p = and_split (equal s v) (same st x) e in
    ap₂ (λ (a : Status) (b : List Status). a ∷ b) (equal_path s v p.0) (same_path st x p.1)

-- ---- the two branches share out what a state allows
split_tail : (a p q r : Bool) → bit p ≡ bit q + bit r → bit (a && p) ≡ bit (a && q) + bit (a && r)
split_tail true p q r e = e
split_tail false p q r e = refl

split_agrees : (st : List Status) (k : ℕ) → get_or (opens st) k false ≡ true → (x : List Status)
    → bit (agrees st x) ≡ bit (agrees (set st k Taken) x) + bit (agrees (set st k Rejected) x)
unfolding agrees
split_agrees [] k e x = absurd (true≢false (sym e))
split_agrees (Taken ∷ st) zero e x = absurd (true≢false (sym e))
split_agrees (Rejected ∷ st) zero e x = absurd (true≢false (sym e))
split_agrees (Undecided ∷ st) zero e [] = refl
split_agrees (Undecided ∷ st) zero e (Taken ∷ x) = omega arith
split_agrees (Undecided ∷ st) zero e (Rejected ∷ x) = omega arith
split_agrees (Undecided ∷ st) zero e (Undecided ∷ x) = refl
split_agrees (s ∷ st) (suc k) e [] = refl
split_agrees (s ∷ st) (suc k) e (v ∷ x) =
    split_tail (allows s v) (agrees st x) (agrees (set st k Taken) x) (agrees (set st k Rejected) x) (split_agrees st k e x)

-- ---- the candidate chosen is undecided
first_open : (a : List Bool) → (count a ≡ 0 → ⊥) → get_or a (first a) false ≡ true
unfolding count first
first_open [] n = absurd (n refl)
first_open (true ∷ xs) n = refl
first_open (false ∷ xs) n = first_open xs (λ e. n (omega arith))

both-second : (a b : List Bool) (k : ℕ) → get_or (both a b) k false ≡ true → get_or b k false ≡ true
unfolding both
both-second [] b k e = absurd (true≢false (sym e))
both-second (x ∷ xs) [] k e = absurd (true≢false (sym e))
both-second (x ∷ xs) (y ∷ ys) zero e = (and_split x y e).1
both-second (x ∷ xs) (y ∷ ys) (suc k) e = both-second xs ys k e

pub choose_open : (masks : List (List Bool)) (st : List Status) → (open_count st ≡ 0 → ⊥) → get_or (opens st) (choose masks st) false ≡ true
unfolding choose
choose_open [] st n = first_open (opens st) (λ e. n (sym (count_open st) ∙ e))
choose_open (mask ∷ masks) st n = go (choose_open masks st n) (eqb (open_on mask st) 0) refl
  where
    go : get_or (opens st) (choose masks st) false ≡ true → (b : Bool) → eqb (open_on mask st) 0 ≡ b
        → get_or (opens st) (cond b (choose masks st) (first (both mask (opens st)))) false ≡ true
    go ih true c = ih
    go ih false c =
        both-second mask (opens st) (first (both mask (opens st)))
        (first_open (both mask (opens st)) (λ e. eqb-false (open_on mask st) 0 c (sym (count-opens mask st) ∙ e)))

times-append : (x : List Status) (a b : List (List Status)) → times_in x (a ++ b) ≡ times_in x a + times_in x b
unfolding times_in
times-append x [] b = omega arith
times-append x (y ∷ a) b = omega (arith, times-append x a b)

-- ---- the theorem, over any value g of the final lists that the states share out: at a leaf it is whether the leaf is x
module _ (masks : List (List Bool)) (x : List Status) where
  -- what the state before and the state after the sweeps say of x
  Share : (List Status → ℕ) → Type 0
  Share g = ((st : List Status) → on_stands (stable (suc (open_count st)) masks st) 0 g ≡ g st)
      × ((st : List Status) → open_count st ≡ 0 → Calm masks st → bit (same st x) ≡ g st)
      × ((st : List Status) (k : ℕ) → get_or (opens st) k false ≡ true → g st ≡ g (set st k Taken) + g (set st k Rejected))

  shared : (g : List Status → ℕ) → Share g → (f : ℕ) (st : List Status) → open_count st < f → times_in x (solutions f masks st) ≡ g st
  unfolding Share solutions times_in
  shared g w zero st h = absurd (omega arith)
  shared g w (suc f) st h = go (shared g w f) (stable (suc (open_count st)) masks st) refl (w.0 st)
    where
      IH : Type 0
      IH = (s : List Status) → open_count s < f → times_in x (solutions f masks s) ≡ g s

      next : IH → (s : List Status) → open_count s ≤ open_count st → Calm masks s → (b : Bool) → eqb (open_count s) 0 ≡ b
          → times_in x
          (cond b (s ∷ []) (solutions f masks (set s (choose masks s) Taken) ++ solutions f masks (set s (choose masks s) Rejected))) ≡ g
          s
      next ih s l c true q = omega (arith, w.1 s (eqb-true (open_count s) 0 q) c)
      next ih s l c false q =
          let o : get_or (opens s) (choose masks s) false ≡ true = choose_open masks s (eqb-false (open_count s) 0 q) in
          omega (
            arith,
            times-append x (solutions f masks (set s (choose masks s) Taken)) (solutions f masks (set s (choose masks s) Rejected)),
            ih (set s (choose masks s) Taken) (omega (arith, count_set Taken refl s (choose masks s) o)),
            ih (set s (choose masks s) Rejected) (omega (arith, count_set Rejected refl s (choose masks s) o)),
            w.2 s (choose masks s) o,
          )

      go : IH → (o : Outcome) → stable (suc (open_count st)) masks st ≡ o → on_stands o 0 g ≡ g st
          → times_in x
          (on_stands o []
          (λ s. cond (eqb (open_count s) 0) (s ∷ [])
          (solutions f masks (set s (choose masks s) Taken) ++ solutions f masks (set s (choose masks s) Rejected)))) ≡ g st
      go ih Broken q a = a
      go ih (Stands s) q a =
          let r = stable_rest (suc (open_count st)) masks st s (omega arith) q in
          next ih s r.0 r.1 (eqb (open_count s) 0) refl ∙ a

  on_bit : (o : Outcome) → on_stands o 0 (λ st. bit (agrees st x)) ≡ bit (on_stands o false (λ st. agrees st x))
  on_bit Broken = refl
  on_bit (Stands st) = refl

  on_none : (o : Outcome) → ◌≡◌ {A = ℕ} (on_stands o 0 (λ st. 0)) 0
  on_none Broken = refl
  on_none (Stands st) = refl

  -- every final list that the state allows and that has two taken on each edge is there once; no other list is there
  pub finds : (f : ℕ) (st : List Status) → open_count st < f → times_in x (solutions f masks st) ≡ bit (agrees st x && exact masks x)
  unfolding Share
  finds f st h = go (exact masks x) refl
    where
      not_same : (s : List Status) → exact masks x ≡ false → exact masks s ≡ true → (b : Bool) → same s x ≡ b → bit b ≡ 0
      not_same s e c false q = refl
      not_same s e c true q = absurd (true≢false (sym c ∙ ap (exact masks) (same_path s x q) ∙ e))

      and-true : (b : Bool) → b ≡ (b && true)
      and-true true = refl
      and-true false = refl

      and-false : (b : Bool) → 0 ≡ bit (b && false)
      and-false true = refl
      and-false false = refl

      go : (b : Bool) → exact masks x ≡ b → times_in x (solutions f masks st) ≡ bit (agrees st x && b)
      go true e =
          shared (λ s. bit (agrees s x)) (
            (λ s. on_bit (stable (suc (open_count s)) masks s) ∙ ap bit (stable-agrees (suc (open_count s)) masks x e s)),
            (λ s z c. ap bit (sym (full_agrees s x z))),
            (λ s k o. split_agrees s k o x),
          ) f st h
          ∙ ap bit (and-true (agrees st x))
      go false e =
          shared (λ s. 0) (
            (λ s. on_none (stable (suc (open_count s)) masks s)),
            (λ s z c. not_same s e (calm_exact masks s z c) (same s x) refl),
            (λ s k o. refl),
          ) f st h
          ∙ and-false (agrees st x)

-- ---- those that the test accepts
module _ (accept : List Status → Bool) where
  pub times-filter : (x : List Status) (xs : List (List Status)) → times_in x (filter accept xs) ≡ cond (accept x) (times_in x xs) 0
  unfolding times_in filter keep
  times-filter x [] = cond_is (λ (n : ℕ). 0 ≡ n) (accept x) refl refl
  times-filter x (y ∷ xs) = go (times-filter x xs) (accept x) refl (accept y) refl (same y x) refl
    where
      go : times_in x (filter accept xs) ≡ cond (accept x) (times_in x xs) 0 → (a : Bool) → accept x ≡ a → (b : Bool) → accept y ≡ b
          → (c : Bool) → same y x ≡ c
          → times_in x (keep b y (filter accept xs)) ≡ cond a (bit (same y x) + times_in x xs) 0
      go ih true p true q c r = omega (arith, rw p at ih)
      go ih false p false q c r = rw p at ih
      go ih true p false q true r = absurd (true≢false (sym p ∙ ap accept (sym (same_path y x r)) ∙ q))
      go ih true p false q false r = omega (arith, rw p at ih, ap bit r)
      go ih false p true q true r = absurd (true≢false (sym q ∙ ap accept (same_path y x r) ∙ p))
      go ih false p true q false r = omega (arith, rw p at ih, ap bit r)
