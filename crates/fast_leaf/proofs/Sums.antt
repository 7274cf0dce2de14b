-- (v) and (iv) over the taken faces, the lowest first, are those over all candidates.
use mathlib.Core.Bool.{Bool, true, false, cond}
use mathlib.Core.List.{List, [], ◌∷◌}
use mathlib.Core.Path.{◌≡◌, refl, sym, ap, ap₂, ◌∙◌, subst}
use Prim.Native.Nat.{ℕ, zero, suc, ◌+◌, ◌≤◌, ◌<◌}
use native.Mathlib.Omega.{arith}
use native.Mathlib.Decide.{ℕ_discrete}
use lib.Dec.{eqb}
use lib.IntN.{ℤ, pos, ◌+ℤ◌, +ℤ_idl}
use lib.ListN.{get_or}
use borrow.Author.Tests.{eq-eqb, eqb-true}
use Rattle.lists.proofs.Truth.{same_truth, never_true, cond_passes}
use Rattle.sets.specs.Word.{dig, count, both, first}
use Rattle.sets.proofs.Digits.{never, first_in}
use Rattle.sets.proofs.Ones.{dig-none, first_low}
use Rattle.paper.specs.Solids.{part, six_from, peaceful, clear_from}
use Rattle.fast_sweeps.specs.Worklist.{without_lowest}
use Rattle.fast_sweeps.proofs.Marks.{after_in, after_out, count-after}
use Rattle.fast_leaf.specs.Faces.{clear_on, six_on}

-- ---- (v)
abbrev Peace : List (List Bool) → List Bool → ℕ → Type 0
Peace cs taken m = count (both (get_or cs m []) taken) ≡ 0

module _ (taken : List Bool) where
  peace_is : (b : Bool) (n : ℕ) → peaceful b n ≡ true → b ≡ true → n ≡ 0
  peace_is true n e h = eqb-true n 0 e
  peace_is false n e h = never (sym h)

  is_peace : (b : Bool) (n : ℕ) → (b ≡ true → n ≡ 0) → peaceful b n ≡ true
  is_peace true n h = eq-eqb n 0 (h refl)
  is_peace false n h = refl

  from_all : (cs : List (List Bool)) (k : ℕ) → clear_from k cs taken ≡ true → (m : ℕ) → dig taken (k + m) ≡ true → Peace cs taken m
  unfolding clear_from both count
  from_all [] k e m h = refl
  from_all (c ∷ cs) k e zero h =
      let q = cond_passes (peaceful (dig taken k) (count (both c taken))) (clear_from (suc k) cs taken) e in
      let z : k + 0 ≡ k = omega arith in
      peace_is (dig taken k) (count (both c taken)) q.0 (subst (λ (x : ℕ). dig taken x ≡ true) z h)
  from_all (c ∷ cs) k e (suc m) h =
      let q = cond_passes (peaceful (dig taken k) (count (both c taken))) (clear_from (suc k) cs taken) e in
      let z : k + suc m ≡ suc k + m = omega arith in
      from_all cs (suc k) q.1 m (subst (λ (x : ℕ). dig taken x ≡ true) z h)

  all_from : (cs : List (List Bool)) (k : ℕ) → ((m : ℕ) → dig taken (k + m) ≡ true → Peace cs taken m) → clear_from k cs taken ≡ true
  unfolding clear_from
  all_from [] k h = refl
  all_from (c ∷ cs) k h =
      let z : k ≡ k + 0 = omega arith in
      let p : peaceful (dig taken k) (count (both c taken)) ≡ true
      = is_peace (dig taken k) (count (both c taken)) (λ e. h 0 (subst (λ (x : ℕ). dig taken x ≡ true) z e)) in
      rw p
      (all_from cs (suc k) (λ m e. let y : suc k + m ≡ k + suc m = omega arith in h (suc m) (subst (λ (x : ℕ). dig taken x ≡ true) y e)))

  on_all : (n : ℕ) (cs : List (List Bool)) (left : List Bool) → count left ≡ n → clear_on n cs left taken ≡ true → (k : ℕ)
      → dig left k ≡ true → Peace cs taken k
  unfolding clear_on
  on_all zero cs left z e k h = never (sym h ∙ dig-none left z k)
  on_all (suc n) cs left z e k h =
      let some : count left ≡ 0 → ⊥ = λ y. absurd (omega arith) in
      let m : count (without_lowest left) ≡ n = omega (arith, count-after left some) in
      let q = cond_passes (eqb (count (both (get_or cs (first left) []) taken)) 0) (clear_on n cs (without_lowest left) taken) e in
      go (ℕ_discrete k (first left)) (eqb-true (count (both (get_or cs (first left) []) taken)) 0 q.0)
      (on_all n cs (without_lowest left) m q.1 k)
    where
      go : Dec (k ≡ first left) → Peace cs taken (first left) → (dig (without_lowest left) k ≡ true → Peace cs taken k) → Peace cs taken k
      go (yes p) here ih = subst (Peace cs taken) (sym p) here
      go (no p) here ih = ih (stays (dig (without_lowest left) k) (λ w. never (sym h ∙ after_out left k w p)))
        where
          stays : (b : Bool) → (b ≡ false → ⊥) → b ≡ true
          stays true f = refl
          stays false f = absurd (f refl)

  all_on : (n : ℕ) (cs : List (List Bool)) (left : List Bool) → count left ≡ n → ((k : ℕ) → dig left k ≡ true → Peace cs taken k)
      → clear_on n cs left taken ≡ true
  unfolding clear_on
  all_on zero cs left z h = refl
  all_on (suc n) cs left z h =
      let some : count left ≡ 0 → ⊥ = λ y. absurd (omega arith) in
      let m : count (without_lowest left) ≡ n = omega (arith, count-after left some) in
      let p : eqb (count (both (get_or cs (first left) []) taken)) 0 ≡ true
      = eq-eqb (count (both (get_or cs (first left) []) taken)) 0 (h (first left) (first_in left some)) in
      rw p (all_on n cs (without_lowest left) m (λ k e. let q = after_in left k e in h k q.1))

  pub clear_on_lem : (cs : List (List Bool)) → clear_on (count taken) cs taken taken ≡ clear_from 0 cs taken
  clear_on_lem cs =
      same_truth (clear_on (count taken) cs taken taken) (clear_from 0 cs taken)
      (λ e. all_from cs 0 (λ m h. let z : 0 + m ≡ m = omega arith in
      on_all (count taken) cs taken refl e m (subst (λ (x : ℕ). dig taken x ≡ true) z h)))
      (λ e. all_on (count taken) cs taken refl (λ k h. let z : k ≡ 0 + k = omega arith in
      from_all cs 0 e k (subst (λ (x : ℕ). dig taken x ≡ true) z h)))

-- ---- (iv)
after_same : (a : List Bool) (j : ℕ) → first a < j → dig a j ≡ dig (without_lowest a) j
unfolding first without_lowest
after_same [] j h = refl
after_same (true ∷ a) zero h = absurd (omega arith)
after_same (true ∷ a) (suc j) h = refl
after_same (false ∷ a) zero h = refl
after_same (false ∷ a) (suc j) h = after_same a j (omega arith)

module _ (turned : List Bool) where
  six_above : (zs : List ℤ) (k : ℕ) (a b : List Bool) → ((j : ℕ) → k ≤ j → dig a j ≡ dig b j)
      → six_from k zs a turned ≡ six_from k zs b turned
  unfolding six_from
  six_above [] k a b h = refl
  six_above (z ∷ zs) k a b h =
      ap₂ (λ (x : Bool) (y : ℤ). part x (dig turned k) z +ℤ y) (h k (omega arith)) (six_above zs (suc k) a b (λ j l. h j (omega arith)))

  six_nothing : (zs : List ℤ) (k : ℕ) (a : List Bool) → count a ≡ 0 → six_from k zs a turned ≡ pos 0
  unfolding six_from
  six_nothing [] k a e = refl
  six_nothing (z ∷ zs) k a e =
      ap₂ (λ (x : Bool) (y : ℤ). part x (dig turned k) z +ℤ y) (dig-none a e k) (six_nothing zs (suc k) a e)

  nought : (b : Bool) → pos 0 ≡ part true b (pos 0) +ℤ pos 0
  nought true = refl
  nought false = refl

  -- the lowest, and the others
  six_lowest : (zs : List ℤ) (k m : ℕ) (a : List Bool) → (count a ≡ 0 → ⊥) → k + m ≡ first a
      → six_from k zs a turned ≡ part true (dig turned (first a)) (get_or zs m (pos 0)) +ℤ six_from k zs (without_lowest a) turned
  unfolding six_from
  six_lowest [] k m a n e = nought (dig turned (first a))
  six_lowest (z ∷ zs) k zero a n e =
      let f : k ≡ first a = omega arith in
      let here : dig a k ≡ true = subst (λ (x : ℕ). dig a x ≡ true) (sym f) (first_in a n) in
      let gone : dig (without_lowest a) k ≡ false = never_true (dig (without_lowest a) k) (λ p. let q = after_in a k p in absurd (omega (arith, q.0))) in
      let rest : six_from (suc k) zs a turned ≡ six_from (suc k) zs (without_lowest a) turned = six_above zs (suc k) a (without_lowest a)
      (λ j l. after_same a j (omega arith)) in
      ap₂ (λ (x : Bool) (y : ℤ). part x (dig turned k) z +ℤ y) here rest
      ∙ ap₂ (λ (x : ℕ) (y : ℤ). part true (dig turned x) z +ℤ y) f
      (sym (ap (λ (x : Bool). part x (dig turned k) z +ℤ six_from (suc k) zs (without_lowest a) turned) gone
      ∙ +ℤ_idl (six_from (suc k) zs (without_lowest a) turned)))
  six_lowest (z ∷ zs) k (suc m) a n e =
      let low : dig a k ≡ false = first_low a k (omega arith) in
      let gone : dig (without_lowest a) k ≡ false = never_true (dig (without_lowest a) k) (λ p. let q = after_in a k p in absurd (omega (arith, q.0))) in
      ap (λ (x : Bool). part x (dig turned k) z +ℤ six_from (suc k) zs a turned) low ∙ +ℤ_idl (six_from (suc k) zs a turned)
      ∙ six_lowest zs (suc k) m a n (omega arith)
      ∙ ap (λ (y : ℤ). part true (dig turned (first a)) (get_or zs m (pos 0)) +ℤ y)
      (sym (ap (λ (x : Bool). part x (dig turned k) z +ℤ six_from (suc k) zs (without_lowest a) turned) gone
      ∙ +ℤ_idl (six_from (suc k) zs (without_lowest a) turned)))

  pub six_on_lem : (n : ℕ) (zs : List ℤ) (left : List Bool) → count left ≡ n → six_on n zs left turned ≡ six_from 0 zs left turned
  unfolding six_on
  six_on_lem zero zs left z = sym (six_nothing zs 0 left z)
  six_on_lem (suc n) zs left z =
      let some : count left ≡ 0 → ⊥ = λ y. absurd (omega arith) in
      let m : count (without_lowest left) ≡ n = omega (arith, count-after left some) in
      ap (λ (y : ℤ). part true (dig turned (first left)) (get_or zs (first left) (pos 0)) +ℤ y) (six_on_lem n zs (without_lowest left) m)
      ∙ sym (six_lowest zs 0 (first left) left some (omega arith))

-- ---- step by step, as a loop does it
module _ (taken : List Bool) (cs : List (List Bool)) (left : List Bool) where
  pub clear_none : count left ≡ 0 → clear_on (count left) cs left taken ≡ true
  unfolding clear_on
  clear_none z = rw z

  pub clear_more : (count left ≡ 0 → ⊥)
      → clear_on (count left) cs left taken ≡ cond (eqb (count (both (get_or cs (first left) []) taken)) 0)
      (clear_on (count (without_lowest left)) cs (without_lowest left) taken) false
  unfolding clear_on
  clear_more n = rw (← count-after left n)

module _ (turned : List Bool) (zs : List ℤ) (left : List Bool) where
  pub six_none : count left ≡ 0 → six_on (count left) zs left turned ≡ pos 0
  unfolding six_on
  six_none z = rw z

  pub six_more : (count left ≡ 0 → ⊥)
      → six_on (count left) zs left turned ≡ part true (dig turned (first left)) (get_or zs (first left) (pos 0)) +ℤ six_on
      (count (without_lowest left)) zs (without_lowest left) turned
  unfolding six_on
  six_more n = rw (← count-after left n)
