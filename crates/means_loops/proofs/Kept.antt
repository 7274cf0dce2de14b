-- Members of a list, and those of a list that pass.
use mathlib.Core.Path.{◌≡◌, refl, sym, ◌∙◌}
use mathlib.Core.Bool.{Bool, true, false}
use mathlib.Core.List.{List, [], ◌∷◌}
use Prim.Native.Nat.{ℕ, zero, suc, ◌<◌}
use native.Mathlib.Omega.{arith}
use lib.Dec.{eqb}
use lib.ListN.{length, get_or}
use borrow.Author.Tests.{eqb-true, eq-eqb}
use Rattle.lists.specs.Lists.{keep, filter, member}
use Rattle.lists.proofs.Passing.{any_yes, any_is}
use Rattle.sets.proofs.Digits.{never}

pub member_yes : (x : ℕ) (xs : List ℕ) → member x xs ≡ true → (i : ℕ) × (i < length xs) × (get_or xs i 0 ≡ x)
unfolding member
member_yes x xs e = let r = any_yes (eqb x) 0 xs e in (r.0, r.1, sym (eqb-true x (get_or xs r.0 0) r.2))

pub member_is : (x : ℕ) (xs : List ℕ) (i : ℕ) → i < length xs → get_or xs i 0 ≡ x → member x xs ≡ true
unfolding member
member_is x xs i h e = any_is (eqb x) 0 xs i h (eq-eqb x (get_or xs i 0) (sym e))

-- ---- those of a list that pass

module _ {A : Type 0} (z : A) (p : A → Bool) where
  pub filter_yes : (fs : List A) (i : ℕ) → i < length (filter p fs) → (j : ℕ) × (j < length fs) × (get_or fs j z ≡ get_or (filter p fs) i z)
      × (p (get_or fs j z) ≡ true)
  unfolding filter keep
  filter_yes [] i h = absurd (omega arith)
  filter_yes (f ∷ fs) i h = go (p f) refl i h (filter_yes fs)
    where
      go : (b : Bool) → p f ≡ b → (i : ℕ) → i < length (keep b f (filter p fs))
          → ((i : ℕ) → i < length (filter p fs) → (j : ℕ) × (j < length fs) × (get_or fs j z ≡ get_or (filter p fs) i z)
          × (p (get_or fs j z) ≡ true))
          → (j : ℕ) × (j < suc (length fs)) × (get_or (f ∷ fs) j z ≡ get_or (keep b f (filter p fs)) i z) × (p (get_or (f ∷ fs) j z) ≡ true)
      go true e zero h r = (0, omega arith, refl, e)
      go true e (suc i) h r = let q = r i (omega arith) in (suc q.0, (let l = q.1 in omega arith), q.2, q.3)
      go false e i h r = let q = r i h in (suc q.0, (let l = q.1 in omega arith), q.2, q.3)

  pub filter_is : (fs : List A) (j : ℕ) → j < length fs → p (get_or fs j z) ≡ true
      → (i : ℕ) × (i < length (filter p fs)) × (get_or (filter p fs) i z ≡ get_or fs j z)
  unfolding filter keep
  filter_is [] j h e = absurd (omega arith)
  filter_is (f ∷ fs) j h e = go (p f) refl j h e (filter_is fs)
    where
      go : (b : Bool) → p f ≡ b → (j : ℕ) → j < suc (length fs) → p (get_or (f ∷ fs) j z) ≡ true
          → ((j : ℕ) → j < length fs → p (get_or fs j z) ≡ true
          → (i : ℕ) × (i < length (filter p fs)) × (get_or (filter p fs) i z ≡ get_or fs j z))
          → (i : ℕ) × (i < length (keep b f (filter p fs))) × (get_or (keep b f (filter p fs)) i z ≡ get_or (f ∷ fs) j z)
      go true q zero h e r = (0, omega arith, refl)
      go true q (suc j) h e r = let w = r j (omega arith) e in (suc w.0, (let l = w.1 in omega arith), w.2)
      go false q zero h e r = never (sym e ∙ q)
      go false q (suc j) h e r = r j (omega arith) e
