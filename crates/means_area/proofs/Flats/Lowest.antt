-- A list split at one of its points, and at its lowest.
use mathlib.Core.Path.{◌≡◌, refl, sym, ap, subst}
use mathlib.Core.Logic.{◌⊎◌, inl, inr}
use mathlib.Core.List.{List, [], ◌∷◌, ◌++◌}
use Prim.Native.Nat.{◌+◌, ◌≤◌}
use native.Mathlib.Omega.{arith}
use lib.ListN.{length}
use lib.IntN.{ℤ}
use lib.Signed.{◌<ℤ◌}
use Rattle.exact.proofs.Order.{lt_chain}
use Rattle.paper.specs.declared.Flat.{Flat}
use Rattle.means_area.specs.Rings.{Of, TheTwo}
use Rattle.means_area.specs.Flats.{height, Distinct, Least, lst}
use Rattle.means_area.proofs.Flats.Choice.{compare}
use Rattle.means_area.proofs.Flats.Chains.{of_append, of_right}

-- ---- splitting a list at a corner

pub record Split (w : Flat) (l : List Flat) : Type 0 where
  pub before : List Flat
  pub after : List Flat
  pub is : l ≡ before ++ w ∷ after

pub of_split : (w : Flat) (l : List Flat) → Of w l → Split w l
of_split w [] o = absurd o
of_split w (x ∷ l) (inl e) = record { before = []; after = l; is = (λ i. sym e i ∷ l) }
of_split w (x ∷ l) (inr o) =
    let s = of_split w l o in
    record { before = x ∷ s.before; after = s.after; is = ap (λ (r : List Flat). x ∷ r) s.is }

-- the corners up to w
pub record Prefix (w c : Flat) (l : List Flat) : Type 0 where
  pub upto : List Flat
  pub rest : List Flat
  pub is : l ≡ upto ++ rest
  pub last : lst c upto ≡ w

pub of_prefix : (w c : Flat) (l : List Flat) → Of w (c ∷ l) → Prefix w c l
of_prefix w c [] (inl e) = record { upto = []; rest = []; is = refl; last = sym e }
of_prefix w c [] (inr o) = absurd o
of_prefix w c (d ∷ l) (inl e) = record { upto = []; rest = d ∷ l; is = refl; last = sym e }
of_prefix w c (d ∷ l) (inr o) =
    let s = of_prefix w d l o in record { upto = d ∷ s.upto; rest = s.rest; is = ap (λ (r : List Flat). d ∷ r) s.is; last = s.last }

pub lst_nil : (c : Flat) (l : List Flat) → lst c (l ++ []) ≡ lst c l
lst_nil c [] = refl
lst_nil c (d ∷ l) = lst_nil d l

pub both-empty : (X Y : List Flat) → (1 ≤ length X + length Y) ⊎ ((X ≡ []) × (Y ≡ []))
both-empty [] [] = inr (refl, refl)
both-empty [] (y ∷ Y) = inl (omega arith)
both-empty (x ∷ X) Y = inl (omega arith)

pub pair_swap : (x y p q : Flat) → TheTwo x y p q → TheTwo y x p q
pair_swap x y p q (inl t) = inr t
pair_swap x y p q (inr t) = inl t

module _ (m : ℤ) where
  abbrev h : Flat → ℤ
  h = height m

  -- ---- the lowest corner
  pub record Found (c : Flat) (l : List Flat) : Type 0 where
    pub before : List Flat
    pub v : Flat
    pub after : List Flat
    pub is : l ≡ before ++ v ∷ after
    pub low : Least m v (c ∷ before)
    pub low' : Least m v after

  below_all : (c : Flat) (l : List Flat) (f : Found c l) (t : Flat) → h t <ℤ h f.v → Least m t (c ∷ l)
  below_all c l f t k z (inl e) = lt_chain k (f.low z (inl e))
  below_all c l f t k z (inr o) = go (of_append z f.before (f.v ∷ f.after) (subst (λ (r : List Flat). Of z r) f.is o))
    where
      go : Of z f.before ⊎ Of z (f.v ∷ f.after) → h t <ℤ h z
      go (inl p) = lt_chain k (f.low z (inr p))
      go (inr (inl e)) = subst (λ (y : Flat). h t <ℤ h y) (sym e) k
      go (inr (inr p)) = lt_chain k (f.low' z p)

  pub lowest : (c : Flat) (l : List Flat) → Distinct m (c ∷ l) → Least m c l ⊎ Found c l
  lowest c [] d = inl (λ z o. absurd o)
  lowest c (d ∷ l) a = go (lowest d l a.1)
    where
      go : Least m d l ⊎ Found d l → Least m c (d ∷ l) ⊎ Found c (d ∷ l)
      go (inl k) = pick (compare (h c) (h d))
        where
          all : h c <ℤ h d → (z : Flat) → Of z (d ∷ l) → h c <ℤ h z
          all s z (inl e) = subst (λ (y : Flat). h c <ℤ h y) (sym e) s
          all s z (inr o) = lt_chain s (k z o)

          one : h d <ℤ h c → (z : Flat) → Of z (c ∷ []) → h d <ℤ h z
          one s z (inl e) = subst (λ (y : Flat). h d <ℤ h y) (sym e) s
          one s z (inr o) = absurd o

          pick : (h c <ℤ h d) ⊎ ((h c ≡ h d) ⊎ (h d <ℤ h c)) → Least m c (d ∷ l) ⊎ Found c (d ∷ l)
          pick (inl s) = inl (all s)
          pick (inr (inl e)) = absurd (a.0 d (inl refl) (sym e))
          pick (inr (inr s)) = inr (record { before = []; v = d; after = l; is = refl; low = one s; low' = k })
      go (inr f) = pick (compare (h c) (h f.v))
        where
          one : h f.v <ℤ h c → (z : Flat) → Of z (c ∷ d ∷ f.before) → h f.v <ℤ h z
          one s z (inl e) = subst (λ (y : Flat). h f.v <ℤ h y) (sym e) s
          one s z (inr o) = f.low z o

          there : Of f.v (d ∷ l)
          there = inr (subst (λ (r : List Flat). Of f.v r) (sym f.is) (of_right f.v f.before (f.v ∷ f.after) (inl refl)))

          pick : (h c <ℤ h f.v) ⊎ ((h c ≡ h f.v) ⊎ (h f.v <ℤ h c)) → Least m c (d ∷ l) ⊎ Found c (d ∷ l)
          pick (inl s) = inl (below_all d l f c s)
          pick (inr (inl e)) = absurd (a.0 f.v there (sym e))
          pick (inr (inr s)) =
              inr
              (record {
                before = d ∷ f.before;
                v = f.v;
                after = f.after;
                is = ap (λ (r : List Flat). d ∷ r) f.is;
                low = one s;
                low' = f.low';
              })
