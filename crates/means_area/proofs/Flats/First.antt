-- The first corner u of a ring u c l, lower than its neighbours c and the last of l; and the two claims that are proved together.
use mathlib.Core.Path.{◌≡◌, refl, sym, ap}
use mathlib.Core.Logic.{◌⊎◌, inl, inr}
use mathlib.Core.List.{List, [], ◌∷◌}
use Prim.Native.Nat.{ℕ, ◌≤◌}
use native.Mathlib.Omega.{arith}
use lib.ListN.{length}
use lib.IntN.{ℤ, pos}
use lib.Signed.{◌<ℤ◌}
use Rattle.paper.specs.declared.Flat.{Flat}
use Rattle.means_area.specs.Rings.{Of, TheTwo, Chain, Link}
use Rattle.means_area.specs.Flats.{twice_area, height, Fresh, Distinct, Simple, Least, area, SameSign, lst}
use Rattle.means_area.proofs.Flats.Choice.{Hit, Choice, bent, ear_ok, choose}
use Rattle.means_area.proofs.Flats.Lowest.{pair_swap}
use Rattle.means_area.proofs.Flats.Chains.{lst_of, link_back, chain-last, chain_end, narrow}

-- no corner of g is in the triangle
abbrev pub Free : Flat → Flat → Flat → List Flat → Type 0
Free u c a g = (z : Flat) → Of z g → Hit u c a z → ⊥

-- the links of a ring without its first corner
pub rest_link : (v x : Flat) (l : List Flat) (p q : Flat) → Link (x ∷ l) p q → Link (v ∷ x ∷ l) p q ⊎ TheTwo x (lst x l) p q
rest_link v x l p q t = go (chain_end x l x v p q t)
  where
    go : Chain x l v p q ⊎ TheTwo (lst x l) x p q → Link (v ∷ x ∷ l) p q ⊎ TheTwo x (lst x l) p q
    go (inl d) = inl (inr d)
    go (inr d) = inr (pair_swap (lst x l) x p q d)

module _ (m : ℤ) where
  abbrev h : Flat → ℤ
  h = height m

  -- ---- the first corner of a ring
  pub ends-apart : (u c : Flat) (l : List Flat) → 1 ≤ length l → Distinct m (u ∷ c ∷ l) → h c ≡ h (lst c l) → ⊥
  ends-apart u c [] k d e = absurd (omega arith)
  ends-apart u c (x ∷ l) k d e = d.1.0 (lst x l) (lst_of x l) (sym e)

  pub only_last : (x : Flat) (l : List Flat) (e q : Flat) → Fresh m e (x ∷ l) → Chain x l e e q → q ≡ lst x l
  only_last x [] e q f (inl t) = absurd (f x (inl refl) (sym (ap h t.0)))
  only_last x [] e q f (inr t) = t.1
  only_last x (y ∷ l) e q f (inl (inl t)) = absurd (f x (inl refl) (sym (ap h t.0)))
  only_last x (y ∷ l) e q f (inl (inr t)) = absurd (f y (inr (inl refl)) (sym (ap h t.0)))
  only_last x (y ∷ l) e q f (inr c) = only_last y l e q (λ z o. f z (inr o)) c

  pub only-first : (u c : Flat) (l : List Flat) → Fresh m u (c ∷ l) → (q : Flat) → Link (u ∷ c ∷ l) u q → (q ≡ c) ⊎ (q ≡ lst c l)
  only-first u c l f q (inl (inl t)) = inl t.1
  only-first u c l f q (inl (inr t)) = absurd (f c (inl refl) (sym (ap h t.0)))
  only-first u c l f q (inr k) = inr (only_last c l u q f k)

  pub first_link : (u c : Flat) (l : List Flat) → Link (u ∷ c ∷ l) u c
  first_link u c l = inl (inl (refl, refl))

  pub last_link : (u c : Flat) (l : List Flat) → Link (u ∷ c ∷ l) u (lst c l)
  last_link u c l = link_back (u ∷ c ∷ l) (lst c l) u (chain-last u (c ∷ l) u)

  module _ (u c : Flat) (l : List Flat) (k : 1 ≤ length l) (s : Simple m (u ∷ c ∷ l)) (hc : h u <ℤ h c) (ha : h u <ℤ h (lst c l)) where
    pub choice : Choice m (Link (u ∷ c ∷ l)) (u ∷ c ∷ l) s.net u c (lst c l)
    choice =
        choose m (Link (u ∷ c ∷ l)) (u ∷ c ∷ l) s.net u c (lst c l) (first_link u c l) (last_link u c l) hc ha
        (ends-apart u c l k s.apart) (only-first u c l s.apart.0)

    pub not_flat : twice_area u c (lst c l) ≡ pos 0 → ⊥
    not_flat =
        bent m (Link (u ∷ c ∷ l)) (u ∷ c ∷ l) s.net u c (lst c l) (first_link u c l) (last_link u c l) hc ha
        (ends-apart u c l k s.apart)

    -- without the first corner
    pub ear_simple : Free u c (lst c l) (u ∷ c ∷ l) → Simple m (c ∷ l)
    ear_simple e = narrow m (u ∷ c ∷ l) (c ∷ l) c (lst c l) s (rest_link u c l) (λ z o. inr o) s.apart.1
        (ear_ok m (Link (u ∷ c ∷ l)) (u ∷ c ∷ l) s.net u c (lst c l) (first_link u c l) (last_link u c l) hc ha
        (ends-apart u c l k s.apart) (only-first u c l s.apart.0) e)

  -- ---- the claims, of rings u c l of at most n + 2 corners whose lowest is u

  -- the area has the sign of the turn at u
  abbrev pub Area : ℕ → Type 0
  Area n =
      (u c : Flat) (l : List Flat) → length l ≤ n → 1 ≤ length l → Simple m (u ∷ c ∷ l) → Least m u (c ∷ l)
      → SameSign (area (u ∷ c ∷ l)) (twice_area u c (lst c l))

  -- what is left without u has it too, where the triangle at u is empty
  abbrev pub Rest : ℕ → Type 0
  Rest n =
      (u c : Flat) (l : List Flat) → length l ≤ n → 2 ≤ length l → Simple m (u ∷ c ∷ l) → Least m u (c ∷ l)
      → Free u c (lst c l) (u ∷ c ∷ l) → SameSign (area (c ∷ l)) (twice_area u c (lst c l))
