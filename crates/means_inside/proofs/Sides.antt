-- The sides of a ring that is made from another, corner by corner; a side from its first end to its second.
use mathlib.Core.Path.{◌≡◌, refl, sym, ◌∙◌, ap}
use mathlib.Core.Logic.{◌⊎◌, inl, inr}
use mathlib.Core.List.{List, [], ◌∷◌, ◌++◌, map}
use Prim.Native.Nat.{◌≤◌}
use native.Mathlib.Omega.{arith}
use lib.ListN.{length}
use lib.IntN.{ℤ}
use Rattle.paper.specs.declared.Flat.{Flat}
use Rattle.means_area.specs.Rings.{TheTwo, Chain, Link}
use Rattle.means_area.specs.Flats.{height, Fresh, Distinct, lst}
use Rattle.means_inside.specs.Convex.{NextAlong, Next}

module _ {A B : Type 0} (f : A → B) where
  pair_onto : (x y p q : A) → TheTwo x y p q → TheTwo (f x) (f y) (f p) (f q)
  pair_onto x y p q (inl e) = inl (ap f e.0, ap f e.1)
  pair_onto x y p q (inr e) = inr (ap f e.0, ap f e.1)

  chain_onto : (x : A) (l : List A) (e p q : A) → Chain x l e p q → Chain (f x) (map f l) (f e) (f p) (f q)
  chain_onto x [] e p q c = pair_onto x e p q c
  chain_onto x (y ∷ l) e p q (inl c) = inl (pair_onto x y p q c)
  chain_onto x (y ∷ l) e p q (inr c) = inr (chain_onto y l e p q c)

  pub link_onto : (g : List A) (p q : A) → Link g p q → Link (map f g) (f p) (f q)
  link_onto [] p q c = c
  link_onto (x ∷ l) p q c = chain_onto x l x p q c

-- ---- from the first end to the second
pub step_split : (x : Flat) (l : List Flat) (y : Flat) (r : List Flat) (e a b : Flat) → NextAlong x (l ++ y ∷ r) e a b
    → NextAlong x l y a b ⊎ NextAlong y r e a b
step_split x [] y r e a b s = s
step_split x (z ∷ l) y r e a b (inl s) = inl (inl s)
step_split x (z ∷ l) y r e a b (inr s) = go (step_split z l y r e a b s)
  where
    go : NextAlong z l y a b ⊎ NextAlong y r e a b → NextAlong x (z ∷ l) y a b ⊎ NextAlong y r e a b
    go (inl t) = inl (inr t)
    go (inr t) = inr t

pub step_left : (x : Flat) (l : List Flat) (y : Flat) (r : List Flat) (e a b : Flat) → NextAlong x l y a b → NextAlong x (l ++ y ∷ r) e a b
step_left x [] y r e a b s = inl s
step_left x (z ∷ l) y r e a b (inl s) = inl s
step_left x (z ∷ l) y r e a b (inr s) = inr (step_left z l y r e a b s)

pub step_right : (x : Flat) (l : List Flat) (y : Flat) (r : List Flat) (e a b : Flat) → NextAlong y r e a b → NextAlong x (l ++ y ∷ r) e a b
step_right x [] y r e a b s = inr s
step_right x (z ∷ l) y r e a b s = inr (step_right z l y r e a b s)

pub step_end : (x : Flat) (l : List Flat) (e f a b : Flat) → NextAlong x l e a b → NextAlong x l f a b ⊎ ((a ≡ lst x l) × (b ≡ e))
step_end x [] e f a b s = inr s
step_end x (y ∷ l) e f a b (inl s) = inl (inl s)
step_end x (y ∷ l) e f a b (inr s) = go (step_end y l e f a b s)
  where
    go : NextAlong y l f a b ⊎ ((a ≡ lst y l) × (b ≡ e)) → NextAlong x (y ∷ l) f a b ⊎ ((a ≡ lst y l) × (b ≡ e))
    go (inl t) = inl (inr t)
    go (inr t) = inr t

pub step_last : (x : Flat) (l : List Flat) (e : Flat) → NextAlong x l e (lst x l) e
step_last x [] e = (refl, refl)
step_last x (y ∷ l) e = inr (step_last y l e)

-- a link is a side, from one end or from the other
chain-step : (x : Flat) (l : List Flat) (e a b : Flat) → Chain x l e a b → NextAlong x l e a b ⊎ NextAlong x l e b a
chain-step x [] e a b (inl t) = inl t
chain-step x [] e a b (inr t) = inr (t.1, t.0)
chain-step x (y ∷ l) e a b (inl (inl t)) = inl (inl t)
chain-step x (y ∷ l) e a b (inl (inr t)) = inr (inl (t.1, t.0))
chain-step x (y ∷ l) e a b (inr c) = go (chain-step y l e a b c)
  where
    go : NextAlong y l e a b ⊎ NextAlong y l e b a → NextAlong x (y ∷ l) e a b ⊎ NextAlong x (y ∷ l) e b a
    go (inl t) = inl (inr t)
    go (inr t) = inr (inr t)

pub link_next : (g : List Flat) (a b : Flat) → Link g a b → Next g a b ⊎ Next g b a
link_next [] a b c = inl c
link_next (x ∷ l) a b c = chain-step x l x a b c

-- the ends of a side of a simple ring are at two heights
module _ (m : ℤ) where
  step_apart : (x : Flat) (l : List Flat) (e a b : Flat) → Distinct m (x ∷ l) → Fresh m e (x ∷ l) → NextAlong x l e a b
      → height m a ≡ height m b → ⊥
  step_apart x [] e a b d f s q = f x (inl refl) (sym (ap (height m) s.0) ∙ q ∙ ap (height m) s.1)
  step_apart x (y ∷ l) e a b d f (inl s) q = d.0 y (inl refl) (sym (ap (height m) s.1) ∙ sym q ∙ ap (height m) s.0)
  step_apart x (y ∷ l) e a b d f (inr s) q = step_apart y l e a b d.1 (λ z o. f z (inr o)) s q

  pub next-apart : (g : List Flat) → 2 ≤ length g → Distinct m g → (a b : Flat) → Next g a b → height m a ≡ height m b → ⊥
  next-apart [] k d a b s q = s
  next-apart (x ∷ []) k d a b s q = absurd (omega (arith, k))
  next-apart (x ∷ (y ∷ l)) k d a b (inl s) q = d.0 y (inl refl) (sym (ap (height m) s.1) ∙ sym q ∙ ap (height m) s.0)
  next-apart (x ∷ (y ∷ l)) k d a b (inr s) q = step_apart y l x a b d.1 d.0 s q
