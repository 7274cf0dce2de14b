-- The corners and links of a ring that is made from another, corner by corner.
use mathlib.Core.Path.{◌≡◌, refl, ap}
use mathlib.Core.Logic.{inl, inr}
use mathlib.Core.List.{List, [], ◌∷◌, map}
use Prim.Native.Nat.{suc}
use lib.ListN.{length}
use Rattle.means_area.specs.Rings.{Of, TheTwo, Chain, Link}
use Rattle.means_area.proofs.Flats.Chains.{link_back, link_of}

module _ {A B : Type 0} (f : A → B) where
  pub map_of : (y : B) (l : List A) → Of y (map f l) → (a : A) × Of a l × (y ≡ f a)
  map_of y [] o = absurd o
  map_of y (a ∷ l) (inl e) = (a, inl refl, e)
  map_of y (a ∷ l) (inr o) = let r = map_of y l o in (r.0, inr r.1, r.2)

  pair_of : (a e : A) (p q : B) → TheTwo (f a) (f e) p q → (b : A) × (c : A) × TheTwo a e b c × (p ≡ f b) × (q ≡ f c)
  pair_of a e p q (inl t) = (a, e, inl (refl, refl), t.0, t.1)
  pair_of a e p q (inr t) = (e, a, inr (refl, refl), t.0, t.1)

  chain_map : (a : A) (l : List A) (e : A) (p q : B) → Chain (f a) (map f l) (f e) p q → (b : A) × (c : A) × Chain a l e b c × (p ≡ f b)
      × (q ≡ f c)
  chain_map a [] e p q c = pair_of a e p q c
  chain_map a (d ∷ l) e p q (inl c) = let r = pair_of a d p q c in (r.0, r.1, inl r.2, r.3, r.4)
  chain_map a (d ∷ l) e p q (inr c) = let r = chain_map d l e p q c in (r.0, r.1, inr r.2, r.3, r.4)

  pub map_link : (l : List A) (p q : B) → Link (map f l) p q → (b : A) × (c : A) × Link l b c × (p ≡ f b) × (q ≡ f c)
  map_link [] p q c = absurd c
  map_link (a ∷ l) p q c = chain_map a l a p q c

pub length-map : {A B : Type 0} (f : A → B) (l : List A) → length (map f l) ≡ length l
length-map f [] = refl
length-map f (a ∷ l) = ap suc (length-map f l)

-- ends of links in any list
pub end_of : {A : Type 0} (l : List A) (p q : A) → Link l p q → Of p l × Of q l
end_of l p q c = (link_of l p q c, link_of l q p (link_back l p q c))
