-- A direction strictly outside the angle leads out, whatever corner the ring starts at.
use mathlib.Core.Path.{◌≡◌, refl, sym, ◌∙◌, ap, subst}
use mathlib.Core.Logic.{◌⊎◌, inl, inr, ⊎_elim}
use mathlib.Core.List.{List, [], ◌∷◌, ◌++◌}
use Prim.Native.Nat.{◌≤◌}
use native.Mathlib.Omega.{arith}
use lib.IntN.{ℤ, pos, neg_ℤ}
use lib.ListN.{length, length-append}
use Rattle.paper.specs.Polygon.{where_flat}
use Rattle.paper.specs.declared.Flat.{Flat}
use Rattle.paper.specs.declared.Where.TheVariants.{Outside}
use Rattle.means_area.specs.Rings.{Of}
use Rattle.means_area.specs.Flats.{Up, Nn, Simple, area, lst}
use Rattle.means_area.proofs.Flats.Signs.{up_is, nn_is}
use Rattle.means_area.proofs.Flats.Turns.{flip_last}
use Rattle.means_area.proofs.Flats.Chains.{turned}
use Rattle.means_area.proofs.Flats.Rings.{area_turned}
use Rattle.means_inside.specs.Convex.{Next, Hand, lefts, rights}
use Rattle.means_inside.specs.Convex as convex
use Rattle.means_inside.proofs.Sides.{step_split, step_left, step_right, step_last}
use Rattle.means_inside.proofs.Inside.{any_start}
use Rattle.means_corner.specs.Corners.{ForSmall}
use Rattle.exact.proofs.Order.{whole_pos}
use Rattle.means_corner.proofs.Steps.{step}
use Rattle.means_corner.proofs.Lead.{step_from}
use Rattle.means_corner.proofs.Beside.{before_one}
use Rattle.means_corner.proofs.Cone.{t}
use Rattle.means_corner.proofs.Outer.{sharp, blunt}
use Rattle.means_corner.proofs.Outside.{OuterBy, out_first}

of_split : (v : Flat) (l : List Flat) → Of v l → (r : List Flat) × (t : List Flat) × (l ≡ r ++ v ∷ t)
of_split v (y ∷ l) (inl e) = ([], l, ap (λ (z : Flat). z ∷ l) (sym e))
of_split v (y ∷ l) (inr o) = let w = of_split v l o in (y ∷ w.0, w.1, ap (λ (q : List Flat). y ∷ q) w.2)
of_split v [] o = absurd o

turn-round : (x : Flat) (l : List Flat) (y : Flat) (r : List Flat) (a b : Flat) → Next (x ∷ (l ++ y ∷ r)) a b → Next (y ∷ (r ++ x ∷ l)) a b
turn-round x l y r a b t = ⊎_elim (λ i. step_right y r x l y a b i) (λ i. step_left y r x l y a b i) (step_split x l y r x a b t)

module _ (m : ℤ) (h : Hand) (a v b c : Flat) (o : OuterBy h v b a c) where
  record Claim (g : List Flat) : Type 0 where
    out : Simple m g → 3 ≤ length g → Up (convex.handed h (area g)) → Next g a v → Next g v b
        → ForSmall (λ s n. where_flat (step v c s n) (pos n) g ≡ Outside)

  -- v is the first corner
  at_first : (l : List Flat) → Claim (v ∷ l)
  at_first [] = record { out = λ s n u p q. absurd (omega arith) }
  at_first (y ∷ r) = record { out = λ s n u p q. go s n u p q }
    where
      go : Simple m (v ∷ y ∷ r) → 3 ≤ length (v ∷ y ∷ r) → Up (convex.handed h (area (v ∷ y ∷ r))) → Next (v ∷ y ∷ r) a v
          → Next (v ∷ y ∷ r) v b → ForSmall (λ s n. where_flat (step v c s n) (pos n) (v ∷ y ∷ r) ≡ Outside)
      go s n u p (inr q) = absurd (s.apart.0 v (step_from y r v v b q) refl)
      go s n u p (inl q) =
          let e : a ≡ lst y r = before_one m v c v (y ∷ r) v s.apart.1 s.apart.0 a (lst y r) p (step_last v (y ∷ r) v) in
          out_first m v y r s h n u c
          (subst (λ (z : Flat). OuterBy h v y z c) e (subst (λ (z : Flat). OuterBy h v z a c) q.1 o))

  -- from another start
  from_start : (x : Flat) (l r : List Flat) → Claim (v ∷ (r ++ x ∷ l)) → Claim (x ∷ (l ++ v ∷ r))
  from_start x l r k = record {
    out = λ s n u p q.
        let f = k.out (turned m x l v r s) (omega (arith, length-append l (v ∷ r), length-append r (x ∷ l)))
        (up_is (ap (convex.handed h) (area_turned x l v r)) u) (turn-round x l v r a v p) (turn-round x l v r v b q) in
        (f.0, λ t j ht hj z. any_start (pos j) (whole_pos j hj) x l v r (step v c t j) ∙ f.1 t j ht hj z);
  }

  pub out_corner : (g : List Flat) → Simple m g → 3 ≤ length g → Up (convex.handed h (area g)) → Next g a v → Next g v b
      → ForSmall (λ s n. where_flat (step v c s n) (pos n) g ≡ Outside)
  out_corner [] s n u p q = absurd p
  out_corner (x ∷ l) s n u p q = (find (step_from x l x v b q)).out s n u p q
    where
      find : Of v (x ∷ l) → Claim (x ∷ l)
      find (inl e) = subst (λ (z : Flat). Claim (z ∷ l)) e (at_first l)
      find (inr i) =
          let w = of_split v l i in
          subst (λ (z : List Flat). Claim (x ∷ z)) (sym w.2) (from_start x w.0 w.1 (at_first (w.1 ++ x ∷ w.0)))

-- in terms of the hand: c is to the right of b or to the left of a, or both
pub outer_hand : (h : Hand) (v b a c : Flat)
    → (Up (t h v b a) × (Up (t h v c b) ⊎ Up (t h v a c))) ⊎ (Nn (neg_ℤ (t h v b a)) × (Up (t h v c b) × Up (t h v a c)))
    → OuterBy h v b a c
outer_hand lefts v b a c (inl (i, inl j)) = sharp i (inl (up_is (flip_last v c b) j))
outer_hand lefts v b a c (inl (i, inr j)) = sharp i (inr (up_is (flip_last v a c) j))
outer_hand lefts v b a c (inr (i, (j, k))) = blunt i (up_is (flip_last v c b) j) (up_is (flip_last v a c) k)
outer_hand rights v b a c (inl (i, inl j)) = sharp (up_is (sym (flip_last v a b)) i) (inr j)
outer_hand rights v b a c (inl (i, inr j)) = sharp (up_is (sym (flip_last v a b)) i) (inl j)
outer_hand rights v b a c (inr (i, (j, k))) = blunt (nn_is (ap neg_ℤ (sym (flip_last v a b))) i) k j
