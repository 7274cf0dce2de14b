-- In a drawing that passes 11 and 13 a closed path is a simple ring of points.
use mathlib.Core.Path.{◌≡◌, refl, sym, ◌∙◌, ap, subst}
use mathlib.Core.Logic.{inl, inr}
use mathlib.Core.Option.{none}
use mathlib.Core.List.{List, [], ◌∷◌, map}
use Prim.Native.Nat.{ℕ, suc}
use native.Mathlib.Omega.{arith}
use Rattle.paper.specs.Drawing.{Wire, at, same_place, edge_meets}
use Rattle.paper.specs.Loops.{Loop}
use Rattle.paper.specs.declared.Point.{Point}
use Rattle.means_drawing.specs.Segments.{Between, Common}
use Rattle.means_drawing.proofs.Drawings.{same_place_means}
use Rattle.means_solid.specs.Proper as proper
use Rattle.means_loops.specs.Path.{ClosedPath}
use Rattle.means_area.specs.Rings.{Of, Link}
use Rattle.means_area.specs.Space.{DifferentPoints, SimpleRing}
use Rattle.means_area.proofs.Space.Maps.{map_of, map_link}
use Rattle.means_area.proofs.Loops.Places.{of_place, below, side}
use Rattle.means_area.proofs.Loops.Edges.{free, crossing}
use Rattle.means_area.proofs.Flats.Chains.{link_back, link_of}

module _ (d : Wire) (r11 : same_place d ≡ none) (r13 : edge_meets d ≡ none) (l : Loop) (c : ClosedPath d l) where
  one_place : (u w : ℕ) → Of u l → Of w l → at d u ≡ at d w → u ≡ w
  one_place u w i j = (same_place_means d).0 r11 u w (below d l c u i) (below d l c w j)

  different : (m : List ℕ) → ((z : ℕ) → Of z m → Of z l) → proper.Different m → DifferentPoints (map (at d) m)
  different [] f h = tt
  different (a ∷ m) f h = (
    go,
    different m (λ z i. f z (inr i)) (λ i j p q e. let s = h (suc i) (suc j) (omega arith) (omega arith) e in omega arith),
  )
    where
      go : (r : Point) → Of r (map (at d) m) → r ≡ at d a → ⊥
      go r i e =
          let t = map_of (at d) r m i in
          let k = of_place 0 t.0 m t.1 in
          let s = h (suc k.0) 0 (let b = k.1 in omega arith) (omega arith)
          (k.2 ∙ one_place t.0 a (f t.0 (inr t.1)) (f a (inl refl)) (sym t.2 ∙ e)) in
          omega arith

  -- the ends of a side are at two points
  two_ends : (u w : ℕ) → Link l u w → at d u ≡ at d w → ⊥
  two_ends u w i e = (side d l c u w i).two (one_place u w (link_of l u w i) (link_of l w u (link_back l u w i)) e)

  pub clear : SimpleRing (map (at d) l)
  clear = record {
    apart = different l (λ z i. i) c.different;
    corners = (λ p q r i j b. let a = map_link (at d) l p q i in let t = map_of (at d) r l j in
        free d r13 a.0 a.1 t.0 (side d l c a.0 a.1 a.2).edge (two_ends a.0 a.1 a.2) (below d l c t.0 t.1)
        (subst (λ (z : Point). Between z (at d a.1) (at d t.0)) a.3
        (subst (λ (z : Point). Between p z (at d t.0)) a.4 (subst (λ (z : Point). Between p q z) t.2 b))));
    edges = (λ p q r s i j n1 n2 n3 n4 b. let a = map_link (at d) l p q i in let t = map_link (at d) l r s j in
        crossing d r13 a.0 a.1 t.0 t.1 (side d l c a.0 a.1 a.2).edge (two_ends a.0 a.1 a.2)
        (side d l c t.0 t.1 t.2).edge
        (λ e. n1 (a.3 ∙ ap (at d) e ∙ sym t.3)) (λ e. n2 (a.3 ∙ ap (at d) e ∙ sym t.4))
        (subst (λ (z : Point). Common z (at d a.1) (at d t.0) (at d t.1)) a.3
        (subst (λ (z : Point). Common p z (at d t.0) (at d t.1)) a.4
        (subst (λ (z : Point). Common p q z (at d t.1)) t.3 (subst (λ (z : Point). Common p q r z) t.4 b)))));
  }
