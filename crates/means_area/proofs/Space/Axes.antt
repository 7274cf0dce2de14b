-- The axes in another order: a ring seen along any axis is one seen along the third.
use mathlib.Core.Path.{◌≡◌, refl, sym, ◌∙◌, ap, subst}
use mathlib.Core.List.{List, [], ◌∷◌, map}
use lib.IntN.{ℤ, pos, neg_ℤ, ◌+ℤ◌, ◌-ℤ◌, ◌*ℤ◌}
use Rattle.lists.specs.Lists.{sides, sides_from}
use Rattle.exact.proofs.Ring.{var, con, ◌⊕◌, ◌⊖◌, ◌⊗◌, neg, ring}
use Rattle.paper.specs.Points.{pt, plus, minus, times, dot, cross, sum}
use Rattle.paper.specs.Polygon.{normal, seen}
use Rattle.paper.specs.declared.Point.{Point}
use Rattle.paper.specs.declared.Axis.{Axis}
use Rattle.paper.specs.declared.Axis.TheVariants.{AlongX, AlongY, AlongZ}
use Rattle.means_drawing.specs.Segments.{Between, Common}
use Rattle.means_area.specs.Rings.{Of}
use Rattle.means_area.specs.Space.{DifferentPoints, SimpleRing, Level, through}
use Rattle.means_area.proofs.Space.Maps.{map_of, map_link}
use Rattle.means_area.proofs.Space.View.{down}

-- a point with the axis a last, so that down it is seen as along a; and back
abbrev pub upright : Axis → Point → Point
upright AlongX p = pt p.y p.z p.x
upright AlongY p = pt p.x p.z p.y
upright AlongZ p = p

abbrev laid : Axis → Point → Point
laid AlongX p = pt p.z p.x p.y
laid AlongY p = pt p.x p.z p.y
laid AlongZ p = p

laid_upright : (a : Axis) (p : Point) → laid a (upright a p) ≡ p
laid_upright AlongX p = refl
laid_upright AlongY p = refl
laid_upright AlongZ p = refl

pub last_is : (a : Axis) (p : Point) → (upright a p).z ≡ through a p
last_is AlongX p = refl
last_is AlongY p = refl
last_is AlongZ p = refl

pub seen_down : (a : Axis) (g : List Point) → map down (map (upright a) g) ≡ map (seen a) g
seen_down a [] = refl
seen_down a (p ∷ g) = λ i. same a p i ∷ seen_down a g i
  where
    same : (a : Axis) (p : Point) → down (upright a p) ≡ seen a p
    same AlongX p = unfold seen in refl
    same AlongY p = unfold seen in refl
    same AlongZ p = unfold seen in refl

-- ---- what holds of the points so placed holds of the points

between-laid : (a : Axis) (p q r : Point) → Between (upright a p) (upright a q) (upright a r) → Between p q r
unfolding times plus minus
between-laid AlongX p q r t = record { here = t.here; is = ap (laid AlongX) t.is }
between-laid AlongY p q r t = record { here = t.here; is = ap (laid AlongY) t.is }
between-laid AlongZ p q r t = t

common_laid : (a : Axis) (p q r s : Point) → Common (upright a p) (upright a q) (upright a r) (upright a s) → Common p q r s
unfolding times plus minus
common_laid AlongX p q r s t = record { here = t.here; there = t.there; is = ap (laid AlongX) t.is }
common_laid AlongY p q r s t = record { here = t.here; there = t.there; is = ap (laid AlongY) t.is }
common_laid AlongZ p q r s t = t

module _ (a : Axis) where
  abbrev f : Point → Point
  f = upright a

  different_upright : (g : List Point) → DifferentPoints g → DifferentPoints (map (upright a) g)
  different_upright [] d = tt
  different_upright (p ∷ l) d = (go, different_upright l d.1)
    where
      go : (r : Point) → Of r (map f l) → r ≡ f p → ⊥
      go r i e =
          let t = map_of f r l i in
          d.0 t.0 t.1 (sym (laid_upright a t.0) ∙ ap (laid a) (sym t.2 ∙ e) ∙ laid_upright a p)

  pub clear_upright : (g : List Point) → SimpleRing g → SimpleRing (map (upright a) g)
  clear_upright g c = record {
    apart = different_upright g c.apart;
    corners = (λ p q r l j b. let w = map_link f g p q l in let t = map_of f r g j in
        c.corners w.0 w.1 t.0 w.2 t.1 (between-laid a w.0 w.1 t.0
        (subst (λ (z : Point). Between z (f w.1) (f t.0)) w.3
        (subst (λ (z : Point). Between p z (f t.0)) w.4 (subst (λ (z : Point). Between p q z) t.2 b)))));
    edges = (λ p q r s l j n1 n2 n3 n4 b. let w = map_link f g p q l in let t = map_link f g r s j in
        c.edges w.0 w.1 t.0 t.1 w.2 t.2 (λ e. n1 (w.3 ∙ ap f e ∙ sym t.3)) (λ e. n2 (w.3 ∙ ap f e ∙ sym t.4))
        (λ e. n3 (w.4 ∙ ap f e ∙ sym t.3)) (λ e. n4 (w.4 ∙ ap f e ∙ sym t.4)) (common_laid a w.0 w.1 t.0 t.1
        (subst (λ (z : Point). Common z (f w.1) (f t.0) (f t.1)) w.3
        (subst (λ (z : Point). Common p z (f t.0) (f t.1)) w.4
        (subst (λ (z : Point). Common p q z (f t.1)) t.3 (subst (λ (z : Point). Common p q r z) t.4 b))))));
  }

dot_upright : (a : Axis) (n p s : Point) → dot (upright a n) (minus (upright a p) (upright a s)) ≡ dot n (minus p s)
unfolding dot minus
dot_upright AlongX n p s =
    ring (n.x ∷ n.y ∷ n.z ∷ (p.x -ℤ s.x) ∷ (p.y -ℤ s.y) ∷ (p.z -ℤ s.z) ∷ []) (var 1 ⊗ var 4 ⊕ var 2 ⊗ var 5 ⊕ var 0 ⊗ var 3)
    (var 0 ⊗ var 3 ⊕ var 1 ⊗ var 4 ⊕ var 2 ⊗ var 5) tt
dot_upright AlongY n p s =
    ring (n.x ∷ n.y ∷ n.z ∷ (p.x -ℤ s.x) ∷ (p.y -ℤ s.y) ∷ (p.z -ℤ s.z) ∷ []) (var 0 ⊗ var 3 ⊕ var 2 ⊗ var 5 ⊕ var 1 ⊗ var 4)
    (var 0 ⊗ var 3 ⊕ var 1 ⊗ var 4 ⊕ var 2 ⊗ var 5) tt
dot_upright AlongZ n p s = refl

pub level_upright : (a : Axis) (n s : Point) (g : List Point) → Level n s g → Level (upright a n) (upright a s) (map (upright a) g)
level_upright a n s g l = record {
  every = (λ p i. let t = map_of (upright a) p g i in
      ap (λ (z : Point). dot (upright a n) (minus z (upright a s))) t.2 ∙ dot_upright a n t.0 s ∙ l.every t.0 t.1);
}

-- ---- the normal along the axis: seen along the second axis, the first and the third, a ring goes the other way round

pub normal_upright : (a : Axis) (g : List Point) → through a (normal g) ≡ pos 0 → (normal (map (upright a) g)).z ≡ pos 0
unfolding normal sum sides
normal_upright a [] e = refl
normal_upright AlongX (b ∷ l) e = unfold cross plus in go b l ∙ e
  where
    go : (p : Point) (l : List Point) → (sum (sides_from cross (upright AlongX b) (upright AlongX p) (map (upright AlongX) l))).z ≡ (sum
        (sides_from cross b p l)).x
    go p [] = unfold cross plus in refl
    go p (q ∷ l) = unfold cross plus in ap (λ (z : ℤ). (p.y *ℤ q.z -ℤ p.z *ℤ q.y) +ℤ z) (go q l)
normal_upright AlongY (b ∷ l) e = go b l ∙ ap neg_ℤ e
  where
    go : (p : Point) (l : List Point) → (sum (sides_from cross (upright AlongY b) (upright AlongY p) (map (upright AlongY) l))).z ≡ neg_ℤ
        (sum (sides_from cross b p l)).y
    go p [] =
        unfold cross plus in
        ring (p.x ∷ p.z ∷ b.x ∷ b.z ∷ []) (var 0 ⊗ var 3 ⊖ var 1 ⊗ var 2 ⊕ con (pos 0))
        (neg (var 1 ⊗ var 2 ⊖ var 0 ⊗ var 3 ⊕ con (pos 0))) tt
    go p (q ∷ l) = unfold cross plus in
        ap (λ (z : ℤ). (p.x *ℤ q.z -ℤ p.z *ℤ q.x) +ℤ z) (go q l)
        ∙ ring (p.x ∷ p.z ∷ q.x ∷ q.z ∷ (sum (sides_from cross b q l)).y ∷ []) ((var 0 ⊗ var 3 ⊖ var 1 ⊗ var 2) ⊕ neg (var 4))
        (neg ((var 1 ⊗ var 2 ⊖ var 0 ⊗ var 3) ⊕ var 4)) tt
normal_upright AlongZ (b ∷ l) e = go b l ∙ e
  where
    go : (p : Point) (l : List Point) → (sum (sides_from cross b p (map (upright AlongZ) l))).z ≡ (sum (sides_from cross b p l)).z
    go p [] = refl
    go p (q ∷ l) = unfold plus in ap (λ (z : ℤ). (cross p q).z +ℤ z) (go q l)
