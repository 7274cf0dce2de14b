-- In space: from a point strictly inside a polygon, in a direction of its plane, the first border point; what is before it is inside.
use mathlib.Core.Path.{◌≡◌, refl, sym, ◌∙◌, ap}
use mathlib.Core.List.{[], ◌∷◌, map}
use lib.IntN.{ℤ, pos, ◌+ℤ◌, ◌-ℤ◌, ◌*ℤ◌}
use Rattle.exact.proofs.Ring.{var, con, ◌⊕◌, ◌⊖◌, ◌⊗◌, ring}
use Rattle.paper.specs.Points.{pt, origin, plus, minus, times, dot}
use Rattle.paper.specs.Polygon.{normal, axis, flat, seen, where_flat, lies}
use Rattle.paper.specs.declared.Point.{Point}
use Rattle.paper.specs.declared.Flat.{Flat}
use Rattle.paper.specs.declared.Axis.{Axis}
use Rattle.paper.specs.declared.Axis.TheVariants.{AlongX, AlongY, AlongZ}
use Rattle.paper_laws.proofs.Points.{point_eq}
use Rattle.means_drawing.specs.Segments.{along}
use Rattle.means_area.specs.Flats.{Up}
use Rattle.means_area.proofs.Flats.Signs.{up_is}
use Rattle.means_area.proofs.Space.Views.{axis_real, view_one}
use Rattle.means_inside.specs.Beams.{facing}
use Rattle.means_inside.proofs.Triangle.{self_up}
use Rattle.means_corner.specs.Ways.{ahead_by}
use Rattle.means_border.specs.Along.{MeetsBorder}
use Rattle.means_border.proofs.InFlat.{meets-flat}

seen-along : (a : Axis) (p q : Point) (s m : ℤ) → seen a (along m s p q) ≡ ahead_by (seen a p) (seen a (minus q p)) s m
unfolding seen plus times
seen-along AlongX p q s m = refl
seen-along AlongY p q s m = refl
seen-along AlongZ p q s m = refl

seen-origin : (a : Axis) → seen a origin ≡ flat (pos 0) (pos 0)
unfolding seen
seen-origin AlongX = refl
seen-origin AlongY = refl
seen-origin AlongZ = refl

from-origin : (w : Point) → minus w origin ≡ w
unfolding minus
from-origin w = λ i. pt (e w.x i) (e w.y i) (e w.z i)
  where
    e : (x : ℤ) → x -ℤ pos 0 ≡ x
    e x = ring (x ∷ []) (var 0 ⊖ con (pos 0)) (var 0) tt

-- a direction that is not 0 has a size
sized : (w : Flat) → (w ≡ flat (pos 0) (pos 0) → ⊥) → Up (w.u *ℤ w.u +ℤ w.v *ℤ w.v)
unfolding facing
sized w n =
    up_is
    (ring (w.u ∷ w.v ∷ []) ((var 0 ⊖ con (pos 0)) ⊗ (var 0 ⊖ con (pos 0)) ⊕ (var 1 ⊖ con (pos 0)) ⊗ (var 1 ⊖ con (pos 0)))
    (var 0 ⊗ var 0 ⊕ var 1 ⊗ var 1) tt) (self_up (flat (pos 0) (pos 0)) w n)

pub meets_border : MeetsBorder
unfolding lies
meets_border g ng p q n un e differ ew =
    let a = axis (normal g) in
    let w = minus q p in
    let real : Up ((seen a w).u *ℤ (seen a w).u +ℤ (seen a w).v *ℤ (seen a w).v) = sized (seen a w) (λ z. differ (sym (point_eq q p
    (view_one a (normal g) w origin (axis_real (normal g) ng) (ap (dot (normal g)) (from-origin w) ∙ ew) (z ∙ sym (seen-origin a)))))) in
    let t = meets-flat (map (seen a) g) (seen a p) n un e (seen a w) real in
    record {
      s = t.s;
      m = t.m;
      up_s = t.up_s;
      up_m = t.up_m;
      border = ap (λ (z : Flat). where_flat z (t.m *ℤ n) (map (seen a) g)) (seen-along a p q t.s t.m) ∙ t.border;
      inside = (λ s' m' hs um k. ap (λ (z : Flat). where_flat z (m' *ℤ n) (map (seen a) g)) (seen-along a p q s' m')
          ∙ t.inside s' m' hs um k);
    }
