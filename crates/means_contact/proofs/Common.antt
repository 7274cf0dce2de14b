-- Two faces with two common corners, and the first part of the way from one to the other strictly inside both: rule C.
use mathlib.Core.Path.{◌≡◌, sym, ◌∙◌, ap}
use mathlib.Core.Option.{none}
use Prim.Native.Nat.{ℕ, ◌<◌}
use lib.IntN.{pos}
use lib.ListN.{length}
use Rattle.lists.proofs.Sides.{around_low}
use Rattle.paper.specs.Points.{origin, minus, dot}
use Rattle.paper.specs.Polygon.{normal, corner}
use Rattle.paper.specs.Drawing.{Wire, same_place, edge_meets}
use Rattle.paper.specs.Loops.{loops}
use Rattle.paper.specs.declared.Point.{Point}
use Rattle.paper.specs.declared.Where.TheVariants.{Inside}
use Rattle.means_area.specs.Loops.{loop_of}
use Rattle.means_clash.specs.Clash.{Corner, PointsIn}
use Rattle.means_corner.specs.Corners.{Starts}
use Rattle.means_corner.proofs.Loops.{in_plane, flat-between, corner_angles}
use Rattle.means_contact.specs.Contact.{WithinBoth}

module _ (d : Wire) (r11 : same_place d ≡ none) (r13 : edge_meets d ≡ none) (i : ℕ) (h : i < length (loops d)) (u v : Point) where
  flat-at : (w : Point) → Corner (loop_of d i) w → dot (normal (loop_of d i)) (minus w (corner (loop_of d i))) ≡ pos 0
  flat-at w (j, l, e) =
      ap (λ (q : Point). dot (normal (loop_of d i)) (minus q (corner (loop_of d i)))) (sym e ∙ sym (around_low (loop_of d i) j origin l))
      ∙ in_plane d r11 r13 i h j l

  points_in_lem : Corner (loop_of d i) u → Corner (loop_of d i) v → Starts (loop_of d i) u v Inside → PointsIn (loop_of d i) u v
  points_in_lem cu cv f =
      ((corner_angles d r11 r13 i h).leads_in u v cu (flat-between d r11 r13 i h u v (flat-at u cu) (flat-at v cv))).1 f

pub within_both : WithinBoth
within_both d r11 r13 i j hi hj planes u v differ cu cv f g = record {
  planes = planes;
  u = u;
  v = v;
  differ = differ;
  u_of = cu;
  v_of = cv;
  angles = (points_in_lem d r11 r13 i hi u v cu.0 cv.0 f, points_in_lem d r11 r13 j hj u v cu.1 cv.1 g);
}
