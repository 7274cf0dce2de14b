-- A row's plane: the side of a point, and how large it can be.
use mathlib.Core.Path.{◌≡◌, refl, ◌∙◌, subst}
use mathlib.Core.List.{List, [], ◌∷◌}
use Prim.Native.Nat.{ℕ, ◌≤◌}
use native.Mathlib.Omega.{arith}
use lib.ListN.{length}
use lib.IntN.{ℤ}
use Rattle.exact.specs.Size.{Within}
use Rattle.exact.proofs.Size.{within_up}
use Rattle.lists.proofs.Sides.{around_low}
use Rattle.paper.specs.Numbers.{farthest}
use Rattle.paper.specs.Points.{origin, dot, minus}
use Rattle.paper.specs.Polygon.{Polygon, corner, plane_side}
use Rattle.paper.specs.declared.Point.{Point}
use Rattle.polygon.specs.Sizes.{PointWithin, most_normal, most_plane_side}
use Rattle.polygon.specs.Rings.{ring, corner_of, FaceRow}
use Rattle.polygon.proofs.Sizes.{small_eq, minus_small, dot_small}
use Rattle.polygon.proofs.Rows.{ring_least, ring_most, corner_small}
use Rattle.polygon.proofs.Areas.{normal_small}

pub first-is : (g : Polygon) → 1 ≤ length g → corner_of g 0 ≡ corner g
unfolding corner
first-is [] h = around_low [] 0 origin h
first-is (p ∷ ps) h = around_low (p ∷ ps) 0 origin h

module _ {l : List ℤ} {t : List ℕ} {r : ℕ} {m : Point} (f : FaceRow l t r m) where
  pub face-normal : PointWithin most_normal m
  face-normal = small_eq f.across (normal_small (ring l t r) (corner_small f.row) (ring_most f.row))

  pub side_is : {o : Point} → o ≡ corner_of (ring l t r) 0 → (p : Point) → dot m (minus p o) ≡ plane_side (ring l t r) p
  unfolding plane_side
  side_is e p = λ i. dot (f.across i) (minus p ((e ∙ first-is (ring l t r) (omega (arith, ring_least f.row))) i))

  pub side_within : {p : Point} → PointWithin farthest p → Within most_plane_side (plane_side (ring l t r) p)
  side_within {p} h =
      let step = minus_small h (corner_small f.row 0) in
      subst (λ (z : ℤ). Within most_plane_side z) (side_is refl p) (within_up tt (dot_small face-normal step))
