-- The vertices of the lent list, by their places.
use mathlib.Core.Path.{◌≡◌, ap, ◌∙◌}
use mathlib.Core.List.{List}
use Prim.Native.Nat.{ℕ, ◌+◌, ◌*◌, ◌<◌}
use native.Mathlib.Omega.{arith}
use lib.IntN.{ℤ}
use lib.ListN.{length, get_or}
use Rattle.paper.specs.Numbers.{farthest}
use Rattle.paper.specs.Points.{origin}
use Rattle.paper.specs.Drawing.{Wire, points_of, at}
use Rattle.paper.specs.declared.Point.{Point}
use Rattle.polygon.specs.Sizes.{PointWithin}
use Rattle.polygon.specs.Rings.{point_of}
use Rattle.polygon.proofs.Rows.{point_small}
use Rattle.polygon.proofs.Drawn.{point_of_lem}
use Rattle.paper_laws.specs.InRange.{Points}
use Rattle.paper_laws.proofs.Wires.{length_points}

module _ {xyz : List ℤ} {v : ℕ} (p : Points xyz v) where
  pub vertex-count : length (points_of xyz) ≡ v
  vertex-count = omega (arith, length_points xyz, p.whole)

  pub vertex-read : (u : ℕ) → u < v → 3 * u + 2 < length xyz
  vertex-read u h = omega (arith, p.whole)

  pub vertex_is : (d : Wire) → d.vertices ≡ points_of xyz → (u : ℕ) → u < v → at d u ≡ point_of xyz u
  unfolding at
  vertex_is d e u h = ap (λ (l : List Point). get_or l u origin) e ∙ point_of_lem xyz u (vertex-read u h)

  pub vertex_small : (u : ℕ) → PointWithin farthest (point_of xyz u)
  vertex_small = point_small xyz p.near
