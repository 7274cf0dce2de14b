-- The faces of a solid close: their normals, each in its face's direction, add up to (0,0,0).
use mathlib.Core.Path.{◌≡◌, ap, ◌∙◌}
use mathlib.Core.Bool.{Bool}
use mathlib.Core.List.{List, [], ◌∷◌}
use Prim.Native.Nat.{ℕ, ◌<◌}
use lib.ListN.{length}
use Rattle.lists.specs.Lists.{sides}
use Rattle.lists.proofs.Sides.{sides_map}
use Rattle.sets.specs.Word.{dig}
use Rattle.paper.specs.Points.{origin, cross, sum}
use Rattle.paper.specs.Polygon.{normal}
use Rattle.paper.specs.Drawing.{Wire, edge_at, at}
use Rattle.paper.specs.Loops.{Loop, loop_at, polygon}
use Rattle.paper.specs.declared.Point.{Point}
use Rattle.paper_laws.proofs.Vectors.{vec, o, v, ◌-v◌, ◌×v◌, vring}
use Rattle.means_solid.specs.Solid.{EachWay, IsSolid}
use Rattle.means_loops.specs.Path.{ClosedPath}
use Rattle.means_check.proofs.Sums.{sum_to, sum_same}
use Rattle.means_check.proofs.FaceSums.{in_way}
use Rattle.means_check.proofs.Cancel.{faces_close}

module _ (d : Wire) (cs : List Loop) (taken turned : List Bool) (paths : (k : ℕ) → k < length cs → ClosedPath d (loop_at cs k)) where
  -- the normal of face k, in its direction
  abbrev pub facing : ℕ → Point
  facing k = in_way (dig taken k) (dig turned k) (normal (polygon d (loop_at cs k)))

  abbrev side : ℕ → ℕ → Point
  side a b = cross (at d a) (at d b)

  normal-sides : (l : Loop) → normal (polygon d l) ≡ sum (sides side l)
  unfolding normal polygon
  normal-sides l = ap sum (sides_map cross (at d) l)

  -- (iii) alone: each edge is run once each way
  pub ways_close : ((e : ℕ) → e < length d.edges → EachWay d cs taken turned (edge_at d e)) → sum_to (length cs) facing ≡ origin
  ways_close ways =
      sum_same (length cs) facing
      (λ k. in_way (dig taken k) (dig turned k) (sum (sides side (loop_at cs k))))
      (λ k h. ap (in_way (dig taken k) (dig turned k)) (normal-sides (loop_at cs k)))
      ∙ faces_close d cs taken turned paths side
      (λ a b. vring (vec (at d a) ∷ vec (at d b) ∷ []) (v 0 ×v v 1) (o -v (v 1 ×v v 0)) tt) ways

  pub normals_close : {six : ℕ} → IsSolid d cs taken turned six → sum_to (length cs) facing ≡ origin
  normals_close s = ways_close s.iii
