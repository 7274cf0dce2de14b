-- A face's part of six volumes is the product of its first corner and its normal.
use mathlib.Core.Path.{◌≡◌, sym, ap, ◌∙◌}
use mathlib.Core.List.{List, [], ◌∷◌}
use lib.IntN.{ℤ, pos, ◌+ℤ◌}
use Rattle.lists.specs.Lists.{sides, sides_from}
use Rattle.paper.specs.Points.{dot, cross, det, sum}
use Rattle.paper.specs.Polygon.{Polygon, normal, corner}
use Rattle.paper.specs.Solids.{fan, face_six}
use Rattle.paper.specs.declared.Point.{Point}
use Rattle.paper_laws.proofs.Vectors.{vec, k, ◌+s◌, ◌·◌, dets, o, v, ◌+v◌, ◌×v◌, vring}

-- a fan's determinants have its first corner in common
fan_is : (a b : Point) (r : List Point) → fan a (b ∷ r) ≡ dot a (sum (sides_from cross a b r))
unfolding fan sum sides_from
fan_is a b [] = sym (vring (vec a ∷ vec b ∷ []) (v 0 · ((v 1 ×v v 0) +v o)) (k (pos 0)) tt)
fan_is a b (c ∷ r) =
    ap (λ (z : ℤ). det a b c +ℤ z) (fan_is a c r)
    ∙ vring (vec a ∷ vec b ∷ vec c ∷ vec (sum (sides_from cross a c r)) ∷ []) (dets (v 0) (v 1) (v 2) +s v 0 · v 3)
    (v 0 · ((v 1 ×v v 2) +v v 3)) tt

pub six_normal : (f : Polygon) → face_six f ≡ dot (corner f) (normal f)
unfolding face_six fan normal sides sides_from corner sum
six_normal [] = vring [] (k (pos 0)) (o · o) tt
six_normal (a ∷ []) = sym (vring (vec a ∷ []) (v 0 · ((v 0 ×v v 0) +v o)) (k (pos 0)) tt)
six_normal (a ∷ (b ∷ r)) =
    fan_is a b r ∙ vring (vec a ∷ vec b ∷ vec (sum (sides_from cross a b r)) ∷ []) (v 0 · v 2) (v 0 · ((v 0 ×v v 1) +v v 2)) tt
