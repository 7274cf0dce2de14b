-- A face's part of six volumes, moved: as many times as large as the sides of planes become, and for where (0,0,0) went the product with
-- the normal.
use mathlib.Core.Path.{◌≡◌, sym, ap, ◌∙◌}
use mathlib.Core.List.{[], ◌∷◌, map}
use lib.IntN.{ℤ, pos, ◌+ℤ◌, ◌*ℤ◌}
use Rattle.paper.specs.Points.{origin, minus, dot}
use Rattle.paper.specs.Polygon.{Polygon, normal, corner}
use Rattle.paper.specs.Solids.{face_six}
use Rattle.paper.specs.declared.Point.{Point}
use Rattle.paper_laws.proofs.Six.{six_normal}
use Rattle.paper_laws.proofs.Vectors.{num, vec, k as con, x as var, ◌+s◌, ◌*s◌, ◌·◌, o, v, ◌-v◌, vring}
use Rattle.means_moves.specs.Moves.{Move}
use Rattle.means_moves.proofs.Tests.{side_to}

pub six_to : (m : Move) (f : Polygon)
    → face_six (map m.to f) ≡ m.sides_by *ℤ face_six f +ℤ dot (m.to origin) (normal (map m.to f))
unfolding corner face_six normal
six_to m [] =
    vring (vec (m.to origin) ∷ num m.sides_by ∷ []) (con (pos 0)) ((var 1 *s con (pos 0)) +s (v 0 · o)) tt
six_to m (a ∷ r) =
    let n = normal (a ∷ r) in
    let moved = normal (map m.to (a ∷ r)) in
    six_normal (map m.to (a ∷ r))
    ∙ vring (vec (m.to a) ∷ vec moved ∷ vec (m.to origin) ∷ []) (v 0 · v 1) ((v 1 · (v 0 -v v 2)) +s (v 2 · v 1)) tt
    ∙ ap (λ (z : ℤ). z +ℤ dot (m.to origin) moved)
    (ap (λ (q : Point). dot q (minus (m.to a) (m.to origin))) (m.normals (a ∷ r)) ∙ side_to m n a origin
    ∙ ap (λ (z : ℤ). m.sides_by *ℤ z) (vring (vec n ∷ vec a ∷ []) (v 0 · (v 1 -v o)) (v 1 · v 0) tt ∙ sym (six_normal (a ∷ r))))
