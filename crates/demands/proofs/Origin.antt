-- Six volumes of a solid is the same from every point, for its faces' normals add up to (0,0,0).
use mathlib.Core.Path.{◌≡◌, refl, sym, ap, ap₂, ◌∙◌}
use mathlib.Core.Bool.{Bool}
use mathlib.Core.List.{List, [], ◌∷◌}
use Prim.Native.Nat.{ℕ, ◌<◌}
use lib.IntN.{ℤ, pos, ◌+ℤ◌}
use lib.ListN.{length}
use Rattle.lists.specs.Lists.{sides, sides_from}
use Rattle.lists.proofs.Sides.{sides_map}
use Rattle.paper.specs.Points.{origin, plus, minus, dot, cross, sum}
use Rattle.paper.specs.Polygon.{Polygon, normal, corner}
use Rattle.paper.specs.Drawing.{Wire}
use Rattle.paper.specs.Loops.{Loop, loop_at, polygon, candidates}
use Rattle.paper.specs.Solids.{face_six}
use Rattle.paper.specs.declared.Point.{Point}
use Rattle.paper_laws.proofs.Six.{six_normal}
use Rattle.paper_laws.proofs.Vectors.{num, vec, x as var, ◌+s◌, ◌·◌, o, v, ◌+v◌, ◌-v◌, ◌×v◌, vring}
use Rattle.means_solid.specs.Solid.{face_sum, IsSolid}
use Rattle.means_loops.specs.Path.{ClosedPath}
use Rattle.means_loops.proofs.Listing.{candidates_are}
use Rattle.means_loops.proofs.Paths.{loop_path}
use Rattle.means_check.proofs.FaceSums.{faces-plus, faces-dot}
use Rattle.means_check.proofs.Closing.{normals_close}
use Rattle.means_check.proofs.Demand.{drawing_places}
use Rattle.demands.specs.Input.{drawing}
use Rattle.demands.specs.Origin.{seen_from, six_about, AnyOrigin}
use Rattle.demands.proofs.Input.{drawing-fine}
use Rattle.demands.proofs.Solid.{of_words}

-- ---- a face: its normal is the same from every point

module _ (p : Point) where
  abbrev side : Point → Point → Point
  side y z = cross (minus y p) (minus z p)

  from-sum : (a b : Point) (r : List Point) → sum (sides_from side a b r) ≡ plus (sum (sides_from cross a b r)) (cross p (minus b a))
  unfolding sum sides_from
  from-sum a b [] =
      vring (vec p ∷ vec a ∷ vec b ∷ []) (((v 2 -v v 0) ×v (v 1 -v v 0)) +v o) (((v 2 ×v v 1) +v o) +v (v 0 ×v (v 2 -v v 1))) tt
  from-sum a b (c ∷ r) =
      ap (plus (side b c)) (from-sum a c r)
      ∙ vring (vec p ∷ vec a ∷ vec b ∷ vec c ∷ vec (sum (sides_from cross a c r)) ∷ [])
      (((v 2 -v v 0) ×v (v 3 -v v 0)) +v (v 4 +v (v 0 ×v (v 3 -v v 1)))) (((v 2 ×v v 3) +v v 4) +v (v 0 ×v (v 2 -v v 1))) tt

  normal-seen : (f : Polygon) → normal (seen_from p f) ≡ normal f
  unfolding normal sides sum
  normal-seen [] = refl
  normal-seen (a ∷ r) =
      ap sum (sides_map cross (λ q. minus q p) (a ∷ r)) ∙ from-sum a a r
      ∙ vring (vec p ∷ vec a ∷ vec (sum (sides_from cross a a r)) ∷ []) (v 2 +v (v 0 ×v (v 1 -v v 1))) (v 2) tt

  empty : normal [] ≡ origin
  unfolding normal sides sum
  empty = refl

  face-seen : (f : Polygon) → face_six (seen_from p f) ≡ face_six f +ℤ dot (minus origin p) (normal f)
  unfolding corner
  face-seen [] =
      vring (vec p ∷ num (face_six []) ∷ []) (var 1) (var 1 +s ((o -v v 0) · o)) tt
      ∙ ap (λ (n : Point). face_six [] +ℤ dot (minus origin p) n) (sym empty)
  face-seen (a ∷ r) =
      six_normal (seen_from p (a ∷ r)) ∙ ap (dot (minus a p)) (normal-seen (a ∷ r))
      ∙ vring (vec p ∷ vec a ∷ vec (normal (a ∷ r)) ∷ []) ((v 1 -v v 0) · v 2) ((v 1 · v 2) +s ((o -v v 0) · v 2)) tt
      ∙ ap (λ (z : ℤ). z +ℤ dot (minus origin p) (normal (a ∷ r))) (sym (six_normal (a ∷ r)))

-- ---- a body

any_point : (d : Wire) (cs : List Loop) (taken turned : List Bool) (paths : (k : ℕ) → k < length cs → ClosedPath d (loop_at cs k))
    (p : Point) {six : ℕ} → IsSolid d cs taken turned six → six_about d cs taken turned p ≡ pos six
any_point d cs taken turned paths p {six} s =
    let six-at : Loop → ℤ = λ l. face_six (polygon d l) in
    let at-normal : Loop → ℤ = λ l. dot (minus origin p) (normal (polygon d l)) in
    (λ i. face_sum taken turned (λ l. face-seen p (polygon d l) i) 0 cs) ∙ faces-plus cs taken turned six-at at-normal 0 cs
    ∙ ap₂ ◌+ℤ◌ s.iv.0
    (faces-dot cs taken turned (minus origin p) (λ l. normal (polygon d l))
    ∙ ap (dot (minus origin p)) (normals_close d cs taken turned paths s))
    ∙ vring (vec p ∷ num (pos six) ∷ []) (var 1 +s ((o -v v 0) · o)) (var 1) tt

pub any_origin : AnyOrigin
any_origin x p taken turned six s q =
    any_point (drawing x) (candidates (drawing x)) taken turned
    (λ k h. loop_path (drawing x) (drawing_places (drawing x) (drawing-fine x p)) (loop_at (candidates (drawing x)) k)
    (candidates_are (drawing x) k h).loop) q (of_words (drawing x) s)
