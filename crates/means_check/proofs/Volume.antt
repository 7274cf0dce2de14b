-- A solid whose faces all pass through one vertex has no volume.
use mathlib.Core.Path.{◌≡◌, sym, ap, ◌∙◌}
use mathlib.Core.Bool.{Bool, true}
use mathlib.Core.List.{List, [], ◌∷◌}
use Prim.Native.Nat.{ℕ, ◌<◌}
use native.Mathlib.Omega.{arith}
use lib.IntN.{pos}
use lib.ListN.{length, get_or, length-map}
use Rattle.lists.proofs.Places.{map_at}
use Rattle.sets.specs.Word.{dig}
use Rattle.sets.proofs.Ones.{dig-below}
use Rattle.paper.specs.Points.{origin, minus, dot}
use Rattle.paper.specs.Polygon.{Polygon, normal, corner}
use Rattle.paper.specs.Drawing.{Wire, at}
use Rattle.paper.specs.Loops.{Loop, loop_at, polygon}
use Rattle.paper.specs.Solids.{face_six}
use Rattle.paper.specs.declared.Point.{Point}
use Rattle.paper_laws.proofs.Vectors.{vec, k as con, ◌·◌, o, v, vring}
use Rattle.paper_laws.proofs.Six.{six_normal}
use Rattle.paper_laws.proofs.Points.{across_too, dot_comm, dot-less}
use Rattle.means_solid.specs.Solid.{six_of_faces, IsSolid}
use Rattle.means_loops.specs.Plane.{InPlane}
use Rattle.means_loops.specs.Path.{ClosedPath}
use Rattle.means_loops.proofs.OwnPlane.{normal-across, corner-at, less-dot}
use Rattle.means_check.proofs.FaceSums.{faces_same, faces-dot}
use Rattle.means_check.proofs.Closing.{normals_close}

-- a face's part of six volumes is its normal's product with any of its corners
six_corner : (f : Polygon) (i : ℕ) → InPlane f → i < length f → face_six f ≡ dot (get_or f i origin) (normal f)
six_corner f i y h =
    let m = normal-across y.across y.height f y.every in
    let z : dot y.across (minus (corner f) (get_or f i origin)) ≡ pos 0 = less-dot y.across (corner f) (get_or f i origin) y.height
    (ap (dot y.across) (corner-at f) ∙ y.every 0 (omega arith)) (y.every i h) in
    let w = across_too y.across (normal f) (minus (corner f) (get_or f i origin)) y.real m z in
    six_normal f ∙ dot_comm (corner f) (normal f) ∙ dot-less (normal f) (corner f) (get_or f i origin) w
    ∙ dot_comm (normal f) (get_or f i origin)

-- ---- a vertex on all faces

module _ (d : Wire) (cs : List Loop) (taken turned : List Bool) (paths : (k : ℕ) → k < length cs → ClosedPath d (loop_at cs k))
    {six : ℕ} (s : IsSolid d cs taken turned six) (u : ℕ)
    (common : (k : ℕ) → dig taken k ≡ true → (i : ℕ) × (i < length (loop_at cs k)) × (get_or (loop_at cs k) i 0 ≡ u)) where
  face_six_lem : (k : ℕ) → dig taken k ≡ true → face_six (polygon d (loop_at cs k)) ≡ dot (at d u) (normal (polygon d (loop_at cs k)))
  unfolding polygon
  face_six_lem k f =
      let r = common k f in
      six_corner (polygon d (loop_at cs k)) r.0 (paths k (dig-below taken s.some k f)).plane
      (omega (arith, r.1, length-map (loop_at cs k) (at d)))
      ∙ ap (λ (p : Point). dot p (normal (polygon d (loop_at cs k)))) (map_at (at d) (loop_at cs k) r.0 0 origin r.1
      ∙ ap (at d) r.2)

  -- such a solid has no volume
  pub no_volume : ⊥
  no_volume =
      let e : six_of_faces d cs taken turned 0 cs ≡ pos 0
      = faces_same cs taken turned (λ l. face_six (polygon d l)) (λ l. dot (at d u) (normal (polygon d l))) face_six_lem
      ∙ faces-dot cs taken turned (at d u) (λ l. normal (polygon d l)) ∙ ap (dot (at d u)) (normals_close d cs taken turned paths s)
      ∙ vring (vec (at d u) ∷ []) (v 0 · o) (con (pos 0)) tt in
      let p : pos 0 ≡ pos six = sym e ∙ s.iv.0 in
      let z : 0 ≡ six = cc in
      let h = s.iv.1 in
      omega arith
