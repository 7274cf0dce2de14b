-- Six volumes of faces that close, moved: the normals add up to (0,0,0), so where (0,0,0) went does not count.
use mathlib.Core.Path.{◌≡◌, sym, ap, ap₂, ◌∙◌}
use mathlib.Core.Bool.{Bool}
use mathlib.Core.List.{List, [], ◌∷◌, map}
use Prim.Native.Nat.{ℕ, ◌<◌}
use lib.IntN.{ℤ, ◌+ℤ◌, ◌*ℤ◌}
use lib.ListN.{length}
use Rattle.paper.specs.Points.{origin, dot}
use Rattle.paper.specs.Polygon.{normal}
use Rattle.paper.specs.Drawing.{Wire, edge_at}
use Rattle.paper.specs.Loops.{Loop, loop_at, polygon}
use Rattle.paper.specs.Solids.{face_six, six_from, tables_of}
use Rattle.paper.specs.declared.Point.{Point}
use Rattle.paper_laws.proofs.Vectors.{num, vec, x as var, ◌+s◌, ◌·◌, o, v, vring}
use Rattle.means_loops.specs.Path.{ClosedPath}
use Rattle.means_solid.specs.Solid.{EachWay}
use Rattle.means_masks.proofs.Tables.{six_is}
use Rattle.means_check.proofs.FaceSums.{faces_same, faces-plus, faces-times, faces-dot}
use Rattle.means_check.proofs.Closing.{ways_close}
use Rattle.means_moves.specs.Moves.{Move}
use Rattle.means_moves.specs.Alike.{AllBelow}
use Rattle.means_moves.proofs.Six.{six_to}
use Rattle.means_moves.proofs.Moved.{polygon-to}
use Rattle.means_moves.proofs.Below.{all-at}

module _ (m : Move) (d e : Wire) (points : e.vertices ≡ map m.to d.vertices) (edges : e.edges ≡ d.edges) (cs : List Loop)
    (below : AllBelow (length d.vertices) cs) (paths : (k : ℕ) → k < length cs → ClosedPath e (loop_at cs k)) (taken turned : List Bool)
  where
    abbrev w : Point
    w = m.to origin

    -- a face
    face-to : (k : ℕ)
        → face_six (polygon e (loop_at cs k)) ≡ m.sides_by *ℤ face_six (polygon d (loop_at cs k)) +ℤ dot w (normal (polygon e (loop_at cs k)))
    face-to k =
        let q = polygon-to m d e points edges (loop_at cs k) (all-at (length d.vertices) cs k below) in
        ap face_six q ∙ six_to m (polygon d (loop_at cs k))
        ∙ ap (λ (n : Point). m.sides_by *ℤ face_six (polygon d (loop_at cs k)) +ℤ dot w n) (ap normal (sym q))

    -- "six volumes": of faces of which each edge of the drawing is run once each way
    pub six_closed : ((j : ℕ) → j < length e.edges → EachWay e cs taken turned (edge_at e j))
        → six_from 0 (tables_of e cs).sixes taken turned ≡ m.sides_by *ℤ six_from 0 (tables_of d cs).sixes taken turned
    six_closed ways =
        let six : Loop → ℤ = λ l. face_six (polygon d l) in
        let normals : Loop → Point = λ l. normal (polygon e l) in
        six_is e cs taken turned
        ∙ faces_same cs taken turned (λ l. face_six (polygon e l)) (λ l. m.sides_by *ℤ six l +ℤ dot w (normals l)) (λ k t. face-to k)
        ∙ faces-plus cs taken turned (λ l. m.sides_by *ℤ six l) (λ l. dot w (normals l)) 0 cs
        ∙ ap₂ ◌+ℤ◌ (faces-times cs taken turned m.sides_by six 0 cs ∙ ap (λ (z : ℤ). m.sides_by *ℤ z) (sym (six_is d cs taken turned)))
        (faces-dot cs taken turned w normals ∙ ap (dot w) (ways_close e cs taken turned paths ways))
        ∙ vring (vec w ∷ num (m.sides_by *ℤ six_from 0 (tables_of d cs).sixes taken turned) ∷ []) (var 1 +s (v 0 · o)) (var 1) tt
