-- Candidates of a drawing in range, by the points of its vertices and the rows of the candidates. Its edges are not lent: contracts speak
-- of every drawing with these points of which the rows are candidates.
use Rattle.std.specs.Prelude.{◌≡◌, List, ℕ, ◌*◌, ◌≤◌, ◌<◌, ℤ, pos, length, get_or}
use Rattle.paper.specs.Numbers.{most_candidates}
use Rattle.paper.specs.Polygon.{normal}
use Rattle.paper.specs.Drawing.{Wire, wire}
use Rattle.paper.specs.Loops.{Loop}
use Rattle.paper.specs.Solids.{tables_of}
use Rattle.paper.specs.declared.Point.{Point}
use Rattle.paper_laws.specs.InRange.{InRange}
use Rattle.polygon.specs.Rings.{point_of, ring}
use Rattle.polygon.specs.Sizes.{PointWithin, most_normal}
use Rattle.loop_table.specs.Tables.{HoldsRows}
use Rattle.loop_table.specs.Loops.{LoopsOf}
use Rattle.walk_tables.specs.Words.{Sixes}

pub record DrawnFaces (xyz : List ℤ) (rows : List ℕ) (n : ℕ) : Type 0 where
  pub ends : List ℕ
  pub range : InRange xyz ends
  pub loops : List Loop
  pub of : LoopsOf (wire xyz ends) loops
  pub held : HoldsRows rows loops
  pub count : n ≡ length loops
  pub most : n ≤ most_candidates

-- the drawing
abbrev pub drawing_of : {xyz : List ℤ} {rows : List ℕ} {n : ℕ} → DrawnFaces xyz rows n → Wire
drawing_of {xyz} w = wire xyz w.ends

-- ---- normals, and six volumes

-- the points of the list are the normals of the first n rows
pub record NormalsOf (xyz : List ℤ) (rows : List ℕ) (n : ℕ) (normals : List ℤ) : Type 0 where
  pub whole : length normals ≡ 3 * most_candidates
  pub each : (k : ℕ) → k < n → point_of normals k ≡ normal (ring xyz rows k)

-- there is room for a point of that size, and it is point k now
pub record PointRoom (points : List ℤ) (k : ℕ) (p : Point) : Type 0 where
  pub whole : length points ≡ 3 * most_candidates
  pub low : k < most_candidates
  pub small : PointWithin most_normal p

pub record PointPut (k : ℕ) (p : Point) (points₀ points : List ℤ) : Type 0 where
  pub long : length points ≡ length points₀
  pub here : point_of points k ≡ p
  pub others : (i : ℕ) → (i ≡ k → ⊥) → point_of points i ≡ point_of points₀ i

-- there is room for each candidate's
pub record PartRoom (xyz : List ℤ) (rows : List ℕ) (n : ℕ) (normals sixes : List ℤ) : Type 0 where
  pub faces : DrawnFaces xyz rows n
  pub normal_room : length normals ≡ 3 * most_candidates
  pub six_room : length sixes ≡ most_candidates

-- the candidates' normals, and their parts of six volumes; later room keeps its contents
pub record PartsOf {xyz : List ℤ} {rows : List ℕ} {n : ℕ} (w : DrawnFaces xyz rows n) (normals sixes₀ sixes : List ℤ) : Type 0 where
  pub normals_are : NormalsOf xyz rows n normals
  pub sixes_are : Sixes sixes (tables_of (drawing_of w) w.loops).sixes
  pub later : (i : ℕ) → n ≤ i → get_or sixes i (pos 0) ≡ get_or sixes₀ i (pos 0)
