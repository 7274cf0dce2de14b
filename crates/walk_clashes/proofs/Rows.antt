-- A candidate's row: a loop in range, and the polygon of that candidate.
use mathlib.Core.Path.{◌≡◌}
use mathlib.Core.List.{List}
use Prim.Native.Nat.{ℕ, ◌<◌}
use native.Mathlib.Omega.{arith}
use lib.IntN.{ℤ}
use lib.ListN.{length}
use Rattle.paper.specs.Polygon.{normal}
use Rattle.paper.specs.Loops.{loop_at, polygon}
use Rattle.paper.specs.declared.Point.{Point}
use Rattle.polygon.specs.Rings.{ring, corner_count, Row, FaceRow}
use Rattle.loop_table.proofs.Rows.{count_is}
use Rattle.loop_table.proofs.Loops.{row_of, ring_of}
use Rattle.walk_clashes.specs.Faces.{DrawnFaces, drawing_of}

module _ {xyz : List ℤ} {rows : List ℕ} {n : ℕ} (w : DrawnFaces xyz rows n) (k : ℕ) (h : k < n) where
  here : k < length w.loops
  here = omega (arith, h, w.count)

  pub row-at : Row xyz rows k
  row-at = row_of w.range rows w.of w.held k here

  pub face-at : {m : Point} → m ≡ normal (ring xyz rows k) → FaceRow xyz rows k m
  face-at e = record { row = row-at; across = e }

  pub corners-at : corner_count rows k ≡ length (loop_at w.loops k)
  corners-at = count_is rows w.loops w.held w.of.short k here

  pub polygon-at : ring xyz rows k ≡ polygon (drawing_of w) (loop_at w.loops k)
  polygon-at = ring_of w.range rows w.of w.held k here
