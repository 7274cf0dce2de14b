-- What the functions of this crate ask of their inputs.
use Rattle.std.specs.Prelude.{◌≡◌, List, ℕ, ◌*◌, ◌≤◌}
use Rattle.paper.specs.Numbers.{most_vertices, most_edges}
use Rattle.paper.specs.Refusals.{first_of, Fine}
use Rattle.paper.specs.Format.{coordinate_bits}
use Rattle.paper.specs.Sheet.{shape_checks}
use Rattle.paper.specs.declared.Format.{Format}
use Rattle.sheet_shape.specs.Narrow.{narrow_bits, FitsDrawing}
use Rattle.sheet_shape.specs.Fields.{Fields}

-- n coordinates from bit i on, no more than a drawing by value holds
pub record Coordinates (s : List ℕ) (i n : ℕ) : Type 0 where
  pub few : n ≤ 3 * most_vertices
  pub fields : Fields s i coordinate_bits n

-- n vertex numbers of w bits from bit i on, no more than a drawing by value holds
pub record Numbers (s : List ℕ) (i w n : ℕ) : Type 0 where
  pub few : n ≤ 2 * most_edges
  pub narrow : w ≤ narrow_bits
  pub fields : Fields s i w n

-- counts that a drawing by value has room for
pub record Few (v e : ℕ) : Type 0 where
  pub v_most : v ≤ most_vertices
  pub e_most : e ≤ most_edges

-- a sheet that passes 3 to 7, whose drawing fits
pub record Readable (f : Format) (s : List ℕ) : Type 0 where
  pub fits : FitsDrawing f
  pub passes : Fine ≡ first_of (shape_checks f s)
