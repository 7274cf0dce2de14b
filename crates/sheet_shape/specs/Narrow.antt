-- Layouts that are small enough for the code.
use Rattle.std.specs.Prelude.{ℕ, ◌≤◌}
use Rattle.paper.specs.Numbers.{most_vertices, most_edges}
use Rattle.paper.specs.declared.Format.{Format}

-- the code's own limits, with room for an edition to come: a count's or number's width, vertices, edges
abbrev pub narrow_bits : ℕ
narrow_bits = 8

abbrev pub few_vertices : ℕ
few_vertices = 64

abbrev pub few_edges : ℕ
few_edges = 128

-- so that a sheet's length is a small number
pub record Narrow (f : Format) : Type 0 where
  pub vertex_count_narrow : f.vertex_count_bits ≤ narrow_bits
  pub edge_count_narrow : f.edge_count_bits ≤ narrow_bits
  pub vertex_number_narrow : f.vertex_number_bits ≤ narrow_bits
  pub face_count_narrow : f.face_count_bits ≤ narrow_bits
  pub vertices_few : f.most_vertices ≤ few_vertices
  pub edges_few : f.most_edges ≤ few_edges

-- the same of v vertices and e edges
pub record NarrowCounts (f : Format) (v e : ℕ) : Type 0 where
  pub narrow : Narrow f
  pub v_few : v ≤ few_vertices
  pub e_few : e ≤ few_edges

-- so that a drawing by value has room for what a sheet holds
pub record FitsDrawing (f : Format) : Type 0 where
  pub narrow : Narrow f
  pub v_held : f.most_vertices ≤ most_vertices
  pub e_held : f.most_edges ≤ most_edges
