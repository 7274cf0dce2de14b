-- A layout in which every number that a drawing or a face list has fits its field.
use Rattle.std.specs.Prelude.{◌^◌, ◌≤◌, ◌<◌}
use Rattle.paper.specs.Format.{edition_bits}
use Rattle.paper.specs.declared.Format.{Format}

pub record Sound (f : Format) : Type 0 where
  pub edition_fits : f.edition < 2 ^ edition_bits
  pub vertices_fit : f.most_vertices < 2 ^ f.vertex_count_bits
  pub edges_fit : f.most_edges < 2 ^ f.edge_count_bits
  pub numbers_fit : f.most_vertices ≤ 2 ^ f.vertex_number_bits
  pub faces_fit : f.most_faces < 2 ^ f.face_count_bits
