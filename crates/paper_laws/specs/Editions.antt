-- What is asked of an edition of sheets and face lists.
use Rattle.std.specs.Prelude.{ℕ, ◌+◌, ◌*◌, ◌≤◌}
use Rattle.paper.specs.Numbers.{most_vertices, most_edges, most_faces}
use Rattle.paper.specs.declared.Format.{Format}

-- it has no more than is held at once
pub record Limited (f : Format) : Type 0 where
  pub v_held : f.most_vertices ≤ most_vertices
  pub e_held : f.most_edges ≤ most_edges
  pub faces_held : f.most_faces ≤ most_faces

-- it has room for the faces of a solid, which have three edges at least, and an edge two faces
abbrev pub HoldsFaces : Format → Type 0
HoldsFaces f = 2 * f.most_edges ≤ 3 * f.most_faces + 2

-- it has room for v vertices and e edges
pub record FitsEdition (f : Format) (v e : ℕ) : Type 0 where
  pub v_fits : v ≤ f.most_vertices
  pub e_fits : e ≤ f.most_edges
