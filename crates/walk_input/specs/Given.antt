-- The two lists of a drawing by value that passed 3 to 10: they stand in front of its arrays.
use Rattle.std.specs.Prelude.{List, ◌≡◌, ℕ, ◌*◌, ℤ, take}
use Rattle.paper.specs.declared.Drawing.{Drawing}
use Rattle.paper_laws.specs.InRange.{Held, PassedLists}

abbrev pub coordinates_of : Drawing → List ℤ
coordinates_of d = take (3 * d.vertices) d.xyz

abbrev pub links_of : Drawing → List ℕ
links_of d = take (2 * d.edges) d.ends

pub record GivenDrawing (d : Drawing) : Type 0 where
  pub held : Held d
  pub passed : PassedLists (coordinates_of d) (links_of d)
