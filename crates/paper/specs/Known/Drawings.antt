-- The drawings of document 01, "Known drawings", as two lists.
use Rattle.std.specs.Prelude.{ℕ, List, [], ◌∷◌, pos}
use Rattle.paper.specs.Questions.{Drawn, neg}

-- "Tetrahedron (0,0,0) (6,0,0) (0,6,0) (0,0,6)"
abbrev pub tetrahedron : Drawn
tetrahedron = record {
  xyz =
      pos 0 ∷ pos 0 ∷ pos 0 ∷ pos 6 ∷ pos 0 ∷ pos 0 ∷ pos 0 ∷ pos 6 ∷ pos 0 ∷ pos 0 ∷ pos 0 ∷ pos 6 ∷ [];
  ends =
      0 ∷ 1 ∷ 0 ∷ 2 ∷ 0 ∷ 3 ∷ 1 ∷ 2 ∷ 1 ∷ 3 ∷ 2 ∷ 3 ∷ [];
}

-- its four loops, all of them candidates
abbrev pub corners : List (List ℕ)
corners = (0 ∷ 1 ∷ 2 ∷ []) ∷ (0 ∷ 1 ∷ 3 ∷ []) ∷ (0 ∷ 2 ∷ 3 ∷ []) ∷ (1 ∷ 2 ∷ 3 ∷ []) ∷ []

-- "Cube of side 10"
abbrev pub cube : Drawn
cube = record {
  xyz =
      pos 0 ∷ pos 0 ∷ pos 0 ∷ pos 10 ∷ pos 0 ∷ pos 0 ∷ pos 0 ∷ pos 10 ∷ pos 0 ∷ pos 10 ∷ pos 10 ∷ pos 0 ∷ pos 0 ∷ pos 0 ∷
      pos 10 ∷ pos 10 ∷ pos 0 ∷ pos 10 ∷ pos 0 ∷ pos 10 ∷ pos 10 ∷ pos 10 ∷ pos 10 ∷ pos 10 ∷ [];
  ends =
      0 ∷ 1 ∷ 0 ∷ 2 ∷ 0 ∷ 4 ∷ 1 ∷ 3 ∷ 1 ∷ 5 ∷ 2 ∷ 3 ∷ 2 ∷ 6 ∷ 3 ∷ 7 ∷ 4 ∷ 5 ∷ 4 ∷ 6 ∷ 5 ∷ 7 ∷ 6 ∷ 7 ∷ [];
}

-- its faces, from any corner, each outward; "Its list with all faces turned"
abbrev pub outward : List (List ℕ)
outward =
    (2 ∷ 3 ∷ 1 ∷ 0 ∷ []) ∷ (0 ∷ 1 ∷ 5 ∷ 4 ∷ []) ∷ (4 ∷ 6 ∷ 2 ∷ 0 ∷ []) ∷ (1 ∷ 3 ∷ 7 ∷ 5 ∷ []) ∷ (6 ∷ 7 ∷ 3 ∷ 2 ∷ []) ∷ (4
    ∷ 5 ∷ 7 ∷ 6 ∷ []) ∷ []

abbrev pub inward_faces : List (List ℕ)
inward_faces =
    (0 ∷ 1 ∷ 3 ∷ 2 ∷ []) ∷ (4 ∷ 5 ∷ 1 ∷ 0 ∷ []) ∷ (0 ∷ 2 ∷ 6 ∷ 4 ∷ []) ∷ (5 ∷ 7 ∷ 3 ∷ 1 ∷ []) ∷ (2 ∷ 3 ∷ 7 ∷ 6 ∷ []) ∷ (6
    ∷ 7 ∷ 5 ∷ 4 ∷ []) ∷ []

-- "Without one edge": its first
abbrev pub open_cube : Drawn
open_cube = record {
  xyz =
      pos 0 ∷ pos 0 ∷ pos 0 ∷ pos 10 ∷ pos 0 ∷ pos 0 ∷ pos 0 ∷ pos 10 ∷ pos 0 ∷ pos 10 ∷ pos 10 ∷ pos 0 ∷ pos 0 ∷ pos 0 ∷
      pos 10 ∷ pos 10 ∷ pos 0 ∷ pos 10 ∷ pos 0 ∷ pos 10 ∷ pos 10 ∷ pos 10 ∷ pos 10 ∷ pos 10 ∷ [];
  ends =
      0 ∷ 2 ∷ 0 ∷ 4 ∷ 1 ∷ 3 ∷ 1 ∷ 5 ∷ 2 ∷ 3 ∷ 2 ∷ 6 ∷ 3 ∷ 7 ∷ 4 ∷ 5 ∷ 4 ∷ 6 ∷ 5 ∷ 7 ∷ 6 ∷ 7 ∷ [];
}

-- "Octahedron, vertices at +-10 in the order +x -x +y -y +z -z"
abbrev pub octahedron : Drawn
octahedron = record {
  xyz =
      pos 10 ∷ pos 0 ∷ pos 0 ∷ neg 10 ∷ pos 0 ∷ pos 0 ∷ pos 0 ∷ pos 10 ∷ pos 0 ∷ pos 0 ∷ neg 10 ∷ pos 0 ∷ pos 0 ∷ pos 0 ∷
      pos 10 ∷ pos 0 ∷ pos 0 ∷ neg 10 ∷ [];
  ends =
      0 ∷ 2 ∷ 0 ∷ 3 ∷ 0 ∷ 4 ∷ 0 ∷ 5 ∷ 1 ∷ 2 ∷ 1 ∷ 3 ∷ 1 ∷ 4 ∷ 1 ∷ 5 ∷ 2 ∷ 4 ∷ 2 ∷ 5 ∷ 3 ∷ 4 ∷ 3 ∷ 5 ∷ [];
}

-- "Cube of corners +-20 round a cube of corners +-10, like corners joined"
abbrev pub nested : Drawn
nested = record {
  xyz =
      neg 20 ∷ neg 20 ∷ neg 20 ∷ pos 20 ∷ neg 20 ∷ neg 20 ∷ neg 20 ∷ pos 20 ∷ neg 20 ∷ pos 20 ∷ pos 20 ∷ neg 20 ∷ neg 20 ∷
      neg 20 ∷ pos 20 ∷ pos 20 ∷ neg 20 ∷ pos 20 ∷ neg 20 ∷ pos 20 ∷ pos 20 ∷ pos 20 ∷ pos 20 ∷ pos 20 ∷ neg 10 ∷ neg 10 ∷
      neg 10 ∷ pos 10 ∷ neg 10 ∷ neg 10 ∷ neg 10 ∷ pos 10 ∷ neg 10 ∷ pos 10 ∷ pos 10 ∷ neg 10 ∷ neg 10 ∷ neg 10 ∷ pos 10 ∷
      pos 10 ∷ neg 10 ∷ pos 10 ∷ neg 10 ∷ pos 10 ∷ pos 10 ∷ pos 10 ∷ pos 10 ∷ pos 10 ∷ [];
  ends =
      0 ∷ 1 ∷ 0 ∷ 2 ∷ 0 ∷ 4 ∷ 0 ∷ 8 ∷ 1 ∷ 3 ∷ 1 ∷ 5 ∷ 1 ∷ 9 ∷ 2 ∷ 3 ∷ 2 ∷ 6 ∷ 2 ∷ 10 ∷ 3 ∷ 7 ∷ 3 ∷ 11 ∷ 4 ∷ 5 ∷ 4 ∷ 6 ∷ 4 ∷
      12 ∷ 5 ∷ 7 ∷ 5 ∷ 13 ∷ 6 ∷ 7 ∷ 6 ∷ 14 ∷ 7 ∷ 15 ∷ 8 ∷ 9 ∷ 8 ∷ 10 ∷ 8 ∷ 12 ∷ 9 ∷ 11 ∷ 9 ∷ 13 ∷ 10 ∷ 11 ∷ 10 ∷ 14 ∷ 11 ∷
      15 ∷ 12 ∷ 13 ∷ 12 ∷ 14 ∷ 13 ∷ 15 ∷ 14 ∷ 15 ∷ [];
}

-- "Triangle (0,0,0) (9,0,0) (0,9,0) joined to (3,3,0)"
abbrev pub centred : Drawn
centred = record {
  xyz =
      pos 0 ∷ pos 0 ∷ pos 0 ∷ pos 9 ∷ pos 0 ∷ pos 0 ∷ pos 0 ∷ pos 9 ∷ pos 0 ∷ pos 3 ∷ pos 3 ∷ pos 0 ∷ [];
  ends =
      0 ∷ 1 ∷ 0 ∷ 2 ∷ 0 ∷ 3 ∷ 1 ∷ 2 ∷ 1 ∷ 3 ∷ 2 ∷ 3 ∷ [];
}

-- "The first tetrahedron and its image with all signs changed, sharing (0,0,0)"
abbrev pub touching : Drawn
touching = record {
  xyz =
      pos 0 ∷ pos 0 ∷ pos 0 ∷ pos 6 ∷ pos 0 ∷ pos 0 ∷ pos 0 ∷ pos 6 ∷ pos 0 ∷ pos 0 ∷ pos 0 ∷ pos 6 ∷ neg 6 ∷ pos 0 ∷ pos 0
      ∷ pos 0 ∷ neg 6 ∷ pos 0 ∷ pos 0 ∷ pos 0 ∷ neg 6 ∷ [];
  ends =
      0 ∷ 1 ∷ 0 ∷ 2 ∷ 0 ∷ 3 ∷ 0 ∷ 4 ∷ 0 ∷ 5 ∷ 0 ∷ 6 ∷ 1 ∷ 2 ∷ 1 ∷ 3 ∷ 2 ∷ 3 ∷ 4 ∷ 5 ∷ 4 ∷ 6 ∷ 5 ∷ 6 ∷ [];
}

-- "the list of all eight faces, each outward"
abbrev pub eight : List (List ℕ)
eight =
    (2 ∷ 1 ∷ 0 ∷ []) ∷ (0 ∷ 1 ∷ 3 ∷ []) ∷ (3 ∷ 2 ∷ 0 ∷ []) ∷ (1 ∷ 2 ∷ 3 ∷ []) ∷ (0 ∷ 4 ∷ 5 ∷ []) ∷ (6 ∷ 4 ∷ 0 ∷ []) ∷ (0 ∷
    5 ∷ 6 ∷ []) ∷ (6 ∷ 5 ∷ 4 ∷ []) ∷ []

-- ends of six edges, as few as a drawing may have
abbrev pub six_ends : List ℕ
six_ends = 0 ∷ 1 ∷ 0 ∷ 2 ∷ 0 ∷ 3 ∷ 1 ∷ 2 ∷ 1 ∷ 3 ∷ 2 ∷ 3 ∷ []
