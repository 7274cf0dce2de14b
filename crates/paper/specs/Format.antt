-- Document 01, "The drawing sheet": the layout of sheets and face lists, over an edition's widths and counts.
use Rattle.std.specs.Prelude.{Bool, ◌||◌, List, ◌++◌, map, ℕ, ◌+◌, ◌*◌, ◌-◌, ◌/◌, ℤ, pos, ◌-ℤ◌, ◌+ℤ◌, nat_abs, ltb}
use Rattle.std.proofs.Math.ListN.{length}
use Rattle.pack.specs.Bits.{bits, run, cut, field_at, fields_at}
use Rattle.paper.specs.Numbers.{most_vertices, most_edges, farthest}
use Rattle.paper.specs.declared.Format.{Format}

-- edition 1: "edition (4 bits, 1), vertex count (6), edge count (7)", "two vertex numbers (5 bits each)", "face count (6 bits, 4 to
-- 42)"; "4 to 32 vertices; 6 to 64 edges"
abbrev pub edition_one : Format
edition_one = record {
  edition = 1;
  vertex_count_bits = 6;
  edge_count_bits = 7;
  vertex_number_bits = 5;
  face_count_bits = 6;
  most_vertices = 32;
  most_edges = 64;
  most_faces = 42;
}

-- the edition that a sheet says; the edition of a drawing of v vertices and e edges, and of its face lists. There is one
unfoldable pub edition_of : List ℕ → Format
edition_of s = edition_one

unfoldable pub edition_for : ℕ → ℕ → Format
edition_for v e = edition_one

-- of a drawing that is lent as two lists
abbrev pub lent_edition : List ℤ → List ℕ → Format
lent_edition xyz ends = edition_for (length xyz / 3) (length ends / 2)

-- widths that all editions share: "edition (4 bits", "x, y, z (11 bits each", "the corner count (4 bits"
abbrev pub edition_bits : ℕ
edition_bits = 4

abbrev pub coordinate_bits : ℕ
coordinate_bits = 11

abbrev pub corner_bits : ℕ
corner_bits = 4

-- outside lo to hi
abbrev pub outside : ℕ → ℕ → ℕ → Bool
outside lo hi n = ltb n lo || ltb hi n

-- "coordinate plus 1,000", and back
abbrev pub on_sheet : ℤ → ℕ
on_sheet z = nat_abs (z +ℤ pos farthest)

abbrev pub coordinate : ℕ → ℤ
coordinate n = pos n -ℤ pos farthest

-- "rounded up", to whole bytes; and "Zero bits fill the last byte"
abbrev pub bytes_for : ℕ → ℕ
bytes_for n = (n + 7) / 8

unfoldable pub filled : ℕ → List ℕ → List ℕ
filled n bs = cut 8 (bytes_for n) (bs ++ bits (bytes_for n * 8 - n) 0)

-- the number in the bits of s behind the first n: 0 where the fill is right
unfoldable pub fill_after : ℕ → List ℕ → ℕ
fill_after n s = field_at s n (length s * 8 - n)

module _ (f : Format) where
  -- bits before the first vertex
  abbrev pub head : ℕ
  head = edition_bits + f.vertex_count_bits + f.edge_count_bits

  -- "Length: 17 + 33V + 10E bits"
  abbrev pub total : ℕ → ℕ → ℕ
  total v e = head + 3 * coordinate_bits * v + 2 * f.vertex_number_bits * e

  -- the counts, the coordinates and the vertex numbers that stand in a sheet's bytes
  abbrev pub vertices_in : List ℕ → ℕ
  vertices_in s = field_at s edition_bits f.vertex_count_bits

  abbrev pub edges_in : List ℕ → ℕ
  edges_in s = field_at s (edition_bits + f.vertex_count_bits) f.edge_count_bits

  abbrev pub coordinates_in : List ℕ → List ℤ
  coordinates_in s = map coordinate (fields_at s head coordinate_bits (3 * vertices_in s))

  abbrev pub ends_in : List ℕ → List ℕ
  ends_in s = fields_at s (head + 3 * coordinate_bits * vertices_in s) f.vertex_number_bits (2 * edges_in s)

  -- a drawing's sheet
  abbrev pub head_bits : ℕ → ℕ → List ℕ
  head_bits v e = bits edition_bits f.edition ++ bits f.vertex_count_bits v ++ bits f.edge_count_bits e

  unfoldable pub encode : List ℤ → List ℕ → List ℕ
  unfolding filled
  encode xyz ends =
      let v = length xyz / 3 in
      let e = length ends / 2 in
      filled (total v e) (head_bits v e ++ run coordinate_bits (map on_sheet xyz) ++ run f.vertex_number_bits ends)

-- the longest sheet
abbrev pub sheet_room : ℕ
sheet_room = bytes_for (total edition_one most_vertices most_edges)
