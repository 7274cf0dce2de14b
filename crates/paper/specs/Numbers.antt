-- Document 01, "What the service converts": its numbers. Those of an edition of sheets are in Format.
use Rattle.std.specs.Prelude.{ℕ, ◌+◌, ◌*◌}

-- "4 to 32 vertices; 6 to 64 edges"; "face count (6 bits, 4 to 42)"
abbrev pub least_vertices : ℕ
least_vertices = 4

abbrev pub most_vertices : ℕ
most_vertices = 32

abbrev pub least_edges : ℕ
least_edges = 6

abbrev pub most_edges : ℕ
most_edges = 64

abbrev pub least_faces : ℕ
least_faces = 4

abbrev pub most_faces : ℕ
most_faces = 42

-- "coordinates -1,000 to 1,000"
abbrev pub farthest : ℕ
farthest = 1000

-- "a closed path of 3 to 12 different vertices"
abbrev pub least_corners : ℕ
least_corners = 3

abbrev pub most_corners : ℕ
most_corners = 12

-- "at most 128 loops are held at once, and a drawing with more is refused; at most 64 candidates; 8 solids reported"
abbrev pub most_loops : ℕ
most_loops = 128

abbrev pub most_candidates : ℕ
most_candidates = 64

abbrev pub most_solids : ℕ
most_solids = 8

-- the most of each, as one record: what a conversion holds and reports
pub record Limits : Type 0 where
  pub loops : ℕ
  pub candidates : ℕ
  pub solids : ℕ

abbrev pub documented : Limits
documented = record { loops = most_loops; candidates = most_candidates; solids = most_solids }

-- "work limit 0 to 1,000,000"
abbrev pub most_work : ℕ
most_work = 1000000

-- "A report writes 13 bytes per candidate (corner count, normal form, 255 as fill)"
abbrev pub row_bytes : ℕ
row_bytes = 13

abbrev pub fill_byte : ℕ
fill_byte = 255

-- "and three words per solid": a bit set of taken candidates, one of those that are turned, and six volumes. The words of a bit set,
-- and the bits of a word
abbrev pub set_words : ℕ
set_words = 1

abbrev pub word_bits : ℕ
word_bits = 64

abbrev pub solid_words : ℕ
solid_words = 2 * set_words + 1

-- "under 832 bytes for faces; under 24 words for solids"
abbrev pub face_room : ℕ
face_room = row_bytes * most_candidates

abbrev pub solid_room : ℕ
solid_room = solid_words * most_solids
