-- Document 01, "The drawing sheet" and the table's 3 to 10: reading and writing a sheet.
use Rattle.std.specs.Prelude.{Bool, false, ◌&&◌, ◌||◌, not, List, [], ◌∷◌, ◌++◌, ℕ, zero, suc, ◌+◌, ◌*◌, ◌-◌, ◌/◌, ◌%◌, ℤ, pos, negsuc, leb, ltb, eqb, length, get_or, drop}
use Rattle.std.specs.Int.Signed.{lt_z}
use Rattle.pack.specs.Bits.{field_at}
use Rattle.pack.specs.Fill.{padded}
use Rattle.lists.specs.Lists.{lowest}
use Rattle.paper.specs.Numbers.{least_vertices, most_vertices, least_edges, most_edges, farthest}
use Rattle.paper.specs.Refusals as No
use Rattle.paper.specs.Refusals.{Check, check, first_of, offends, Answer, Fine, Written}
use Rattle.paper.specs.Format.{edition_of, edition_bits, outside, total, bytes_for, fill_after, vertices_in}
use Rattle.paper.specs.Format.{edges_in, coordinates_in, ends_in, encode}
use Rattle.paper.specs.declared.Format.{Format}
use Rattle.std.specs.Prelude.{Result, Ok, Err}
use Rattle.paper.specs.declared.Refusal.{Refusal}
use Rattle.paper.specs.declared.Drawing.{Drawing}

-- ---- 8, 9 and 10, of a drawing with v vertices as two lists: "3 per vertex, 2 per edge"

-- 8: outside -1,000 to 1,000
abbrev pub far : ℤ → Bool
far z = lt_z z (negsuc (farthest - 1)) || lt_z (pos farthest) z

unfoldable pub far_at : List ℤ → ℕ → Bool
far_at xyz i = far (get_or xyz i (pos 0))

-- 9: "no such vertex, or ends not rising"
abbrev pub wrong : ℕ → ℕ → ℕ → Bool
wrong v a b = leb v a || (leb v b || leb b a)

unfoldable pub wrong_at : ℕ → List ℕ → ℕ → Bool
wrong_at v ends e = wrong v (get_or ends (2 * e) 0) (get_or ends (2 * e + 1) 0)

-- 10: "not above the edge before", as pairs
abbrev pub edge_above : ℕ → ℕ → ℕ → ℕ → Bool
edge_above a₀ b₀ a b = ltb a₀ a || (eqb a₀ a && ltb b₀ b)

unfoldable pub low_at : List ℕ → ℕ → Bool
low_at ends zero = false
low_at ends (suc e) = not (edge_above (get_or ends (2 * e) 0) (get_or ends (2 * e + 1) 0) (get_or ends (2 * e + 2) 0) (get_or ends (2 * e + 3) 0))

-- "place in the coordinate list"; the edge
unfoldable pub edge_checks : ℕ → List ℕ → List Check
edge_checks v ends =
    check No.BadEdge (lowest (wrong_at v ends) (length ends / 2)) ∷ check No.EdgeOrder (lowest (low_at ends) (length ends / 2)) ∷ []

unfoldable pub content_checks : ℕ → List ℤ → List ℕ → List Check
content_checks v xyz ends = check No.BadCoordinate (lowest (far_at xyz) (length xyz)) ∷ edge_checks v ends

-- ---- reading: "Reading a sheet applies refusals 3 to 10 only"

-- 5, of v vertices and e edges
unfoldable pub count_checks : Format → ℕ → ℕ → List Check
count_checks f v e =
    check No.BadCount (offends (outside least_vertices f.most_vertices v) 0)
    ∷ check No.BadCount (offends (outside least_edges f.most_edges e) 1)
    ∷ []

module _ (f : Format) (s : List ℕ) where
  -- 3 and 4
  unfoldable pub open_checks : List Check
  open_checks =
      check No.SheetShort (offends (ltb (length s) 3) 0)
      ∷ check No.SheetEdition (offends (not (eqb (field_at s 0 edition_bits) f.edition)) 0)
      ∷ []

  -- 6 and 7
  unfoldable pub close_checks : ℕ → ℕ → List Check
  close_checks v e =
      check No.SheetLength (offends (not (eqb (length s) (bytes_for (total f v e)))) 0)
      ∷ check No.SheetPad (offends (not (eqb (fill_after (total f v e) s) 0)) 0)
      ∷ []

  -- 3 to 7, and then 8 to 10
  unfoldable pub shape_checks : List Check
  shape_checks = open_checks ++ count_checks f (vertices_in f s) (edges_in f s) ++ close_checks (vertices_in f s) (edges_in f s)

  unfoldable pub sheet_checks : List Check
  sheet_checks = shape_checks ++ content_checks (vertices_in f s) (coordinates_in f s) (ends_in f s)

-- "returns the drawing by value": entries past the counts are 0, and a sheet that is refused returns a blank one
abbrev pub held : ℕ → ℕ → List ℤ → List ℕ → Drawing
held v e xyz ends =
    record {
      vertices = v;
      edges = e;
      xyz = padded xyz (3 * most_vertices) (pos 0);
      ends = padded ends (2 * most_edges) 0;
    }

abbrev pub blank : Drawing
blank = held 0 0 [] []

abbrev pub drawn_for : Answer → Drawing → Drawing
drawn_for (Ok _) d = d
drawn_for (Err r) d = blank

-- what reading a sheet gives; and the same of the code's answer
pub record Sheet : Type 0 where
  pub answer : Answer
  pub drawing : Drawing

abbrev pub sheet_as : Result Drawing Refusal → Sheet
sheet_as (Ok d) = record { answer = Fine; drawing = d }
sheet_as (Err r) = record { answer = Err r; drawing = blank }

-- the whole result
unfoldable pub sheet_of : Format → List ℕ → Sheet
sheet_of f s =
    let a = first_of (sheet_checks f s) in
    record { answer = a; drawing = drawn_for a (held (vertices_in f s) (edges_in f s) (coordinates_in f s) (ends_in f s)) }

-- in the edition that it says
abbrev pub read_sheet : List ℕ → Sheet
read_sheet s = sheet_of (edition_of s) s

-- ---- writing: "the sheet writer 5, 8, 9, 10, then 1"

-- 5 of a list: "isn't whole", or too few or too many parts of k numbers each
abbrev pub bad_count : ℕ → ℕ → ℕ → ℕ → Bool
bad_count k lo hi n = not (eqb (n % k) 0) || outside lo hi (n / k)

-- "a lent list that isn't whole": "then 3, 4, 6 and 7 don't arise"
unfoldable pub lent_checks : List ℤ → List ℕ → List Check
lent_checks xyz ends =
    check No.BadCount (offends (bad_count 3 least_vertices most_vertices (length xyz)) 0)
    ∷ check No.BadCount (offends (bad_count 2 least_edges most_edges (length ends)) 1)
    ∷ content_checks (length xyz / 3) xyz ends

module _ (f : Format) (xyz : List ℤ) (ends : List ℕ) where
  -- 1: "a sheet writer's room shorter than the sheet"
  unfoldable pub writer_checks : ℕ → List Check
  writer_checks room =
      lent_checks xyz ends ++ (check No.NoRoom (offends (ltb room (bytes_for (total f (length xyz / 3) (length ends / 2)))) 0) ∷ [])

  -- the answer, and what the room holds then: "Later room keeps its contents, after a written sheet too"
  abbrev pub written_for : Answer → Written
  written_for (Ok _) = Ok (bytes_for (total f (length xyz / 3) (length ends / 2)))
  written_for (Err r) = Err r

  abbrev pub room_for : Answer → List ℕ → List ℕ
  room_for (Ok _) room = encode f xyz ends ++ drop (bytes_for (total f (length xyz / 3) (length ends / 2))) room
  room_for (Err r) room = room

  unfoldable pub written_of : List ℕ → Written
  written_of room = written_for (first_of (writer_checks (length room)))

  unfoldable pub room_of : List ℕ → List ℕ
  room_of room = room_for (first_of (writer_checks (length room))) room
