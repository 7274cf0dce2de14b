-- Document 01, "The face list is packed likewise", and the table's 20. A face is the list of its corners as it is sent.
use Rattle.std.specs.Prelude.{Bool, false, ◌&&◌, ◌||◌, not, cond, ℕ, zero, suc, ◌+◌, ◌*◌, leb, ltb, eqb, length, get_or, take, drop}
use mathlib.Core.List.{List, [], ◌∷◌, ◌++◌, map, flat_map}
use Rattle.pack.specs.Bits.{bits, val, run, cut, field_at}
use Rattle.pack.specs.Fill.{padded}
use Rattle.lists.specs.Lists.{all, filter, upto}
use Rattle.paper.specs.Numbers.{least_faces, most_faces, least_corners, most_corners, most_candidates, row_bytes}
use Rattle.paper.specs.Refusals as No
use Rattle.paper.specs.Refusals.{Check, check, refuse, first_of, offends, Answer, Fine, Written}
use Rattle.paper.specs.Format.{edition_one, edition_bits, corner_bits, outside, bytes_for, filled, fill_after}
use Rattle.paper.specs.Record.{taken_in, turned_in}
use Rattle.paper.specs.Loops.{Loop, flipped, row}
use Rattle.paper.specs.declared.Format.{Format}
use Rattle.std.specs.Prelude.{Result, Ok, Err}
use Rattle.paper.specs.declared.Refusal.{Refusal}
use Rattle.paper.specs.declared.FaceRows.{FaceRows}

-- what reading a face list gives
pub record Faces : Type 0 where
  pub answer : Answer
  pub count : ℕ
  pub rows : List ℕ

-- no faces by value, where the list is refused
abbrev pub none_for : Answer → Faces
none_for a = record { answer = a; count = 0; rows = padded [] (row_bytes * most_faces) 0 }

abbrev pub no_faces : Faces
no_faces = none_for (refuse No.ShellShape 0)

-- the same of the code's answer
abbrev pub faces_as : Result FaceRows Refusal → Faces
faces_as (Ok f) = record { answer = Fine; count = f.count; rows = f.rows }
faces_as (Err r) = none_for (Err r)

module _ (f : Format) where
  -- "edition (4 bits, 1), face count (6 bits, 4 to 42), then per face the corner count (4 bits, 3 to 12) and corners (5 bits each)"
  unfoldable pub face_bits : Loop → List ℕ
  face_bits l = bits corner_bits (length l) ++ run f.vertex_number_bits l

  unfoldable pub list_bits : List Loop → List ℕ
  list_bits fs = bits edition_bits f.edition ++ bits f.face_count_bits (length fs) ++ flat_map face_bits fs

  -- "zero fill"
  unfoldable pub encode_faces : List Loop → List ℕ
  encode_faces fs = filled (length (list_bits fs)) (list_bits fs)

  -- the n faces that stand in bits
  unfoldable pub faces_at : ℕ → List ℕ → List Loop
  faces_at zero bs = []
  faces_at (suc n) bs =
      let k = val (take corner_bits bs) in
      cut f.vertex_number_bits k (drop corner_bits bs) ∷ faces_at n (drop (corner_bits + f.vertex_number_bits * k) bs)

  -- the face count and the faces that stand in a list's bytes
  abbrev pub count_in : List ℕ → ℕ
  count_in s = field_at s edition_bits f.face_count_bits

  unfoldable pub faces_in : List ℕ → List Loop
  faces_in s = faces_at (count_in s) (drop (edition_bits + f.face_count_bits) (run 8 s))

  -- the bits of faces; the bits before the fill
  unfoldable pub span : List Loop → ℕ
  span [] = 0
  span (l ∷ fs) = corner_bits + f.vertex_number_bits * length l + span fs

  unfoldable pub bits_of : List Loop → ℕ
  bits_of fs = edition_bits + f.face_count_bits + span fs

  -- 20: "counts, length, fill, edition or corner number", for a drawing of v vertices
  unfoldable pub face_fits : ℕ → Loop → Bool
  face_fits v l = not (outside least_corners most_corners (length l)) && all (λ c. ltb c v) l

  unfoldable pub well_shaped : ℕ → List ℕ → Bool
  well_shaped v s =
      let fs = faces_in s in
      eqb (field_at s 0 edition_bits) f.edition
      && not (outside least_faces f.most_faces (count_in s))
      && all (face_fits v) fs
      && eqb (length s) (bytes_for (bits_of fs))
      && eqb (fill_after (bits_of fs) s) 0

  -- the faces by value: a row for each
  unfoldable pub faces_of : ℕ → List ℕ → Faces
  faces_of v s =
      cond (well_shaped v s)
      (record {
        answer = Fine;
        count = count_in s;
        rows = padded (flat_map row (faces_in s)) (row_bytes * most_faces) 0;
      })
      no_faces

-- the longest list: each face has as many corners as there can be
abbrev pub list_room : ℕ
list_room =
    let face = corner_bits + edition_one.vertex_number_bits * most_corners in
    bytes_for (edition_bits + edition_one.face_count_bits + face * most_faces)

-- ---- a reported solid, sent as a list: from the rows of a report and the solid's record

-- the loop of candidate k, where its row is whole and has at most 12 corners
unfoldable pub row_at : List ℕ → ℕ → Loop
row_at rows k =
    let c = get_or rows (row_bytes * k) 0 in
    cond (leb (row_bytes * k + row_bytes) (length rows) && leb c most_corners) (take c (drop (row_bytes * k + 1) rows)) []

-- its faces, in candidate order
unfoldable pub solid_faces : List ℕ → List ℕ → List Loop
solid_faces rows ws =
    let at : ℕ → Loop = λ k. cond (get_or (turned_in ws) k false) (flipped (row_at rows k)) (row_at rows k) in
    map at (filter (λ k. get_or (taken_in ws) k false) (upto most_candidates))

module _ (f : Format) (fs : List Loop) where
  -- 20 where these are no faces of a list, and 1 where the room is shorter than the list
  unfoldable pub send_checks : ℕ → List Check
  send_checks room =
      check No.ShellShape (offends (outside least_faces f.most_faces (length fs) || not (all (face_fits f f.most_vertices) fs)) 0)
      ∷ check No.NoRoom (offends (ltb room (bytes_for (bits_of f fs))) 0)
      ∷ []

  -- the answer, and what the room holds then
  abbrev pub sent_for : Answer → Written
  sent_for (Ok _) = Ok (bytes_for (bits_of f fs))
  sent_for (Err r) = Err r

  abbrev pub sent_room_for : Answer → List ℕ → List ℕ
  sent_room_for (Ok _) room = encode_faces f fs ++ drop (bytes_for (bits_of f fs)) room
  sent_room_for (Err r) room = room

  unfoldable pub sent_of : List ℕ → Written
  sent_of room = sent_for (first_of (send_checks (length room)))

  unfoldable pub sent_room : List ℕ → List ℕ
  sent_room room = sent_room_for (first_of (send_checks (length room))) room
