-- Face lists read back and are written back the same, over an edition's layout.
-- "face count (6 bits, 4 to 42), then per face the corner count (4 bits, 3 to 12) and corners (5 bits each)"
use Rattle.std.specs.Prelude.{◌≡◌, true, ℕ, ◌*◌, ◌^◌, ◌≤◌, ◌<◌, length, get_or, take, drop, replicate, Ok}
use mathlib.Core.List.{List, [], ◌++◌, flat_map}
use Rattle.pack.specs.Bits.{Under}
use Rattle.pack.specs.Fill.{padded}
use Rattle.paper.specs.Format.{edition_for}
use Rattle.paper.specs.Record.{entry}
use Rattle.paper.specs.Numbers.{least_faces, most_faces, least_corners, most_corners, row_bytes, most_vertices, most_edges}
use Rattle.paper.specs.Loops.{Loop, loop_at, row}
use Rattle.paper.specs.FaceList.{encode_faces, faces_in, well_shaped, faces_of, solid_faces, sent_of, sent_room}
use Rattle.paper.specs.declared.Format.{Format}
use Rattle.paper.specs.FaceList.{Faces}
use Rattle.paper.specs.Refusals.{Fine}

-- the faces that a face list can hold, for a drawing of v vertices
pub record Sendable (f : Format) (v : ℕ) (fs : List Loop) : Type 0 where
  pub least : least_faces ≤ length fs
  pub most : length fs ≤ f.most_faces
  pub few : (i : ℕ) → i < length fs → least_corners ≤ length (loop_at fs i)
  pub many : (i : ℕ) → i < length fs → length (loop_at fs i) ≤ most_corners
  pub numbers : (i j : ℕ) → i < length fs → j < length (loop_at fs i) → get_or (loop_at fs i) j 0 < v

-- reading returned these faces, a row for each
abbrev pub returned : List Loop → Faces
returned fs = record { answer = Fine; count = length fs; rows = padded (flat_map row fs) (row_bytes * most_faces) 0 }

-- ---- such faces, written out, read back the same

module _ (f : Format) (v : ℕ) (fs : List Loop) where
  pub record FacesReadBack : Type 0 where
    pub shape : well_shaped f v (encode_faces f fs) ≡ true
    pub list : faces_of f v (encode_faces f fs) ≡ returned fs
    pub faces : faces_in f (encode_faces f fs) ≡ fs
    -- the bytes that the writer reports are in its room, and read back
    pub room : (room : List ℕ) (n : ℕ) → sent_of f fs room ≡ Ok n → faces_of f v (take n (sent_room f fs room)) ≡ returned fs

-- in the edition of a drawing of v vertices and e edges, as many as it may have
abbrev pub SentReadBack : Type 0
SentReadBack = (v e : ℕ) → v ≤ most_vertices → e ≤ most_edges
    → (fs : List Loop) → Sendable (edition_for v e) v fs → FacesReadBack (edition_for v e) v fs

-- what the writer takes are such faces
abbrev pub SentIsSendable : Format → Type 0
SentIsSendable f = (fs : List Loop) (room : List ℕ) (n : ℕ) → sent_of f fs room ≡ Ok n → Sendable f f.most_vertices fs

-- ---- a face list that is accepted, for a drawing of v vertices, is written back with the same bytes

module _ (f : Format) (v : ℕ) (s : List ℕ) where
  abbrev pub AcceptedList : Type 0
  AcceptedList = Under (2 ^ 8) s × (Fine ≡ (faces_of f v s).answer)

  pub record FacesWriteBack : Type 0 where
    pub list : encode_faces f (faces_in f s) ≡ s
    -- its faces are such faces, and reading it returns them
    pub sendable : Sendable f v (faces_in f s)
    pub back : faces_of f v s ≡ returned (faces_in f s)
    -- in room enough the writer writes the list's bytes, and later room is kept
    pub room : v ≤ f.most_vertices → (room : List ℕ) → length s ≤ length room
        → (sent_of f (faces_in f s) room ≡ Ok (length s)) × (sent_room f (faces_in f s) room ≡ s ++ drop (length s) room)

  -- the writer takes its faces from rows and a record: from the rows that reading returned, each taken and none turned
  abbrev pub RowsGiveFaces : Type 0
  RowsGiveFaces = solid_faces (faces_of f v s).rows (entry (replicate (faces_of f v s).count true) [] 0) ≡ faces_in f s

-- ---- so no two face lists hold the same faces

abbrev pub OneList : Format → ℕ → Type 0
OneList f v = (s t : List ℕ) → AcceptedList f v s → AcceptedList f v t → faces_in f s ≡ faces_in f t → s ≡ t
