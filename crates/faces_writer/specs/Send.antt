-- A reported solid on its way into a list: candidate by candidate, and what faces weigh.
use Rattle.std.specs.Prelude.{◌≡◌, Bool, true, cond, ℕ, ◌+◌, length, take, drop, Some, None}
use Rattle.std.proofs.Math.Option.{Option, none, some}
use mathlib.Core.List.{List, [], ◌∷◌, flat_map}
use Rattle.pack.specs.Bits.{Put}
use Rattle.sets.specs.Word.{dig}
use Rattle.lists.specs.Lists.{all, keep}
use Rattle.paper.specs.Format.{edition_bits}
use Rattle.paper.specs.Record.{taken_in, turned_in}
use Rattle.paper.specs.Loops.{Loop, flipped}
use Rattle.paper.specs.FaceList.{face_bits, span, face_fits, row_at, solid_faces, sent_room_for}
use Rattle.paper.specs.declared.Format.{Format}
use Rattle.std.specs.Prelude as Std
use Rattle.paper.specs.Refusals.{Fine}
use Rattle.faces_writer.specs.declared.write.Extent.{Extent}

-- the c numbers of rows from place i on
abbrev pub corners_at : List ℕ → ℕ → ℕ → List ℕ
corners_at rows i c = take c (drop i rows)

-- a loop, or the same against its normal form
abbrev pub way : Bool → Loop → Loop
way b l = cond b (flipped l) l

-- a solid's record has candidate k
abbrev pub marked : List ℕ → ℕ → Bool
marked ws k = dig (taken_in ws) k

-- candidate k as the one face of a list, its loop turned back or not
abbrev pub row_alone : List ℕ → ℕ → Bool → List Loop
row_alone rows k back = way back (row_at rows k) ∷ []

-- candidate k as a solid has it, and as the list of one or of none
abbrev pub face_of : List ℕ → List ℕ → ℕ → Loop
face_of rows ws k = way (dig (turned_in ws) k) (row_at rows k)

unfoldable pub face_alone : List ℕ → List ℕ → ℕ → List Loop
face_alone rows ws k = keep (marked ws k) (face_of rows ws k) []

-- what is said of a list of the faces of a reported solid, and of the room for it
abbrev pub of_solid : {A : Type 0} → (List Loop → List ℕ → A) → List ℕ → List ℕ → List ℕ → A
of_solid say rows ws room = say (solid_faces rows ws) room

-- how many faces there are and their bits, where all fit
abbrev pub Weight : Type 0
Weight = Std.Option Extent

abbrev pub of : ℕ → ℕ → Weight
of n b = Some (record { faces = n; bits = b })

module _ (f : Format) where
  -- a face that a list can have
  abbrev pub fits : Loop → Bool
  fits = face_fits f f.most_vertices

  unfoldable pub corners_of : Loop → Option ℕ
  corners_of l = cond (fits l) (some (length l)) none

  -- the bits before the first face; the faces in bits, one behind the other
  abbrev pub list_head : ℕ
  list_head = edition_bits + f.face_count_bits

  abbrev pub faces_bits : List Loop → List ℕ
  faces_bits fs = flat_map (face_bits f) fs

  -- room holds last when these faces are written from bit b on
  abbrev pub PutFaces : List Loop → List ℕ → List ℕ → ℕ → Type 0
  PutFaces fs room last b = Put room last b (faces_bits fs)

  -- the count and the bits of faces that all fit
  unfoldable pub weight : List Loop → Weight
  weight fs = cond (all fits fs) (of (length fs) (span f fs)) None

  -- what a weight says of the faces
  pub record Weighed (fs : List Loop) (n b : ℕ) : Type 0 where
    pub fit : all fits fs ≡ true
    pub count_is : n ≡ length fs
    pub span_is : b ≡ span f fs

  -- the list at the start of a room whose later bytes stay
  abbrev pub list_in : List Loop → List ℕ → List ℕ
  list_in fs room = sent_room_for f fs Fine room
