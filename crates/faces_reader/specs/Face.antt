-- One face of a packed list, by the bit at which it starts, and what comes before and behind the faces.
use Rattle.std.specs.Prelude.{Bool, ◌&&◌, not, cond, List, ℕ, ◌+◌, ◌*◌, ◌≤◌, leb, eqb, length}
use Rattle.std.proofs.Math.Option.{Option, none, some}
use Rattle.pack.specs.Bits.{field_at, fields_at}
use Rattle.paper.specs.Numbers.{least_faces, most_faces}
use Rattle.paper.specs.Format.{edition_bits, corner_bits, outside, bytes_for, fill_after}
use Rattle.paper.specs.FaceList.{count_in, face_fits}
use Rattle.paper.specs.declared.Format.{Format}
use Rattle.sheet_shape.specs.Narrow.{Narrow}

-- so that a face list by value has room for what a list holds
pub record Brief (f : Format) : Type 0 where
  pub slender : Narrow f
  pub f_held : f.most_faces ≤ most_faces
  pub face_count_wide : 5 ≤ f.face_count_bits

module _ (f : Format) where
  -- edition and count are right, and the list has bits for them
  abbrev pub begins : List ℕ → Bool
  begins s = leb 2 (length s) && eqb (field_at s 0 edition_bits) f.edition && not (outside least_faces f.most_faces (count_in f s))

  -- the face count, if the list begins so
  unfoldable pub count_of : List ℕ → Option ℕ
  count_of s = cond (begins s) (some (count_in f s)) none

  -- the bit behind a face of c corners that starts at bit p, and these corners
  abbrev pub face_end : ℕ → ℕ → ℕ
  face_end p c = p + corner_bits + f.vertex_number_bits * c

  abbrev pub corners_in : List ℕ → ℕ → ℕ → List ℕ
  corners_in s p c = fields_at s (p + corner_bits) f.vertex_number_bits c

  -- the corner count of the face at bit p, if it fits a drawing of v vertices and the list has its bits
  unfoldable pub face_at : ℕ → List ℕ → ℕ → Option ℕ
  face_at v s p =
      let c = field_at s p corner_bits in
      cond (leb (face_end p c) (length s * 8) && face_fits f v (corners_in s p c)) (some c) none

-- the list ends with the fill of p bits
unfoldable pub closes_at : List ℕ → ℕ → Bool
closes_at s p = eqb (length s) (bytes_for p) && eqb (fill_after p s) 0
