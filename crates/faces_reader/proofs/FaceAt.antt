-- The face at a bit of a packed list, test by test.
use mathlib.Core.Path.{◌≡◌, refl}
use mathlib.Core.Bool.{Bool, true, false, ◌&&◌, not, cond}
use mathlib.Core.Option.{none, some}
use mathlib.Core.List.{List}
use Prim.Native.Nat.{ℕ, ◌+◌, ◌*◌, ◌≤◌, ◌<◌}
use borrow.Author.Tests.{le-leb, lt-leb}
use lib.Dec.{ltb, leb}
use lib.ListN.{length}
use Rattle.pack.specs.Bits.{field_at}
use Rattle.pack.proofs.Laws.{length_fields}
use Rattle.lists.specs.Lists.{all}
use Rattle.paper.specs.Numbers.{least_corners, most_corners}
use Rattle.paper.specs.Format.{corner_bits, outside}
use Rattle.paper.specs.FaceList.{face_fits}
use Rattle.paper.specs.declared.Format.{Format}
use Rattle.faces_reader.specs.Face.{face_end, corners_in, face_at}

module _ (f : Format) (v : ℕ) (s : List ℕ) (p : ℕ) where
  -- its corner count, that it is none of a face, that its corners are vertices, and where it ends
  abbrev corners : ℕ
  corners = field_at s p corner_bits

  abbrev miscounted : Bool
  miscounted = outside least_corners most_corners corners

  abbrev low : Bool
  low = all (λ x. ltb x v) (corners_in f s p corners)

  abbrev end : ℕ
  end = face_end f p corners

  tests : cond (leb end (length s * 8) && (not miscounted && low)) (some corners) none ≡ face_at f v s p
  unfolding face_at face_fits
  tests = rw (length_fields s (p + corner_bits) f.vertex_number_bits corners) refl

  -- too few bits
  pub no_bits : length s * 8 < end → none ≡ face_at f v s p
  no_bits h = rw (lt-leb end (length s * 8) h) at tests

  module _ (h : end ≤ length s * 8) where
    fits : cond (not miscounted && low) (some corners) none ≡ face_at f v s p
    fits = rw (le-leb end (length s * 8) h) at tests

    -- a corner that is no vertex; all are
    pub no_vertex : miscounted ≡ false → low ≡ false → none ≡ face_at f v s p
    no_vertex o e = rw (o, e) at fits

    pub a_face : miscounted ≡ false → low ≡ true → some corners ≡ face_at f v s p
    a_face o e = rw (o, e) at fits

  -- too few or too many corners
  pub no_count : miscounted ≡ true → none ≡ face_at f v s p
  no_count o = go (leb end (length s * 8)) (rw o at tests)
    where
      go : (b : Bool) → cond (b && false) (some corners) none ≡ face_at f v s p → none ≡ face_at f v s p
      go true e = e
      go false e = e
