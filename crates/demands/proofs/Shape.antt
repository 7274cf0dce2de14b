-- The shape of a face list: 20 is asked just where it is no good shape, and likewise of faces that are to be sent.
use mathlib.Core.Path.{◌≡◌, sym, ap, subst}
use mathlib.Core.Bool.{not, ◌||◌}
use mathlib.Core.List.{List, []}
use Prim.Native.Nat.{ℕ, ◌<◌}
use borrow.Author.Tests.{eq-eqb, lt-ltb}
use lib.Dec.{ltb}
use lib.ListN.{length, get_or}
use Rattle.lists.specs.Lists.{all}
use Rattle.lists.proofs.Passing.{all_yes, all_is}
use Rattle.lists.proofs.Truth.{and_both}
use Rattle.pack.specs.Bits.{field_at}
use Rattle.paper.specs.Numbers.{least_faces}
use Rattle.paper.specs.Format.{edition_one, outside, bytes_for, fill_after}
use Rattle.paper.specs.Loops.{Loop, loop_at}
use Rattle.paper.specs.FaceList.{count_in, faces_in, bits_of, face_fits, well_shaped}
use Rattle.paper_laws.proofs.Limits.{not_outside}
use Rattle.faces_laws.proofs.Shape.{shape_yes, face_yes}
use Rattle.demands.specs.Shells.{Corners, Shape, NoList}
use Rattle.paper_laws.proofs.Tests.{Is, is_lt, is_or, is_not}
use Rattle.paper.specs.declared.Format.{Format}

is_corners : (v : ℕ) (l : Loop) → Is (face_fits edition_one v l) (Corners v l)
unfolding face_fits
is_corners v l = (
  face_yes edition_one v l,
  λ h. and_both (ap not (not_outside 3 12 (length l) h.0 h.1)) (all_is (λ c. ltb c v) 0 l (λ j k. lt-ltb (get_or l j 0) v (h.2 j k))),
)

is_all : (v : ℕ) (fs : List Loop) → Is (all (face_fits edition_one v) fs) ((i : ℕ) → i < length fs → Corners v (loop_at fs i))
is_all v fs = (
  λ e i h. (is_corners v (loop_at fs i)).0 (all_yes (face_fits edition_one v) [] fs e i h),
  λ f. all_is (face_fits edition_one v) [] fs (λ i h. (is_corners v (loop_at fs i)).1 (f i h)),
)

shape_one : (v : ℕ) (list : List ℕ) → Is (well_shaped edition_one v list) (Shape edition_one v list)
unfolding well_shaped
shape_one v list = (
  λ e.
      let s = shape_yes edition_one v list e in
      record {
        edition = s.edition;
        count = (s.least, s.most);
        corners = (is_all v (faces_in edition_one list)).0 s.faces;
        size = s.sized;
        fill = s.filled;
      },
  λ s.
      and_both
      (and_both
      (and_both
      (and_both (eq-eqb (field_at list 0 4) 1 s.edition)
      (ap not (not_outside 4 42 (count_in edition_one list) s.count.0 s.count.1)))
      ((is_all v (faces_in edition_one list)).1 s.corners))
      (eq-eqb (length list) (bytes_for (bits_of edition_one (faces_in edition_one list))) s.size))
      (eq-eqb (fill_after (bits_of edition_one (faces_in edition_one list)) list) 0 s.fill),
)

-- in any edition that is edition 1
pub is_shape : {f : Format} → f ≡ edition_one → (v : ℕ) (list : List ℕ) → Is (well_shaped f v list) (Shape f v list)
is_shape e v list = subst (λ (f : Format). Is (well_shaped f v list) (Shape f v list)) (sym e) (shape_one v list)

no_list_one : (fs : List Loop) → Is (outside 4 42 (length fs) || not (all (face_fits edition_one 32) fs)) (NoList fs)
no_list_one fs =
    is_or (outside 4 42 (length fs)) (not (all (face_fits edition_one 32) fs))
    (is_or (ltb (length fs) 4) (ltb 42 (length fs)) (is_lt (length fs) 4) (is_lt 42 (length fs)))
    (is_not (all (face_fits edition_one 32) fs) (is_all 32 fs))

pub is_no_list : {f : Format} → f ≡ edition_one → (fs : List Loop)
    → Is (outside least_faces f.most_faces (length fs) || not (all (face_fits f f.most_vertices) fs)) (NoList fs)
is_no_list e fs =
    subst (λ (f : Format). Is (outside least_faces f.most_faces (length fs) || not (all (face_fits f f.most_vertices) fs)) (NoList fs))
    (sym e) (no_list_one fs)
