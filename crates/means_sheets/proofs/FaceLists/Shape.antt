-- Faces that a list can hold are those that pass 20.
use mathlib.Core.Path.{◌≡◌, refl, ap}
use mathlib.Core.Bool.{Bool, true, false, not}
use mathlib.Core.List.{List, [], ◌∷◌}
use Prim.Native.Nat.{ℕ, ◌≤◌, ◌<◌, ◌^◌}
use native.Mathlib.Nat.{lt_of_lt_of_le}
use native.Mathlib.Omega.{arith}
use borrow.Author.Tests.{eq-eqb, ltb-true, ltb-false, lt-ltb}
use lib.Dec.{ltb}
use lib.Pow.{pow_pos}
use lib.ListN.{length, get_or, get_or-eq_default}
use Rattle.lists.specs.Lists.{all}
use Rattle.lists.proofs.Truth.{and_left, and_right, and_both}
use Rattle.lists.proofs.Passing.{all_yes, all_is}
use Rattle.paper.specs.FaceList.{count_in, face_fits, well_shaped}
use Rattle.paper.specs.Loops.{Loop}
use Rattle.paper.specs.declared.Format.{Format}
use Rattle.paper_laws.proofs.Limits.{not_outside}
use Rattle.faces_laws.proofs.Shape.{Shaped, face_yes}
use Rattle.means_sheets.specs.FaceLists.{Sendable}
use Rattle.means_sheets.proofs.FaceLists.Packed.{Fit}

module _ (f : Format) (v : ℕ) where
  -- ---- the list

  pub shape_is : (s : List ℕ) → Shaped f v s → well_shaped f v s ≡ true
  unfolding well_shaped
  shape_is s g =
      and_both
      (and_both
      (and_both (and_both (eq-eqb _ _ g.edition) (ap not (not_outside 4 f.most_faces (count_in f s) g.least g.most)))
      g.faces) (eq-eqb _ _ g.sized))
      (eq-eqb _ _ g.filled)

  -- ---- a face

  face_is : (l : Loop) → 3 ≤ length l → length l ≤ 12 → ((j : ℕ) → j < length l → get_or l j 0 < v) → face_fits f v l ≡ true
  unfolding face_fits
  face_is l a b h = and_both (ap not (not_outside 3 12 (length l) a b)) (all_is (λ c. ltb c v) 0 l (λ j k. lt-ltb (get_or l j 0) v (h j k)))

  -- ---- the faces

  pub sendable_fits : (fs : List Loop) → Sendable f v fs → all (face_fits f v) fs ≡ true
  sendable_fits fs g = all_is (face_fits f v) [] fs (λ i l. face_is (get_or fs i []) (g.few i l) (g.many i l) (λ j m. g.numbers i j l m))

  pub sendable_is : (fs : List Loop) → 4 ≤ length fs → length fs ≤ f.most_faces → all (face_fits f v) fs ≡ true → Sendable f v fs
  sendable_is fs a b h =
      let each : (i : ℕ) → i < length fs → (3 ≤ length (get_or fs i [])) × (length (get_or fs i []) ≤ 12)
      × ((j : ℕ) → j < length (get_or fs i []) → get_or (get_or fs i []) j 0 < v) =
      λ i l. face_yes f v (get_or fs i []) (all_yes (face_fits f v) [] fs h i l) in
      record { least = a; most = b; few = λ i l. (each i l).0; many = λ i l. (each i l).1; numbers = λ i j l m. (each i l).2 j m }

  -- they fit their fields
  pub fit : v ≤ 2 ^ f.vertex_number_bits → (fs : List Loop) → all (face_fits f v) fs ≡ true → Fit f fs
  unfolding all
  fit w [] h = tt
  fit w (l ∷ fs) h =
      let q = face_yes f v l (and_left (face_fits f v l) (all (face_fits f v) fs) h) in (
        omega (arith, q.1),
        (λ j. under j (ltb j (length l)) refl q.2),
        fit w fs
            (and_right (face_fits f v l) (all (face_fits f v) fs) h),
      )
    where
      under : (j : ℕ) (t : Bool) → ltb j (length l) ≡ t → ((j : ℕ) → j < length l → get_or l j 0 < v)
          → get_or l j 0 < 2 ^ f.vertex_number_bits
      under j true t q = lt_of_lt_of_le (q j (ltb-true j (length l) t)) w
      under j false t q = rw (get_or-eq_default l 0 (ltb-false j (length l) t)) (pow_pos f.vertex_number_bits)
