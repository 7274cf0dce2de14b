-- What a face list and a face are that pass 20, part by part.
use mathlib.Core.Path.{◌≡◌}
use mathlib.Core.Bool.{true, not, ◌&&◌}
use mathlib.Core.List.{List}
use Prim.Native.Nat.{ℕ, ◌≤◌, ◌<◌}
use borrow.Author.Tests.{eqb-true, ltb-true, not-true}
use lib.Dec.{eqb, ltb}
use lib.ListN.{length, get_or}
use Rattle.pack.specs.Bits.{field_at}
use Rattle.lists.specs.Lists.{all}
use Rattle.lists.proofs.Truth.{and_left, and_right}
use Rattle.lists.proofs.Passing.{all_yes}
use Rattle.paper.specs.Numbers.{least_faces, least_corners, most_corners}
use Rattle.paper.specs.Format.{edition_bits, outside, bytes_for, fill_after}
use Rattle.paper.specs.FaceList.{count_in, faces_in, bits_of, face_fits, well_shaped}
use Rattle.paper.specs.Loops.{Loop}
use Rattle.paper.specs.declared.Format.{Format}
use Rattle.paper_laws.proofs.Limits.{outside_false}

module _ (f : Format) (v : ℕ) where
  pub record Shaped (s : List ℕ) : Type 0 where
    pub edition : field_at s 0 edition_bits ≡ f.edition
    pub least : least_faces ≤ count_in f s
    pub most : count_in f s ≤ f.most_faces
    pub faces : all (face_fits f v) (faces_in f s) ≡ true
    pub sized : length s ≡ bytes_for (bits_of f (faces_in f s))
    pub filled : fill_after (bits_of f (faces_in f s)) s ≡ 0

  pub shape_yes : (s : List ℕ) → well_shaped f v s ≡ true → Shaped s
  unfolding well_shaped
  shape_yes s h =
      let a = eqb (field_at s 0 edition_bits) f.edition in
      let wrong = outside least_faces f.most_faces (count_in f s) in
      let b = not wrong in
      let c = all (face_fits f v) (faces_in f s) in
      let d = eqb (length s) (bytes_for (bits_of f (faces_in f s))) in
      let e = eqb (fill_after (bits_of f (faces_in f s)) s) 0 in
      let abcd = and_left (a && b && c && d) e h in
      let abc = and_left (a && b && c) d abcd in
      let ab = and_left (a && b) c abc in
      let o = outside_false least_faces f.most_faces (count_in f s) (not-true wrong (and_right a b ab)) in
      record {
        edition = eqb-true _ _ (and_left a b ab);
        least = o.0;
        most = o.1;
        faces = and_right (a && b) c abc;
        sized = eqb-true _ _ (and_right (a && b && c) d abcd);
        filled = eqb-true _ _ (and_right (a && b && c && d) e h);
      }

  pub face_yes : (l : Loop) → face_fits f v l ≡ true
      → (least_corners ≤ length l) × (length l ≤ most_corners) × ((j : ℕ) → j < length l → get_or l j 0 < v)
  unfolding face_fits
  face_yes l h =
      let wrong = outside least_corners most_corners (length l) in
      let a = not wrong in
      let b = all (λ c. ltb c v) l in
      let o = outside_false least_corners most_corners (length l) (not-true wrong (and_left a b h)) in
      (o.0, o.1, λ j k. ltb-true (get_or l j 0) v (all_yes (λ c. ltb c v) 0 l (and_right a b h) j k))
