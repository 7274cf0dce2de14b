-- The sets of sorted vertices are the masks of a candidate's plane, and rules A and B are asked of them.
use mathlib.Core.Bool.{Bool}
use mathlib.Core.Path.{◌≡◌, ap, subst, ◌∙◌}
use mathlib.Core.List.{List, map}
use Prim.Native.Nat.{ℕ, ◌/◌, ◌<◌}
use native.Mathlib.Omega.{arith}
use lib.IntN.{ℤ}
use lib.ListN.{length}
use Rattle.lists.specs.Lists.{upto}
use Rattle.lists.proofs.Agreeing.{map_same}
use Rattle.sets.specs.Word.{either}
use Rattle.sets.specs.Kinds.{Joint, Minus, SetAt}
use Rattle.sets.specs.Sets.{Is, one_word}
use Rattle.sets.specs.declared.Set.{Set}
use Rattle.sets.proofs.Laws as Laws
use Rattle.paper.specs.Points.{is_zero, above, below}
use Rattle.paper.specs.Polygon.{plane_side}
use Rattle.paper.specs.Drawing.{at}
use Rattle.paper.specs.Loops.{polygon}
use Rattle.paper.specs.declared.Point.{Point}
use Rattle.polygon.specs.Rings.{ring, point_of, corner_of}
use Rattle.polygon.proofs.Planes.{face-normal, side_is}
use Rattle.polygon.proofs.Rows.{corner-near}
use Rattle.fast_tables.specs.Asked.{loop_plane}
use Rattle.fast_tables.specs.Words.{above_mask, below_mask, hit_mask}
use Rattle.loop_table.proofs.Loops.{vertices_are}
use Rattle.walk_clashes.specs.declared.hits.Sides.{Sides}
use Rattle.walk_clashes.specs.Sorted.{side_at, Plane, Upto, Sorted}
use Rattle.walk_clashes.specs.Lent.{KnownFace, PierceLent, Through, EnterLent, Inside, HitLent, Hits, wire_of, known_loop}
use Rattle.walk_clashes.proofs.Sorting.{upto_all}
use Rattle.walk_clashes.proofs.Crossed.{face_of_lem, polygon_of, at-is}

module _ {xyz : List ℤ} {rows : List ℕ} {g : ℕ} {m : Point} (k : KnownFace xyz rows g m) {o : Point} (o_is : o ≡ corner_of (ring xyz rows g) 0) where
  count_is : length xyz / 3 ≡ length (wire_of k).vertices
  count_is = omega (arith, vertices_are k.faces.range, k.faces.range.points.whole)

  -- a vertex is as far from the plane as the definition says
  far_is : (v : ℕ) → v < length (wire_of k).vertices → side_at xyz m o v ≡ plane_side (polygon (wire_of k) (known_loop k)) (at (wire_of k) v)
  far_is v h = side_is (face_of_lem k) o_is (point_of xyz v) ∙ (λ i. plane_side (polygon_of k i) (at-is k v h i))

  mask_is : (test : ℤ → Bool) {x : Set} → Upto (λ u. test (side_at xyz m o u)) (length xyz / 3) x
      → Is x (map (λ v. test (plane_side (polygon (wire_of k) (known_loop k)) (at (wire_of k) v))) (upto (length (wire_of k).vertices)))
  mask_is test {x} u =
      let n = length (wire_of k).vertices in
      let all = upto_all (λ v. test (side_at xyz m o v)) n (omega (arith, vertices_are k.faces.range, k.faces.range.most))
      (subst (λ (i : ℕ). Upto (λ v. test (side_at xyz m o v)) i x) count_is u) in
      subst (Is x)
      (map_same (λ v. test (side_at xyz m o v)) (λ v. test (plane_side (polygon (wire_of k) (known_loop k)) (at (wire_of k) v))) n
      (λ v h. ap test (far_is v h)))
      all

  pub above_is : {x : Set} → Upto (λ u. above (side_at xyz m o u)) (length xyz / 3) x → Is x (above_mask (wire_of k) (known_loop k))
  unfolding above_mask
  above_is u = mask_is above u

  pub below_is : {x : Set} → Upto (λ u. below (side_at xyz m o u)) (length xyz / 3) x → Is x (below_mask (wire_of k) (known_loop k))
  unfolding below_mask
  below_is u = mask_is below u

  pub flat_is : {x : Set} → Upto (λ u. is_zero (side_at xyz m o u)) (length xyz / 3) x → Is x (loop_plane (wire_of k) (known_loop k))
  unfolding loop_plane
  flat_is u = mask_is is_zero u

-- ---- candidate g of all, with its normal and its first corner
module _ {xyz : List ℤ} {rows near number on corner-words corners : List ℕ} {normals : List ℤ} {g : ℕ}
    (w : HitLent xyz rows near number on corner-words corners normals g) {m : Point} (m_is : m ≡ point_of normals g) where
  pub hit_face : KnownFace xyz rows g m
  hit_face = record { n = w.n; faces = w.all.faces; there = w.there; across = m_is ∙ w.all.normals_are.each g w.there }

  module _ {o : Point} (o_is : o ≡ corner_of (ring xyz rows g) 0) where
    pub hit_plane : Plane xyz m o
    hit_plane =
        let f = face_of_lem hit_face in
        record {
          near = f.row.near;
          few = omega (arith, w.all.faces.range.points.whole, w.all.faces.range.most);
          m_in = face-normal f;
          o_in = corner-near f.row 0 o_is;
        }

    module _ {s : Sides} (t : Sorted xyz m o (length xyz / 3) s) where
      pub hit_pierce : PierceLent xyz rows near number on g m s
      unfolding hit_face
      hit_pierce = record {
        lent = record { known = hit_face; numbered = w.all.numbered; on_are = w.all.on_are };
        near_are = w.all.near_are;
        above_is = above_is hit_face o_is t.above_in;
        below_is = below_is hit_face o_is t.below_in;
      }

      module _ {own asked : Set} (e : SetAt one_word corners g own) (j : Minus one_word s.flat own asked) where
        pub hit_enter : EnterLent xyz rows corner-words g m asked
        unfolding hit_face
        hit_enter = record {
          lent = record { known = hit_face; at_are = w.all.at_are };
          asked_is = j.same _ _ (flat_is hit_face o_is t.flat_in) (Laws.at-is e _ (w.all.own_are g w.there));
        }

        pub hit_both : {through inner r : Set} → ((p : PierceLent xyz rows near number on g m s) → Through p through)
            → ((p : EnterLent xyz rows corner-words g m asked) → Inside p inner) → Joint one_word through inner r either → Hits w r
        unfolding hit_mask hit_face hit_pierce hit_enter
        hit_both a b both = both _ _ (a hit_pierce) (b hit_enter)
