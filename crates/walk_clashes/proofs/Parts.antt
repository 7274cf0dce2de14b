-- A candidate's normal and its part of six volumes, the product of a corner and the normal; the two columns of them.
use mathlib.Core.Path.{◌≡◌, refl, sym, ap, subst, ◌∙◌}
use mathlib.Core.Bool.{Bool, true, false}
use mathlib.Core.List.{List, [], map}
use Prim.Native.Nat.{ℕ, ◌+◌, ◌*◌, ◌<◌, ◌≤◌}
use native.Mathlib.Omega.{arith}
use borrow.Author.Tests.{ltb-true, ltb-false}
use lib.Dec.{ltb}
use lib.IntN.{ℤ, pos}
use lib.ListN.{length, get_or, set, length-map, length-set, get_or-eq_default}
use lib.Seq.{get_or-set_same, get_or-set_other}
use native.Mathlib.Decide.{ℕ_discrete}
use mir.Syntax.{w64}
use mir.Val.{of_z, to_z}
use Rattle.paper.specs.Numbers.{most_candidates}
use Rattle.exact.specs.Size.{Within}
use Rattle.exact.proofs.Machine.{◌▸◌, done, reads}
use Rattle.exact.proofs.Ring.{var}
use Rattle.exact.proofs.Size.{within_lit, within_up}
use Rattle.lists.proofs.Places.{map_at}
use Rattle.paper.specs.Points.{dot}
use Rattle.paper.specs.Polygon.{normal}
use Rattle.paper.specs.Loops.{polygon}
use Rattle.paper.specs.Solids.{face_six, tables_of}
use Rattle.paper.specs.declared.Point.{Point}
use Rattle.polygon.specs.Rings.{ring, point_of, corner_of, FaceRow}
use Rattle.polygon.proofs.Rows.{corner_small, ring_least}
use Rattle.polygon.proofs.Planes.{face-normal, first-is}
use Rattle.polygon.proofs.Sizes.{dot_small}
use Rattle.paper_laws.proofs.Six.{six_normal}
use Rattle.walk_tables.specs.Words.{most_part}
use Rattle.walk_clashes.specs.Faces.{DrawnFaces, drawing_of, PointPut, PartsOf}
use Rattle.walk_clashes.proofs.Rows.{face-at, polygon-at}

module _ {xyz : List ℤ} {rows : List ℕ} {k : ℕ} {m : Point} (f : FaceRow xyz rows k m) where
  pub part_is : {o : Point} → o ≡ corner_of (ring xyz rows k) 0 → dot o m ≡ face_six (ring xyz rows k)
  part_is e =
      let g = ring xyz rows k in
      (λ i. dot ((e ∙ first-is g (omega (arith, ring_least f.row))) i) (f.across i)) ∙ sym (six_normal g)

  pub part_small : Within most_part (face_six (ring xyz rows k))
  part_small =
      subst (Within most_part) (part_is (λ i. corner_of (ring xyz rows k) 0)) (within_up tt (dot_small (corner_small f.row 0) (face-normal f)))

-- a number of that size is kept by the machine
pub kept : {z : ℤ} → Within most_part z → to_z w64 (of_z w64 z) ≡ z
kept h = reads (h ▸ done) (var 0) tt

-- ---- the column

module _ {xyz : List ℤ} {rows : List ℕ} {n : ℕ} (w : DrawnFaces xyz rows n) where
  -- those of the first k candidates, and their normals
  pub record Parts (normals sixes₀ sixes : List ℤ) (k : ℕ) : Type 0 where
    pub not_past : k ≤ n
    pub normal_room : length normals ≡ 3 * most_candidates
    pub six_room : length sixes ≡ most_candidates
    pub across : (i : ℕ) → i < k → point_of normals i ≡ normal (ring xyz rows i)
    pub each : (i : ℕ) → i < k → get_or sixes i (pos 0) ≡ face_six (ring xyz rows i)
    pub later : (i : ℕ) → k ≤ i → get_or sixes i (pos 0) ≡ get_or sixes₀ i (pos 0)

  pub parts_none : (normals sixes : List ℤ) → length normals ≡ 3 * most_candidates → length sixes ≡ most_candidates → Parts normals sixes sixes 0
  parts_none normals sixes e q = record {
    not_past = omega arith;
    normal_room = e;
    six_room = q;
    across = λ i h. absurd (omega arith);
    each = λ i h. absurd (omega arith);
    later = λ i h. refl;
  }

  pub parts_more : (normals after sixes₀ sixes : List ℤ) (k : ℕ) (m : Point) (z : ℤ) → k < n → m ≡ normal (ring xyz rows k)
      → PointPut k m normals after → z ≡ face_six (ring xyz rows k) → Parts normals sixes₀ sixes k
      → Parts after sixes₀ (set sixes k z) (k + 1)
  parts_more normals after sixes₀ sixes k m z h e put q p =
      record {
        not_past = omega arith;
        normal_room = put.long ∙ p.normal_room;
        six_room = length-set sixes k z ∙ p.six_room;
        across = λ i l. point i l (ℕ_discrete i k);
        each = λ i l. go i l (ℕ_discrete i k);
        later = λ i l. get_or-set_other sixes k i z (pos 0) (λ r. omega arith) ∙ p.later i (omega arith);
      }
    where
      point : (i : ℕ) → i < k + 1 → Dec (i ≡ k) → point_of after i ≡ normal (ring xyz rows i)
      point i l (yes r) = ap (point_of after) r ∙ put.here ∙ e ∙ ap (λ (j : ℕ). normal (ring xyz rows j)) (sym r)
      point i l (no r) = put.others i r ∙ p.across i (omega arith)

      go : (i : ℕ) → i < k + 1 → Dec (i ≡ k) → get_or (set sixes k z) i (pos 0) ≡ face_six (ring xyz rows i)
      go i l (yes r) =
          ap (λ (j : ℕ). get_or (set sixes k z) j (pos 0)) r ∙ get_or-set_same sixes k z (pos 0) (omega (arith, p.six_room, w.most)) ∙ q
          ∙ ap (λ (j : ℕ). face_six (ring xyz rows j)) (sym r)
      go i l (no r) = get_or-set_other sixes k i z (pos 0) r ∙ p.each i (omega arith)

  pub parts_all : (normals sixes₀ sixes : List ℤ) → Parts normals sixes₀ sixes n → PartsOf w normals sixes₀ sixes
  unfolding tables_of
  parts_all normals sixes₀ sixes p =
      record {
        normals_are = record { whole = p.normal_room; each = p.across };
        sixes_are =
            record {
              few = omega (arith, long, w.count, w.most);
              at = λ i h. let l : i < n = omega (arith, h, long, w.count) in p.each i l ∙ sym (entry i l);
              small = λ i. small i (ltb i n) refl;
            };
        later = p.later;
      }
    where
      zs : List ℤ
      zs = map face_six (map (polygon (drawing_of w)) w.loops)

      long : length zs ≡ length w.loops
      long = length-map (map (polygon (drawing_of w)) w.loops) face_six ∙ length-map w.loops (polygon (drawing_of w))

      entry : (i : ℕ) → i < n → get_or zs i (pos 0) ≡ face_six (ring xyz rows i)
      entry i h =
          map_at face_six (map (polygon (drawing_of w)) w.loops) i [] (pos 0)
          (omega (arith, h, w.count, length-map w.loops (polygon (drawing_of w))))
          ∙ ap face_six (map_at (polygon (drawing_of w)) w.loops i [] [] (omega (arith, h, w.count)) ∙ sym (polygon-at w i h))

      small : (i : ℕ) (b : Bool) → ltb i n ≡ b → Within most_part (get_or zs i (pos 0))
      small i true t = let h = ltb-true i n t in subst (Within most_part) (sym (entry i h)) (part_small (face-at w i h refl))
      small i false t =
          let h = ltb-false i n t in
          subst (Within most_part) (sym (get_or-eq_default zs (pos 0) (omega (arith, h, long, w.count)))) (within_lit tt)
