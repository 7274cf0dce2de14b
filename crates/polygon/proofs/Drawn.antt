-- The ring of a row is the polygon of its loop in the drawing whose vertices the list holds.
use mathlib.Core.Path.{◌≡◌, refl, sym, ◌∙◌, ap}
use mathlib.Core.List.{List, [], ◌∷◌, map}
use Prim.Native.Nat.{ℕ, zero, suc, ◌+◌, ◌*◌, ◌<◌}
use native.Mathlib.Nat.{not-suc-le-zero}
use native.Mathlib.Omega.{arith}
use lib.ListN.{length, get_or, length-map}
use lib.Seq.{ext_get_or}
use lib.IntN.{ℤ, pos}
use Rattle.lists.proofs.Places.{map_at}
use Rattle.paper.specs.Points.{pt, origin}
use Rattle.paper.specs.Drawing.{Wire, points_of, at}
use Rattle.paper.specs.Loops.{polygon}
use Rattle.paper.specs.declared.Point.{Point}
use Rattle.polygon.specs.Rings.{point_of, corner_count, vertex_in, loop_in, ring, Row}
use Rattle.polygon.proofs.Rows.{loop_length, loop_at_lem, ring_length, ring-at}

pub point_of_lem : (l : List ℤ) (v : ℕ) → 3 * v + 2 < length l → get_or (points_of l) v origin ≡ point_of l v
unfolding points_of point_of
point_of_lem [] v h = absurd (not-suc-le-zero h)
point_of_lem (x ∷ []) v h = absurd (bad v h)
  where
    bad : (v : ℕ) → 3 * v + 2 < 1 → ⊥
    bad v h = omega arith
point_of_lem (x ∷ (y ∷ [])) v h = absurd (bad v h)
  where
    bad : (v : ℕ) → 3 * v + 2 < 2 → ⊥
    bad v h = omega arith
point_of_lem (x ∷ (y ∷ (z ∷ l))) zero h = refl
point_of_lem (x ∷ (y ∷ (z ∷ l))) (suc v) h =
    let a : suc (suc (suc (3 * v))) ≡ 3 * suc v = omega arith in
    let b : suc (suc (suc (3 * v + 1))) ≡ 3 * suc v + 1 = omega arith in
    let c : suc (suc (suc (3 * v + 2))) ≡ 3 * suc v + 2 = omega arith in
    point_of_lem l v (omega arith)
    ∙ (λ i. pt (get_or (x ∷ (y ∷ (z ∷ l))) (a i) (pos 0)) (get_or (x ∷ (y ∷ (z ∷ l))) (b i) (pos 0)) (get_or (x ∷ (y ∷ (z ∷ l))) (c i) (pos 0)))

pub polygon_is : (d : Wire) {l : List ℤ} {t : List ℕ} {r : ℕ} → Row l t r → d.vertices ≡ points_of l → polygon d (loop_in t r) ≡ ring l t r
unfolding polygon at
polygon_is d {l} {t} {r} w e =
    ext_get_or origin (map (at d) (loop_in t r)) (ring l t r) (length-map (loop_in t r) (at d) ∙ loop_length w ∙ sym (ring_length w))
    (λ k h.
    let n : k < corner_count t r = omega (arith, length-map (loop_in t r) (at d), loop_length w) in
    map_at (at d) (loop_in t r) k 0 origin (omega (arith, length-map (loop_in t r) (at d)))
    ∙ ap (at d) (loop_at_lem w k n)
    ∙ ap (λ (vs : List Point). get_or vs (vertex_in t r k) origin) e
    ∙ point_of_lem l (vertex_in t r k) (w.known k n)
    ∙ sym (ring-at w k n))
