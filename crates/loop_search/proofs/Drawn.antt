-- The lists as the drawing that they are of: the code's points and planes are the search's.
use mathlib.Core.List.{List, map}
use mathlib.Core.Path.{◌≡◌, sym, ap, ◌∙◌}
use Prim.Native.Nat.{ℕ, ◌+◌, ◌*◌, ◌≤◌, ◌<◌}
use native.Mathlib.Omega.{arith}
use native.Mathlib.Decide.{dec_lt}
use lib.IntN.{ℤ, pos}
use lib.ListN.{length, get_or, take, get_or-eq_default}
use Rattle.lists.specs.Lists.{upto}
use Rattle.paper.specs.Points.{pt, origin, minus, dot, cross, is_zero}
use Rattle.paper.specs.Drawing.{Wire, at, points_of}
use Rattle.paper.specs.declared.Point.{Point}
use Rattle.paper_laws.specs.InRange.{Points}
use Rattle.paper_laws.proofs.Wires.{length_points}
use Rattle.polygon.specs.Rings.{point_of}
use Rattle.polygon.proofs.Drawn.{point_of_lem}
use Rattle.fast_search.specs.Search.{on_plane, plane_mask, across_line}
use Rattle.fast_search.proofs.Turns.{path_at}
use Rattle.loop_search.specs.Lines.{turn_in, in_fixed}

module _ {xyz : List ℤ} {v : ℕ} (p : Points xyz v) (d : Wire) (e : d.vertices ≡ points_of xyz) where
  pub vertices_length : length d.vertices ≡ v
  vertices_length = omega (arith, ap length e, length_points xyz, p.whole)

  -- of every number: past the last vertex both are the origin
  pub point_at_is : (w : ℕ) → point_of xyz w ≡ at d w
  unfolding at point_of
  point_at_is w = go (dec_lt w v)
    where
      past : v ≤ w → point_of xyz w ≡ origin
      past h =
          let x : get_or xyz (3 * w) (pos 0) ≡ pos 0 = get_or-eq_default xyz (pos 0) (omega (arith, p.whole)) in
          let y : get_or xyz (3 * w + 1) (pos 0) ≡ pos 0 = get_or-eq_default xyz (pos 0) (omega (arith, p.whole)) in
          let z : get_or xyz (3 * w + 2) (pos 0) ≡ pos 0 = get_or-eq_default xyz (pos 0) (omega (arith, p.whole)) in
          λ i. pt (x i) (y i) (z i)

      go : Dec (w < v) → point_of xyz w ≡ get_or d.vertices w origin
      go (yes h) = sym (ap (λ (l : List Point). get_or l w origin) e ∙ point_of_lem xyz w (omega (arith, p.whole)))
      go (no h) = past (omega (arith, h)) ∙ sym (get_or-eq_default d.vertices origin (omega (arith, h, vertices_length)))

  -- the path has two vertices or more
  module _ (path : List ℕ) (len : ℕ) (two : 2 ≤ len) (w : ℕ) where
    pub turn_is : turn_in xyz path w ≡ across_line d (take len path) w
    unfolding across_line
    turn_is =
        let first : get_or path 0 0 ≡ get_or (take len path) 0 0 = sym (path_at path len 0 (omega arith)) in
        let second : get_or path 1 0 ≡ get_or (take len path) 1 0 = sym (path_at path len 1 (omega arith)) in
        (λ i. cross (minus (point_at_is (second i) i) (point_at_is (first i) i)) (minus (point_at_is w i) (point_at_is (first i) i)))

    pub in_fixed_lem : in_fixed xyz path w ≡ on_plane d (at d (get_or (take len path) 0 0)) (across_line d (take len path) w)
    unfolding on_plane
    in_fixed_lem =
        let first : get_or path 0 0 ≡ get_or (take len path) 0 0 = sym (path_at path len 0 (omega arith)) in
        λ i u. is_zero (dot (turn_is i) (minus (point_at_is u i) (point_at_is (first i) i)))

    pub fixed_mask : map (in_fixed xyz path w) (upto v) ≡ plane_mask d (at d (get_or (take len path) 0 0)) (across_line d (take len path) w)
    unfolding plane_mask
    fixed_mask = λ i. map (in_fixed_lem i) (upto (sym vertices_length i))
