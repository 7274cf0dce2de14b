-- The vertices that the search keeps with a loop are those in its plane.
use mathlib.Core.Bool.{true, false}
use mathlib.Core.List.{List, []}
use mathlib.Core.Path.{◌≡◌, ap, ◌∙◌}
use Prim.Native.Nat.{ℕ, ◌≤◌, ◌<◌}
use native.Mathlib.Omega.{arith}
use lib.ListN.{length, get_or, get_or-eq_default}
use Rattle.paper_laws.proofs.Points.{zero_yes, dot-less, zero_is, dot_even}
use Rattle.lists.proofs.Places.{map_at}
use Rattle.sets.specs.Word.{dig}
use Rattle.paper.specs.Points.{minus, dot, is_zero}
use Rattle.paper.specs.Drawing.{Wire, at}
use Rattle.paper.specs.Loops.{Loop, loop_at, across, loops}
use Rattle.paper.specs.declared.Point.{Point}
use Rattle.fast_search.specs.Search.{InItsPlane, on_plane, plane_of, in_its_plane, fast_search}
use Rattle.fast_search.proofs.Phases.{plane_at, plane_length}
use Rattle.fast_search.proofs.Search.{search_is}

module _ (d : Wire) where
  pub plane_digit : (l : Loop) (w : ℕ) → w < length d.vertices
      → dig (plane_of d l) w ≡ is_zero (dot (across d l) (minus (at d w) (at d (get_or l 0 0))))
  unfolding plane_of on_plane
  plane_digit l w h = plane_at d (at d (get_or l 0 0)) (across d l) w h

  pub plane_past : (l : Loop) (w : ℕ) → length d.vertices ≤ w → dig (plane_of d l) w ≡ false
  unfolding plane_of
  plane_past l w h = get_or-eq_default (plane_of d l) false (omega (arith, plane_length d (at d (get_or l 0 0)) (across d l)))

  -- the loop of number i, and the vertices in its plane
  pub search-at : (i : ℕ) → i < length (loops d) → get_or (fast_search d) i (in_its_plane d []) ≡ in_its_plane d (loop_at (loops d) i)
  search-at i h =
      ap (λ (l : List InItsPlane). get_or l i (in_its_plane d [])) (search_is d) ∙ map_at (in_its_plane d) (loops d) i [] (in_its_plane d []) h

  -- in the plane: at the offset of s
  pub inside_offset : (s m : Point) (w : ℕ) → on_plane d s m w ≡ true → dot m (at d w) ≡ dot m s
  unfolding on_plane
  inside_offset s m w e = dot-less m (at d w) s (zero_yes (dot m (minus (at d w) s)) e)

  pub offset_inside : (s m : Point) (w : ℕ) → dot m (at d w) ≡ dot m s → on_plane d s m w ≡ true
  unfolding on_plane
  offset_inside s m w e = zero_is (dot_even m (at d w) s e)
