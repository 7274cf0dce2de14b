-- In the flat, the two coordinates exchanged: a point lies where it did.
-- The ray to the east becomes the one to the north, which is the one to the south in a mirror; and every ray tells the same.
use mathlib.Core.Path.{◌≡◌, sym, ap, ◌∙◌}
use mathlib.Core.Bool.{◌&&◌, and_comm}
use mathlib.Core.List.{List, [], ◌∷◌, map, map-map}
use lib.IntN.{ℤ, pos, neg_ℤ, ◌-ℤ◌, ◌*ℤ◌}
use lib.Signed.{le_z}
use Rattle.exact.proofs.Ring.{var, con, ◌⊕◌, ◌⊖◌, ◌⊗◌, neg, ring}
use Rattle.lists.specs.Lists.{sides, odd_true}
use Rattle.paper.specs.Points.{is_zero}
use Rattle.paper.specs.Polygon as Polygon
use Rattle.paper.specs.Polygon.{flat, spans, between, touches, meets_ray, where_flat}
use Rattle.paper.specs.declared.Flat.{Flat}
use Rattle.means_area.specs.Flats.{Up, twice_area}
use Rattle.means_area.proofs.Flats.Signs.{up_is}
use Rattle.means_inside.specs.Beams.{round, beam, right, facing, east, odd}
use Rattle.means_inside.specs.Convex.{rights}
use Rattle.means_inside.specs.Means.{big}
use Rattle.means_inside.proofs.Mirror as Ray
use Rattle.means_inside.proofs.Scale.{odd_is, any-clear}
use Rattle.means_inside.proofs.Triangle.{by_ray}
use Rattle.means_moves.proofs.Numbers.{zero_neg}
use Rattle.means_inside.proofs.Place.{where_moved}
use Rattle.means_moves.proofs.Corners.{round-sides}

abbrev pub swap : Flat → Flat
swap a = flat a.v a.u

abbrev south : Flat → Flat
south p = flat p.u (p.v -ℤ pos 1)

south_up : (p : Flat) → Up (facing p (south p) (south p))
unfolding facing
south_up p =
    up_is
    (ring (p.u ∷ p.v ∷ []) (con (pos 1))
    ((var 0 ⊖ var 0) ⊗ (var 0 ⊖ var 0) ⊕ (var 1 ⊖ con (pos 1) ⊖ var 1) ⊗ (var 1 ⊖ con (pos 1) ⊖ var 1)) tt) (record { lt = tt })

other : (a b c d : ℤ) → a *ℤ b -ℤ c *ℤ d ≡ neg_ℤ (c *ℤ d -ℤ a *ℤ b)
other a b c d = ring (a ∷ b ∷ c ∷ d ∷ []) (var 0 ⊗ var 1 ⊖ var 2 ⊗ var 3) (neg (var 2 ⊗ var 3 ⊖ var 0 ⊗ var 1)) tt

module _ (p : Flat) (d : ℤ) where
  -- on a side
  turn_swap : (a b : Flat) → Polygon.turn (swap a) (swap b) (swap p) d ≡ neg_ℤ (Polygon.turn a b p d)
  unfolding Polygon.turn
  turn_swap a b = other (b.v -ℤ a.v) (p.u -ℤ d *ℤ a.u) (b.u -ℤ a.u) (p.v -ℤ d *ℤ a.v)

  touches_swap : (a b : Flat) → touches (swap p) d (swap a) (swap b) ≡ touches p d a b
  unfolding touches between
  touches_swap a b =
      λ i. (ap is_zero (turn_swap a b) ∙ zero_neg (Polygon.turn a b p d)) i
      && and_comm (spans (d *ℤ a.v) (d *ℤ b.v) p.v) (spans (d *ℤ a.u) (d *ℤ b.u) p.u) i

  -- what is to the right of the ray to the east is then to the right of the one to the south
  right_swap : (a : Flat) → right (swap p) (east (swap p)) (swap a) ≡ right p (south p) a
  unfolding right twice_area
  right_swap a =
      ap (λ (z : ℤ). le_z z (pos 0))
      (ring (p.u ∷ p.v ∷ a.u ∷ a.v ∷ [])
      ((var 1 ⊕ con (pos 1) ⊖ var 1) ⊗ (var 2 ⊖ var 0) ⊖ (var 0 ⊖ var 0) ⊗ (var 3 ⊖ var 1))
      ((var 0 ⊖ var 0) ⊗ (var 3 ⊖ var 1) ⊖ (var 1 ⊖ con (pos 1) ⊖ var 1) ⊗ (var 2 ⊖ var 0)) tt)

  turned_swap : (a b : Flat) → twice_area (swap a) (swap b) (swap p) ≡ neg_ℤ (twice_area a b p)
  unfolding twice_area
  turned_swap a b = other (b.v -ℤ a.v) (p.u -ℤ a.u) (b.u -ℤ a.u) (p.v -ℤ a.v)

  beam_swap : (a b : Flat) → beam (swap p) (east (swap p)) (swap a) (swap b) ≡ Ray.mirrored rights p (south p) a b
  unfolding beam
  beam_swap a b = λ i. meets_ray (right_swap a i) (right_swap b i) (turned_swap a b i)

  odd_swap : (g : List Flat) → odd (swap p) (map (big d) (map swap g)) ≡ round (Ray.mirrored rights p (south p)) (map (big d) g)
  odd_swap g =
      ap (round (beam (swap p) (east (swap p)))) (map-map (big d) swap g)
      ∙ round-sides (beam (swap p) (east (swap p))) (λ a. big d (swap a)) g
      ∙ (λ i. odd_true (sides (λ a b. beam_swap (big d a) (big d b) i) g))
      ∙ sym (round-sides (Ray.mirrored rights p (south p)) (big d) g)

  pub where_swap : Up d → (g : List Flat) → where_flat (swap p) d (map swap g) ≡ where_flat p d g
  where_swap h g =
      where_moved p (swap p) d d swap touches_swap g
      (λ off. let clear = any-clear p d h g off in
      odd_is (swap p) d h (map swap g) ∙ odd_swap g ∙ Ray.mirror rights p (south p) (map (big d) g) clear
      ∙ sym (by_ray p (south p) (map (big d) g) clear (south_up p)) ∙ sym (odd_is p d h g))
