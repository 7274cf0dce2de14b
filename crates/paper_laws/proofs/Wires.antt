-- A drawing's points and edges, from the two lists that it is lent as, and the corners of a loop: how many there are, and each of them.
use mathlib.Core.Path.{◌≡◌, refl, ◌∙◌}
use mathlib.Core.List.{List, [], ◌∷◌, map}
use mathlib.Core.Bool.{◌&&◌, ◌||◌, and_comm, or_comm}
use Prim.Native.Nat.{ℕ, zero, suc, ◌+◌, ◌*◌, ◌/◌, ◌<◌}
use native.Mathlib.Omega.{arith}
use lib.IntN.{ℤ}
use lib.ListN.{length, length-map, get_or}
use lib.Dec.{eqb}
use Rattle.lists.proofs.Places.{map_at, any_same}
use Rattle.paper.specs.Points.{origin}
use Rattle.paper.specs.Drawing.{Wire, Edge, edge, points_of, edges_of, at, joins, joined}
use Rattle.paper.specs.Loops.{Loop, polygon, loop_at}

pub length_points : (l : List ℤ) → length (points_of l) ≡ length l / 3
unfolding points_of
length_points [] = refl
length_points (x ∷ []) = refl
length_points (x ∷ (y ∷ [])) = refl
length_points (x ∷ (y ∷ (z ∷ l))) = omega (arith, length_points l)

pub length_edges : (l : List ℕ) → length (edges_of l) ≡ length l / 2
unfolding edges_of
length_edges [] = refl
length_edges (a ∷ []) = refl
length_edges (a ∷ (b ∷ l)) = omega (arith, length_edges l)

pub edge-at : (l : List ℕ) (e : ℕ) (z : Edge) → e < length (edges_of l)
    → get_or (edges_of l) e z ≡ edge (get_or l (2 * e) 0) (get_or l (2 * e + 1) 0)
unfolding edges_of
edge-at [] e z h = absurd (omega arith)
edge-at (a ∷ []) e z h = absurd (omega arith)
edge-at (a ∷ (b ∷ l)) zero z h = refl
edge-at (a ∷ (b ∷ l)) (suc e) z h =
    let p : 2 * suc e ≡ suc (suc (2 * e)) = omega arith in
    let q : 2 * suc e + 1 ≡ suc (suc (2 * e + 1)) = omega arith in
    rw (q, p) (edge-at l e z (omega arith))

pub polygon_length : (d : Wire) (l : Loop) → length (polygon d l) ≡ length l
unfolding polygon
polygon_length d l = length-map l (at d)

pub corner-at : (d : Wire) (l : Loop) (k : ℕ) → k < length l → get_or (polygon d l) k origin ≡ at d (get_or l k 0)
unfolding polygon
corner-at d l k h = map_at (at d) l k 0 origin h

pub polygon-at : (d : Wire) (ls : List Loop) (k : ℕ) → k < length ls → get_or (map (polygon d) ls) k [] ≡ polygon d (loop_at ls k)
polygon-at d ls k h = map_at (polygon d) ls k [] [] h

-- joined either way round
pub joined_turned : (d : Wire) (u w : ℕ) → joined d u w ≡ joined d w u
unfolding joined joins
joined_turned d u w = any_same (joins u w) (joins w u) d.edges (edge 0 0) (λ i h. each (get_or d.edges i (edge 0 0)))
  where
    each : (e : Edge) → joins u w e ≡ joins w u e
    each (edge a b) =
        or_comm (eqb u a && eqb w b) (eqb u b && eqb w a) ∙ (λ i. and_comm (eqb u b) (eqb w a) i || and_comm (eqb u a) (eqb w b) i)
