-- The loops of a drawing that passes 11 and 13: where a point of a loop's plane lies.
use mathlib.Core.Path.{◌≡◌, refl}
use mathlib.Core.Logic.{◌↔◌}
use mathlib.Core.Option.{none}
use mathlib.Core.List.{List, map}
use Prim.Native.Nat.{ℕ, ◌≤◌, ◌<◌}
use native.Mathlib.Omega.{arith}
use lib.ListN.{length}
use lib.IntN.{ℤ}
use Rattle.paper.specs.Polygon.{normal, axis, seen, over, where_flat, lies}
use Rattle.paper.specs.Drawing.{Wire, same_place, edge_meets}
use Rattle.paper.specs.Loops.{loops}
use Rattle.paper.specs.declared.Point.{Point}
use Rattle.paper.specs.declared.Flat.{Flat}
use Rattle.paper.specs.declared.Where.TheVariants.{Inside}
use Rattle.means_area.specs.Flats.{Up}
use Rattle.means_area.specs.Loops.{loop_of}
use Rattle.means_area.proofs.Space.Maps.{length-map}
use Rattle.means_area.proofs.Loops.{ring_seen, loop_long}
use Rattle.means_inside.specs.Touch.{Touch}
use Rattle.means_inside.specs.Means.{big, Means}
use Rattle.means_inside.specs.Convex.{Hand, Convex, OnHand, NotBeyond}
use Rattle.means_inside.proofs.Inside.{means}
use Rattle.means_inside.proofs.Convex.{not_beyond_inside, convex_means}

module _ (d : Wire) (r11 : same_place d ≡ none) (r13 : edge_meets d ≡ none) (i : ℕ) (h : i < length (loops d)) where
  -- loop i as it is seen
  abbrev pub view : List Flat
  view = map (seen (axis (normal (loop_of d i)))) (loop_of d i)

  -- `lies` asks where the point is seen
  pub lies_is : (p : Point) (k : ℤ) → lies (over p k) (loop_of d i) ≡ where_flat (seen (axis (normal (loop_of d i))) p) k view
  unfolding lies
  lies_is p k = refl

  corners : 3 ≤ length view
  corners =
      let n = loop_long d r11 r13 i h in
      let e = length-map (seen (axis (normal (loop_of d i)))) (loop_of d i) in
      omega (arith, e, n)

  -- and that means: in a triangle of the view, on a side
  pub loop_means : (m : ℤ) × Means m view
  loop_means = let s = ring_seen d r11 r13 i h in (s.0, means s.0 view corners s.1)

  -- to one side of every side; of a convex loop only there
  pub loop_not_beyond : (t : Hand) (k : ℤ) → Up k → (p : Flat) → NotBeyond t k view p → (Touch p (map (big k) view) → ⊥)
      → where_flat p k view ≡ Inside
  loop_not_beyond = let s = ring_seen d r11 r13 i h in not_beyond_inside s.0 view corners s.1

  pub loop_convex : (t : Hand) → Convex t view → (k : ℤ) → Up k → (p : Flat) → (where_flat p k view ≡ Inside) ↔ OnHand t k view p
  loop_convex = let s = ring_seen d r11 r13 i h in convex_means s.0 view corners s.1
