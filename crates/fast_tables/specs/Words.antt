-- The mask of those that go through a candidate, gathered from the masks of edges and of vertices in the order of a loop over the ones of
-- words.
use Rattle.std.specs.Prelude.{Bool, cond, List, [], ◌∷◌, map, ℕ, length}
use Rattle.lists.specs.Lists.{filter, upto, member}
use Rattle.sets.specs.Word.{dig, both, either, less}
use Rattle.paper.specs.Points.{above, below}
use Rattle.paper.specs.Polygon.{plane_side, exactly, lies, is_inside}
use Rattle.paper.specs.Drawing.{Wire, edge, at, joined}
use Rattle.paper.specs.Loops.{Loop, polygon, loop_at}
use Rattle.paper.specs.Solids.{has}
use Rattle.fast_tables.specs.Hits.{edge_pierces, corner_mask}
use Rattle.fast_tables.specs.Asked.{loop_plane}

-- the places below m of the digits that are set
unfoldable pub ones : ℕ → List Bool → List ℕ
ones m a = filter (dig a) (upto m)

-- w with the masks of those that pass
unfoldable pub gathered : (ℕ → Bool) → (ℕ → List Bool) → List ℕ → List Bool → List Bool
gathered test mask [] w = w
gathered test mask (x ∷ xs) w = gathered test mask xs (either w (cond (test x) (mask x) []))

-- the vertices joined to a, those above l's plane, and those below it
unfoldable pub near_mask : Wire → ℕ → List Bool
near_mask d a = map (joined d a) (upto (length d.vertices))

unfoldable pub above_mask : Wire → Loop → List Bool
above_mask d l = map (λ v. above (plane_side (polygon d l) (at d v))) (upto (length d.vertices))

unfoldable pub below_mask : Wire → Loop → List Bool
below_mask d l = map (λ v. below (plane_side (polygon d l) (at d v))) (upto (length d.vertices))

-- the candidates on an edge that goes down from a, from one of several, and from any
unfoldable pub down_from : Wire → List Loop → Loop → ℕ → List Bool → List Bool
down_from d cs l a w =
    gathered (λ b. edge_pierces d l (edge a b)) (λ b. map (has (edge a b)) cs)
    (ones (length d.vertices) (both (near_mask d a) (below_mask d l))) w

unfoldable pub going_down : Wire → List Loop → Loop → List ℕ → List Bool → List Bool
going_down d cs l [] w = w
going_down d cs l (a ∷ as') w = going_down d cs l as' (down_from d cs l a w)

unfoldable pub through_mask : Wire → List Loop → Loop → List Bool
through_mask d cs l = going_down d cs l (ones (length d.vertices) (above_mask d l)) []

-- the candidates with a corner that is strictly inside l: of those in l's plane its own are not asked
unfoldable pub inside_mask : Wire → List Loop → Loop → List Bool
inside_mask d cs l =
    gathered (λ v. is_inside (lies (exactly (at d v)) (polygon d l))) (λ v. map (member v) cs)
    (ones (length d.vertices) (less (loop_plane d l) (corner_mask d l))) []

-- of candidate i
unfoldable pub hit_mask : Wire → List Loop → ℕ → List Bool
hit_mask d cs i = either (through_mask d cs (loop_at cs i)) (inside_mask d cs (loop_at cs i))
