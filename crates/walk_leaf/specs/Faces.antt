-- The faces of a selection gone round one by one, as the code holds them.
use Rattle.std.specs.Prelude.{Bool, true, cond, List, ◌≡◌, ℕ, ◌+◌, ◌≤◌, length}
use Rattle.sets.specs.Word.{dig, count, either}
use Rattle.sets.specs.Sets.{wides, Wide}
use Rattle.paper.specs.Numbers.{most_candidates}
use Rattle.paper.specs.Solids.{unlike}
use Rattle.fast_leaf.specs.Faces.{unlike_ways, at_edge, around_face, from_face}
use Rattle.fast_leaf.specs.Faces as Lists
use Rattle.walk_tables.specs.Words.{Masks, Sides}
use Rattle.walk_leaf.specs.declared.faces.Going.{Going}

-- ---- what the sets stand for

pub record GoingIs (g : Going) (s : Lists.Going) : Type 0 where
  pub reached_is : wides.Is g.reached s.reached
  pub waiting_is : wides.Is g.waiting s.waiting
  pub turned_is : wides.Is g.turned s.turned

-- two masks of each edge
pub record Edges (on up : List ℕ) (masks ups : List (List Bool)) : Type 0 where
  pub on_are : Masks on masks
  pub up_are : Masks up ups
  pub as_many : length ups ≡ length masks

-- ---- whatever they stand for: no more wait than are reached anew, so each face is gone round once

pub record Grows (g r : Going) : Type 0 where
  pub few : wides.size r.reached ≤ most_candidates
  pub anew : wides.size r.waiting + wides.size g.reached ≤ wides.size g.waiting + wides.size r.reached

-- ---- the steps

abbrev pub TurnedAt : Wide → Wide → ℕ → Wide → Wide → Type 0
TurnedAt up turned f other r =
    (u s o : List Bool) → wides.Is up u → wides.Is turned s → wides.Is other o
    → wides.Is r (cond (unlike_ways (unlike u s) f o) s (either s o))

pub record AtEdge (mask up taken : Wide) (f : ℕ) (g r : Going) : Type 0 where
  pub grows : Grows g r
  pub same : (m u t : List Bool) (s : Lists.Going) → wides.Is mask m → wides.Is up u → wides.Is taken t → GoingIs g s
      → GoingIs r (at_edge m u t f s)

pub record AroundFace (on up : List ℕ) (edges taken : Wide) (f : ℕ) (g r : Going) : Type 0 where
  pub grows : Grows g r
  pub same : (masks ups : List (List Bool)) (t left : List Bool) (s : Lists.Going) → Edges on up masks ups → length left ≤ length masks
      → wides.Is taken t → wides.Is edges left → GoingIs g s → GoingIs r (around_face (count left) masks ups t f left s)

-- from a face that is taken
abbrev pub FromFace : List ℕ → List ℕ → List ℕ → Wide → ℕ → Going → Type 0
FromFace on up sides taken k r =
    (masks ups : List (List Bool)) (t : List Bool) → Edges on up masks ups → Sides sides masks → wides.Is taken t → dig t k ≡ true
    → GoingIs r (from_face masks ups t k)
