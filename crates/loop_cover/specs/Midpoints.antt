-- Midpoints of a drawing's edges, asked of one row of a table of loops.
use Rattle.std.specs.Prelude.{Bool, true, ◌&&◌, cond, List, ◌≡◌, ℕ, ◌<◌, ℤ, length}
use Rattle.sets.specs.Word.{dig}
use Rattle.sets.specs.Sets.{wides, Wide}
use Rattle.paper.specs.Drawing.{wire, edge_at}
use Rattle.paper.specs.declared.Point.{Point}
use Rattle.paper_laws.specs.InRange.{InRange}
use Rattle.polygon.specs.Rings.{loop_in, FaceRow}
use Rattle.fast_tables.specs.Covers.{middle_outside}
use Rattle.fast_tables.specs.Asked.{KnownEdges, asked_in_turn, unheld, free}
use Rattle.loop_cover.specs.declared.Asked.{Asked}
use Rattle.loop_cover.specs.declared.Tried.{Tried}

-- the midpoint of edge e is outside row k
abbrev pub outside_of : List ℤ → List ℕ → List ℕ → ℕ → ℕ → Bool
outside_of xyz ends table k e = middle_outside (wire xyz ends) (loop_in table k) (edge_at (wire xyz ends) e)

-- row k of a drawing in range with its normal, and one of its edges
pub record RowAndEdge (xyz : List ℤ) (ends table : List ℕ) (k : ℕ) (m : Point) (e : ℕ) : Type 0 where
  pub range : InRange xyz ends
  pub face : FaceRow xyz table k m
  pub known : e < length (wire xyz ends).edges

-- ---- what was asked

-- the two sets stand for what is known
pub record AskedIs (f : Asked) (g : KnownEdges) : Type 0 where
  pub held_is : wides.Is f.held g.held
  pub outside_is : wides.Is f.outside g.outside

-- a set of edges of the drawing
pub record EdgesOf (xyz : List ℤ) (ends : List ℕ) (edges : Wide) (mask : List Bool) : Type 0 where
  pub is : wides.Is edges mask
  pub known : (e : ℕ) → dig mask e ≡ true → e < length (wire xyz ends).edges

-- row k with its normal, a set of edges, and what was asked before
pub record AsksEdges (xyz : List ℤ) (ends table : List ℕ) (k : ℕ) (m : Point) (edges : Wide) (f : Asked) : Type 0 where
  pub range : InRange xyz ends
  pub face : FaceRow xyz table k m
  pub mask : List Bool
  pub mask_is : EdgesOf xyz ends edges mask
  pub answers : KnownEdges
  pub stands : AskedIs f answers

-- what is known once those edges are asked that are not known to be held
abbrev pub asked_now : List ℤ → List ℕ → List ℕ → ℕ → List Bool → KnownEdges → KnownEdges
asked_now xyz ends table k mask g = asked_in_turn (outside_of xyz ends table k) (unheld (length (wire xyz ends).edges) mask g) g

abbrev pub AskedOf : List ℤ → List ℕ → List ℕ → ℕ → Wide → Asked → Asked → Type 0
AskedOf xyz ends table k edges f r =
    (mask : List Bool) (g : KnownEdges) → EdgesOf xyz ends edges mask → AskedIs f g → AskedIs r (asked_now xyz ends table k mask g)

-- and whether none of them is outside: they are not asked where one is known to be
pub record Trial (r : Tried) (mask : List Bool) (g after : KnownEdges) : Type 0 where
  pub asked_is : AskedIs r.asked (cond (free mask g) after g)
  pub covers_is : r.covers ≡ (free mask g && free mask after)

abbrev pub TriedOf : List ℤ → List ℕ → List ℕ → ℕ → Wide → Asked → Tried → Type 0
TriedOf xyz ends table k edges f r =
    (mask : List Bool) (g : KnownEdges) → EdgesOf xyz ends edges mask → AskedIs f g → Trial r mask g (asked_now xyz ends table k mask g)
