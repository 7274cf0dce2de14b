-- What the functions of this crate ask of the lent lists.
use Rattle.std.specs.Prelude.{◌≡◌, List, ℕ, ◌+◌, ◌*◌, ◌/◌, ◌≤◌, ◌<◌, ℤ, length}
use Rattle.std.proofs.Math.Option.{none}
use Rattle.paper.specs.Numbers.{most_edges}
use Rattle.paper.specs.Drawing.{wire, edges_of, same_place, loose_vertex}
use Rattle.paper_laws.specs.InRange.{Points, Ends, InRange}
use Rattle.drawing_links.specs.Neighbours.{neighbour_words}
use Rattle.drawing_segments.specs.Ways.{span_of}
use Rattle.drawing_rules.specs.Meets.{end_in}
use Rattle.drawing_rules.specs.Boxes.{box_in}

-- the two lists of a drawing in range, and its neighbour words
pub record Linked (xyz : List ℤ) (ends near : List ℕ) : Type 0 where
  pub range : InRange xyz ends
  pub near_are : near ≡ neighbour_words (edges_of ends) (length xyz / 3)

-- the points alone, and a vertex
pub record VertexAt (xyz : List ℤ) (v u : ℕ) : Type 0 where
  pub points : Points xyz v
  pub u_in : u < v

-- the two lists of a drawing with v vertices
pub record ListsInRange (xyz : List ℤ) (v : ℕ) (ends : List ℕ) : Type 0 where
  pub points : Points xyz v
  pub links : Ends ends v

-- and room for a corner of each edge's box, twice
pub record ListsAndRooms (xyz : List ℤ) (v : ℕ) (ends : List ℕ) (low high : List ℤ) : Type 0 where
  pub lists : ListsInRange xyz v ends
  pub low_room : 3 * most_edges ≤ length low
  pub high_room : 3 * most_edges ≤ length high

-- the lists, and a place in the list of ends
pub record EndAt (xyz : List ℤ) (v : ℕ) (ends : List ℕ) (k : ℕ) : Type 0 where
  pub lists : ListsInRange xyz v ends
  pub k_in : k < length ends

-- the ends alone, and two edges
pub record TwoEdges (ends : List ℕ) (e f : ℕ) : Type 0 where
  pub e_in : 2 * e + 1 < length ends
  pub f_in : 2 * f + 1 < length ends

-- the two lists, where 11 and 12 have passed
pub record PassedSoFar (xyz : List ℤ) (v : ℕ) (ends : List ℕ) : Type 0 where
  pub lists : ListsInRange xyz v ends
  pub places : same_place (wire xyz ends) ≡ none
  pub tied : loose_vertex (wire xyz ends) ≡ none

-- two lists of corners have the box of each edge
pub record Boxed (xyz : List ℤ) (ends : List ℕ) (low high : List ℤ) : Type 0 where
  pub each : (e : ℕ) → 2 * e + 1 < length ends → box_in low high e ≡ span_of (end_in xyz ends (2 * e)) (end_in xyz ends (2 * e + 1))

-- the lists with the boxes, where 11 has passed; with an edge; with two
pub record EdgesBoxed (xyz : List ℤ) (v : ℕ) (ends : List ℕ) (low high : List ℤ) : Type 0 where
  pub lists : ListsInRange xyz v ends
  pub places : same_place (wire xyz ends) ≡ none
  pub boxed : Boxed xyz ends low high

pub record EdgeBoxed (xyz : List ℤ) (v : ℕ) (ends : List ℕ) (low high : List ℤ) (e : ℕ) : Type 0 where
  pub edges : EdgesBoxed xyz v ends low high
  pub e_in : 2 * e + 1 < length ends

pub record PairBoxed (xyz : List ℤ) (v : ℕ) (ends : List ℕ) (low high : List ℤ) (e f : ℕ) : Type 0 where
  pub edges : EdgesBoxed xyz v ends low high
  pub pair : TwoEdges ends e f

-- two edges to be marked in a set
pub record TwoMarks (e f : ℕ) : Type 0 where
  pub e_low : e < most_edges
  pub f_low : f < most_edges
