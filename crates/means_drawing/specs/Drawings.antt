-- The table's 11 to 14 in plain mathematics: what is wrong with a vertex or an edge.
use Rattle.std.specs.Prelude.{◌≡◌, ◌⊎◌, ℕ, ◌<◌, length}
use Rattle.std.proofs.Math.Option.{Option, none, some}
use Rattle.paper.specs.Drawing.{Wire, Edge, edge, at, edge_at}
use Rattle.means_drawing.specs.Segments.{Between, Common}

-- "Places are the lowest that offend": what a search among the numbers below n answers
abbrev pub Finds : (ℕ → Type 0) → ℕ → Option ℕ → Type 0
Finds P n none = (k : ℕ) → k < n → P k → ⊥
Finds P n (some i) = (i < n) × P i × ((k : ℕ) → k < i → P k → ⊥)

-- the two ends of an edge
abbrev pub start : Edge → ℕ
start (edge a b) = a

abbrev pub stop : Edge → ℕ
stop (edge a b) = b

module _ (d : Wire) where
  -- v is a vertex, e an edge of the drawing
  abbrev pub Vertex : ℕ → Type 0
  Vertex v = v < length d.vertices

  abbrev pub HasEdge : ℕ → Type 0
  HasEdge e = e < length d.edges

  -- the numbers of edge e's ends, and v is one of them
  abbrev pub low_end : ℕ → ℕ
  low_end e = start (edge_at d e)

  abbrev pub high_end : ℕ → ℕ
  high_end e = stop (edge_at d e)

  abbrev pub EndOf : ℕ → ℕ → Type 0
  EndOf e v = (v ≡ low_end e) ⊎ (v ≡ high_end e)

  -- 11, of a vertex: "two vertices at one point"
  abbrev pub Doubled : ℕ → Type 0
  Doubled u = (w : ℕ) × Vertex w × (u ≡ w → ⊥) × (at d u ≡ at d w)

  -- 12, of a vertex: "on no edge"
  abbrev pub Loose : ℕ → Type 0
  Loose v = (e : ℕ) → HasEdge e → EndOf e v → ⊥

  -- 13, of an edge: "shares a point with a vertex or edge other than at its own end vertices"
  pub data Meets (e : ℕ) : Type 0 where
    vertex : (w : ℕ) → Vertex w → Between (at d (low_end e)) (at d (high_end e)) (at d w) → Meets e
    other : (f : ℕ) → HasEdge f → (e ≡ f → ⊥) → Common (at d (low_end e)) (at d (high_end e)) (at d (low_end f)) (at d (high_end f)) → Meets e

  -- 14, of a vertex: "reachable from vertex 0", along edges from vertex to vertex
  abbrev pub Joined : ℕ → ℕ → Type 0
  Joined u v = (e : ℕ) × HasEdge e × (((u ≡ low_end e) × (v ≡ high_end e)) ⊎ ((u ≡ high_end e) × (v ≡ low_end e)))

  pub data Reachable : ℕ → Type 0 where
    first : Reachable 0
    next : {u v : ℕ} → Reachable u → Joined u v → Vertex v → Reachable v

  -- what 9 leaves: the ends of every edge rise and are vertices; with 11 they are at two points
  abbrev pub Rising : Type 0
  Rising = (e : ℕ) → HasEdge e → (low_end e < high_end e) × Vertex (high_end e)

  abbrev pub Long : Type 0
  Long = (e : ℕ) → HasEdge e → at d (low_end e) ≡ at d (high_end e) → ⊥
