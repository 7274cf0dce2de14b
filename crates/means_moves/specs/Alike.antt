-- Two drawings that no test tells apart: what a shift, a mirror or any other move leaves.
use Rattle.std.specs.Prelude.{◌≡◌, List, [], ◌∷◌, ℕ, ◌<◌, length}
use Rattle.paper.specs.Points.{same_point}
use Rattle.paper.specs.Polygon.{covers}
use Rattle.paper.specs.Drawing.{Wire, Edge, edge, at, edge_at, on_open, open_meets}
use Rattle.paper.specs.Loops.{Loop, loop_at, level, polygon}
use Rattle.paper.specs.Clash.{clash}
use Rattle.means_moves.specs.Moves.{HasPlane}

-- all vertices of a list are among the first n; all ends of edges are
abbrev pub Below : ℕ → List ℕ → Type 0
Below n [] = Unit {0}
Below n (v ∷ l) = (v < n) × Below n l

abbrev pub EdgeBelow : ℕ → Edge → Type 0
EdgeBelow n (edge a b) = (a < n) × (b < n)

abbrev pub EndsBelow : Wire → Type 0
EndsBelow d = (k : ℕ) → k < length d.edges → EdgeBelow (length d.vertices) (edge_at d k)

abbrev pub AllBelow : ℕ → List Loop → Type 0
AllBelow n [] = Unit {0}
AllBelow n (l ∷ ls) = Below n l × AllBelow n ls

-- loops that have a plane, as 11 and 13 see to it
abbrev pub AllPlane : Wire → List Loop → Type 0
AllPlane d ls = (k : ℕ) → k < length ls → HasPlane (polygon d (loop_at ls k))

module _ (d e : Wire) where
  pub record Alike : Type 0 where
    pub as_many : length e.vertices ≡ length d.vertices
    pub edges : e.edges ≡ d.edges
    pub same : (u v : ℕ) → Below (length d.vertices) (u ∷ v ∷ []) → same_point (at e u) (at e v) ≡ same_point (at d u) (at d v)
    pub on : (a b v : ℕ) → Below (length d.vertices) (a ∷ b ∷ v ∷ [])
        → on_open (at e a) (at e b) (at e v) ≡ on_open (at d a) (at d b) (at d v)
    pub meet : (a b u v : ℕ) → Below (length d.vertices) (a ∷ b ∷ u ∷ v ∷ [])
        → open_meets (at e a) (at e b) (at e u) (at e v) ≡ open_meets (at d a) (at d b) (at d u) (at d v)
    pub plane : (p : List ℕ) (v : ℕ) → Below (length d.vertices) (v ∷ p) → level e p v ≡ level d p v
    pub cover : (f g : Loop) → Below (length d.vertices) f → Below (length d.vertices) g → HasPlane (polygon d f)
        → covers (polygon e f) (polygon e g) ≡ covers (polygon d f) (polygon d g)
    pub clashes : (f g : Loop) → Below (length d.vertices) f → Below (length d.vertices) g → HasPlane (polygon d f)
        → HasPlane (polygon d g)
        → clash (polygon e f) (polygon e g) ≡ clash (polygon d f) (polygon d g)
