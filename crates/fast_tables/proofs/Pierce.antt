-- Rule A by edges of the drawing.
use mathlib.Core.Path.{◌≡◌, refl, ap, ◌∙◌}
use mathlib.Core.Bool.{Bool, true, false, ◌&&◌}
use mathlib.Core.Logic.{◌⊎◌, inl, inr}
use Prim.Native.Nat.{ℕ, ◌+◌}
use lib.IntN.{ℤ, pos, nat_abs}
use lib.ListN.{get_or}
use Rattle.lists.specs.Lists.{any_true}
use Rattle.lists.proofs.Truth.{and_left, and_right, or_cases}
use Rattle.lists.proofs.Sides.{sides_map}
use Rattle.lists.proofs.Places.{any_same}
use Rattle.paper.specs.Points.{plus, times, above, below}
use Rattle.paper.specs.Polygon.{Polygon, plane_side, over, lies, is_inside}
use Rattle.paper.specs.Drawing.{Wire, Edge, edge, at}
use Rattle.paper.specs.Loops.{Loop, polygon}
use Rattle.paper.specs.Clash.{opposite, pierced, pierces}
use Rattle.paper.specs.Solids.{has}
use Rattle.paper.specs.declared.Point.{Point}
use Rattle.paper_laws.proofs.Turned.{pierced_turned}
use Rattle.fast_tables.specs.Paths.{Path}
use Rattle.fast_tables.specs.Hits.{edge_pierces, pierced_by}
use Rattle.fast_tables.proofs.Rounds.{of_edge, sides_edges}

-- an edge whose ends are not on opposite sides does not pierce
pub pierced-opposite : (g : Polygon) (p q : Point) (a b : ℤ) → opposite a b ≡ false → pierced g p q a b ≡ false
unfolding pierced
pierced-opposite g p q a b e =
    ap
    (λ (t : Bool). t && is_inside (lies (over (plus (times (pos (nat_abs b)) p) (times (pos (nat_abs a)) q)) (pos (nat_abs a + nat_abs b))) g))
    e

-- one that does goes down, or up
pub pierced-sides : (g : Polygon) (p q : Point) (a b : ℤ) → pierced g p q a b ≡ true → ((below a ≡ true) × (above b ≡ true))
    ⊎ ((above a ≡ true) × (below b ≡ true))
unfolding pierced opposite
pierced-sides g p q a b e =
    go
    (or_cases (below a && above b) (above a && below b)
    (and_left (opposite a b)
    (is_inside (lies (over (plus (times (pos (nat_abs b)) p) (times (pos (nat_abs a)) q)) (pos (nat_abs a + nat_abs b))) g)) e))
  where
    go : ((below a && above b) ≡ true) ⊎ ((above a && below b) ≡ true) → ((below a ≡ true) × (above b ≡ true))
        ⊎ ((above a ≡ true) × (below b ≡ true))
    go (inl h) = inl (and_left (below a) (above b) h, and_right (below a) (above b) h)
    go (inr h) = inr (and_left (above a) (below b) h, and_right (above a) (below b) h)

pub pierces_edges : (d : Wire) (f : Loop) → Path d f → (g : Loop) → pierces (polygon d f) (polygon d g) ≡ pierced_by d g f
unfolding pierces pierced_by polygon edge_pierces
pierces_edges d f path g =
    ap any_true (sides_map (λ p q. pierced (polygon d g) p q (plane_side (polygon d g) p) (plane_side (polygon d g) q)) (at d) f)
    ∙ sides_edges d f path test
    (λ a b. pierced_turned (polygon d g) (at d a) (at d b) (plane_side (polygon d g) (at d a)) (plane_side (polygon d g) (at d b)))
    ∙ any_same (λ e. has e f && of_edge test e) (λ e. has e f && edge_pierces d g e) d.edges (edge 0 0)
    (λ k h. same (get_or d.edges k (edge 0 0)))
  where
    test : ℕ → ℕ → Bool
    test a b = pierced (polygon d g) (at d a) (at d b) (plane_side (polygon d g) (at d a)) (plane_side (polygon d g) (at d b))

    same : (e : Edge) → (has e f && of_edge test e) ≡ (has e f && edge_pierces d g e)
    same (edge a b) = refl
