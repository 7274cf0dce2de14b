-- The edges of the lent list, by their places.
use mathlib.Core.Path.{◌≡◌, refl, ◌∙◌}
use mathlib.Core.Bool.{false, ◌||◌, ◌&&◌, and-false}
use mathlib.Core.List.{List, [], ◌∷◌}
use Prim.Native.Nat.{ℕ, suc, ◌+◌, ◌*◌, ◌/◌, ◌≤◌, ◌<◌}
use native.Mathlib.Omega.{arith}
use borrow.Author.Tests.{ne_eqb}
use lib.Dec.{eqb}
use lib.ListN.{length, get_or}
use Rattle.lists.specs.Lists.{any}
use Rattle.paper.specs.Drawing.{edge, edges_of, joins}
use Rattle.paper_laws.specs.InRange.{Ends}
use Rattle.paper_laws.proofs.Wires.{length_edges, edge-at}

module _ {ends : List ℕ} {v : ℕ} (p : Ends ends v) where
  pub edge_count : length (edges_of ends) ≡ p.edges
  edge_count = omega (arith, length_edges ends, p.whole)

  pub half_count : length ends / 2 ≡ p.edges
  half_count = omega (arith, p.whole)

  pub edge_is : (k : ℕ) → k < p.edges → get_or (edges_of ends) k (edge 0 0) ≡ edge (get_or ends (2 * k) 0) (get_or ends (2 * k + 1) 0)
  edge_is k h = edge-at ends k (edge 0 0) (omega (arith, length_edges ends, p.whole))

-- no edge leads to a vertex that is not there
none-joins : (l : List ℕ) (v u w : ℕ) → ((k : ℕ) → k < length l → get_or l k 0 < v) → v ≤ w → any (joins u w) (edges_of l) ≡ false
unfolding any edges_of joins
none-joins [] v u w h m = refl
none-joins (a ∷ []) v u w h m = refl
none-joins (a ∷ (b ∷ l)) v u w h m =
    let na : eqb w a ≡ false = ne_eqb w a (λ e. absurd (omega (arith, h 0 (omega arith)))) in
    let nb : eqb w b ≡ false = ne_eqb w b (λ e. absurd (omega (arith, h 1 (omega arith)))) in
    let rest = none-joins l v u w (λ k q. h (suc (suc k)) (omega arith)) m in
    (λ i. (eqb u a && nb i || eqb u b && na i) || rest i) ∙ (λ i. (and-false (eqb u a) i || and-false (eqb u b) i) || false)

pub unknown : {ends : List ℕ} {v : ℕ} → Ends ends v → (u w : ℕ) → v ≤ w → any (joins u w) (edges_of ends) ≡ false
unknown {ends} {v} p u w m = none-joins ends v u w p.known m
