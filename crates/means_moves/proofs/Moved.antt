-- A drawing whose vertices were moved is alike.
use mathlib.Core.Path.{◌≡◌, refl, ap, ap₂, ◌∙◌}
use mathlib.Core.List.{List, [], ◌∷◌, map}
use Prim.Native.Nat.{ℕ, ◌<◌}
use native.Mathlib.Omega.{arith}
use lib.ListN.{length, get_or, length-map}
use Rattle.lists.proofs.Places.{map_at}
use Rattle.paper.specs.Points.{origin, minus, dot, is_zero, same_point}
use Rattle.paper.specs.Polygon.{covers}
use Rattle.paper.specs.Drawing.{Wire, at, on_open, open_meets}
use Rattle.paper.specs.Loops.{Loop, tilted, across, level, polygon}
use Rattle.paper.specs.Clash.{clash}
use Rattle.paper.specs.declared.Point.{Point}
use Rattle.means_moves.specs.Moves.{Move}
use Rattle.means_moves.specs.Alike.{Below, Alike}
use Rattle.means_moves.proofs.Below.{below_at}
use Rattle.means_moves.proofs.Tests.{same-to, on_to, meets-to, level-to}
use Rattle.means_moves.proofs.Faces.{covers-to, clash-to}

module _ (m : Move) (d e : Wire) (points : e.vertices ≡ map m.to d.vertices) (edges : e.edges ≡ d.edges) where
  abbrev n : ℕ
  n = length d.vertices

  pub at-to : (v : ℕ) → v < n → at e v ≡ m.to (at d v)
  unfolding at
  at-to v h = ap (λ (ps : List Point). get_or ps v origin) points ∙ map_at m.to d.vertices v origin origin h

  all-to : (l : List ℕ) → Below n l → map (at e) l ≡ map m.to (map (at d) l)
  all-to [] b = refl
  all-to (v ∷ l) b = λ i. at-to v b.0 i ∷ all-to l b.1 i

  pub polygon-to : (l : Loop) → Below n l → polygon e l ≡ map m.to (polygon d l)
  unfolding polygon
  polygon-to l b = all-to l b

  plane_same : (p : List ℕ) (v : ℕ) → Below n (v ∷ p) → level e p v ≡ level d p v
  unfolding level across
  plane_same p v b =
      let s = at-to (get_or p 0 0) (below_at n p 0 (omega (arith, b.0)) b.1) in
      let t = at-to (get_or p 1 0) (below_at n p 1 (omega (arith, b.0)) b.1) in
      let u = at-to v b.0 in
      let l = all-to p b.1 in
      (λ i. is_zero (dot (tilted (s i) (t i) origin (l i)) (minus (u i) (s i))))
      ∙ level-to m (at d (get_or p 0 0)) (at d (get_or p 1 0)) (map (at d) p) (at d v)

  pub moved_alike : Alike d e
  moved_alike = record {
    as_many = ap length points ∙ length-map d.vertices m.to;
    edges = edges;
    same = λ u v b. ap₂ same_point (at-to u b.0) (at-to v b.1.0) ∙ same-to m (at d u) (at d v);
    on = λ a b v l. (λ i. on_open (at-to a l.0 i) (at-to b l.1.0 i) (at-to v l.1.1.0 i)) ∙ on_to m (at d a) (at d b) (at d v);
    meet = λ a b u v l.
        (λ i. open_meets (at-to a l.0 i) (at-to b l.1.0 i) (at-to u l.1.1.0 i) (at-to v l.1.1.1.0 i))
        ∙ meets-to m (at d a) (at d b) (at d u) (at d v);
    plane = plane_same;
    cover = λ f g a b has. ap₂ covers (polygon-to f a) (polygon-to g b) ∙ covers-to m (polygon d f) has (polygon d g);
    clashes = λ f g a b hf hg. ap₂ clash (polygon-to f a) (polygon-to g b) ∙ clash-to m (polygon d f) (polygon d g) hf hg;
  }
