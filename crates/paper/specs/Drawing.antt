-- Document 01, "a drawing, being vertices with whole-number coordinates in centimetres and straight edges", and the rules on it that
-- need no loops: 11 SamePlace, 12 LooseVertex, 13 EdgeMeets, 14 Apart.
use Rattle.std.specs.Prelude.{ℕ, zero, suc, Bool, false, not, ◌&&◌, ◌||◌, cond, List, [], ◌∷◌, map, eqb, length, get_or, ℤ, pos}
use Rattle.std.proofs.Math.Option.{Option}
use Rattle.std.specs.Int.Signed.{lt_z, le_z}
use Rattle.lists.specs.Lists.{any, upto, lowest}
use Rattle.paper.specs.Refusals as No
use Rattle.paper.specs.Refusals.{Check, check}
use Rattle.paper.specs.Points.{pt, origin, minus, dot, cross, same_point, is_origin, is_zero, below}
use Rattle.paper.specs.declared.Point.{Point}

-- an edge by its two vertex numbers
pub data Edge : Type 0 where
  edge : ℕ → ℕ → Edge

pub record Wire : Type 0 where
  pub vertices : List Point
  pub edges : List Edge

-- "as two lists of numbers (3 per vertex, 2 per edge)"
unfoldable pub points_of : List ℤ → List Point
points_of [] = []
points_of (x ∷ []) = []
points_of (x ∷ (y ∷ [])) = []
points_of (x ∷ (y ∷ (z ∷ l))) = pt x y z ∷ points_of l

unfoldable pub edges_of : List ℕ → List Edge
edges_of [] = []
edges_of (a ∷ []) = []
edges_of (a ∷ (b ∷ l)) = edge a b ∷ edges_of l

unfoldable pub wire : List ℤ → List ℕ → Wire
unfolding points_of edges_of
wire xyz ends = record { vertices = points_of xyz; edges = edges_of ends }

-- "Vertices and edges are numbered from 0"
unfoldable pub at : Wire → ℕ → Point
at d v = get_or d.vertices v origin

unfoldable pub edge_at : Wire → ℕ → Edge
edge_at d e = get_or d.edges e (edge 0 0)

-- v is an end of the edge; the edge joins u and v; some edge does
unfoldable pub ends : ℕ → Edge → Bool
ends v (edge a b) = eqb v a || eqb v b

unfoldable pub joins : ℕ → ℕ → Edge → Bool
joins u v (edge a b) = eqb u a && eqb v b || eqb u b && eqb v a

unfoldable pub joined : Wire → ℕ → ℕ → Bool
unfolding any joins
joined d u v = any (joins u v) d.edges

-- 11: "two vertices at one point"
unfoldable pub same_place : Wire → Option ℕ
unfolding lowest any upto at same_point
same_place d =
    let n = length d.vertices in
    lowest (λ u. any (λ v. not (eqb u v) && same_point (at d u) (at d v)) (upto n)) n

-- 12: "on no edge"
unfoldable pub loose_vertex : Wire → Option ℕ
unfolding lowest any ends
loose_vertex d = lowest (λ v. not (any (ends v) d.edges)) (length d.vertices)

-- ---- 13: "shares a point with a vertex or edge other than at its own end vertices"

-- p is strictly between a and b on their segment
unfoldable pub on_open : Point → Point → Point → Bool
unfolding is_origin cross minus below dot
on_open a b p = is_origin (cross (minus b a) (minus p a)) && below (dot (minus p a) (minus p b))

-- For segments in one line, p and q being the places of c and d along the one from a (0) to b (m): not both at or before a, nor
-- both at or after b
unfoldable pub overlap : ℤ → ℤ → ℤ → Bool
overlap p q m = not (le_z p (pos 0) && le_z q (pos 0)) && not (le_z m p && le_z m q)

-- For segments in one plane and not parallel, t / m is the place of their lines' common point along the one from a to b, and s / m
-- along the other
unfoldable pub cuts_open : ℤ → ℤ → ℤ → Bool
cuts_open t s m = lt_z (pos 0) t && lt_z t m && (le_z (pos 0) s && le_z s m)

-- the segment from a to b without its ends has a point in common with the one from c to d with its ends
unfoldable pub open_meets : Point → Point → Point → Point → Bool
unfolding is_origin cross minus dot overlap cuts_open is_zero
open_meets a b c d =
    let p = minus b a in
    let q = minus d c in
    let r = minus c a in
    let n = cross p q in
    cond (is_origin n)
    (is_origin (cross p r) && overlap (dot p r) (dot p (minus d a)) (dot p p))
    (is_zero (dot r n) && cuts_open (dot (cross r q) n) (dot (cross r p) n) (dot n n))

unfoldable pub vertex_on : Wire → Edge → ℕ → Bool
unfolding on_open at
vertex_on d (edge a b) v = on_open (at d a) (at d b) (at d v)

unfoldable pub edges_meet : Wire → Edge → Edge → Bool
unfolding open_meets at
edges_meet d (edge a b) (edge u v) = open_meets (at d a) (at d b) (at d u) (at d v)

unfoldable pub edge_meets : Wire → Option ℕ
unfolding lowest any upto edge_at vertex_on edges_meet
edge_meets d =
    let n = length d.edges in
    lowest (λ e. any (vertex_on d (edge_at d e)) (upto (length d.vertices))
    || any (λ f. not (eqb e f) && edges_meet d (edge_at d e) (edge_at d f)) (upto n)) n

-- ---- 14: "not reachable from vertex 0"

-- the vertices of a marks, and those that one edge more leads to
unfoldable pub further : Wire → List Bool → List Bool
unfolding any upto joined
further d marks =
    let vs = upto (length d.vertices) in
    map (λ v. get_or marks v false || any (λ u. get_or marks u false && joined d u v) vs) vs

-- those that k edges or fewer lead to; as many edges as vertices are enough
unfoldable pub vertices_reached : Wire → ℕ → List Bool
unfolding further upto
vertices_reached d zero = map (eqb 0) (upto (length d.vertices))
vertices_reached d (suc k) = further d (vertices_reached d k)

unfoldable pub apart : Wire → Option ℕ
unfolding lowest vertices_reached
apart d =
    let n = length d.vertices in
    let marks = vertices_reached d n in
    lowest (λ v. not (get_or marks v false)) n

unfoldable pub drawing_checks : Wire → List Check
unfolding same_place loose_vertex edge_meets apart
drawing_checks d =
    check No.SamePlace (same_place d) ∷ check No.LooseVertex (loose_vertex d) ∷ check No.EdgeMeets (edge_meets d)
    ∷ check No.Apart (apart d) ∷ []
