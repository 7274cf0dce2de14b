-- `drawing_rules::drawing_rules`: the four checks in number order, each asked where those before it pass.
use mathlib.Core.List.{List, [], ◌∷◌}
use mathlib.Core.Path.{◌∙◌, ◌≡◌, refl, subst, sym}
use Prim.Native.Nat.{◌/◌, ◌≤◌, ℕ}
use native.Mathlib.Omega.{arith}
use lib.IntN.{ℤ}
use lib.ListN.{length}
use Rattle.std.proofs.lemmas.Result.{err_from_is_err_and}
use Rattle.paper.specs.Numbers.{most_vertices}
use Rattle.paper.specs.Drawing.{Wire, apart, drawing_checks, edge_meets, loose_vertex, same_place, wire}
use Rattle.paper.specs.Refusals.{Check, check, first_of, Fine}
use Rattle.paper.specs.Refusals.{Apart, EdgeMeets, LooseVertex, SamePlace}
use Rattle.paper_laws.specs.InRange.{Ends, Points}
use Rattle.paper_laws.proofs.Checks.{first_passes, first_stops, found_none}
use Rattle.drawing_links.specs.Neighbours.{Links}
use Rattle.drawing_links.proofs.Words.{links_are}
use Rattle.drawing_rules.specs.Asked.{Linked}
use Rattle.drawing_rules.proofs.Vertices.{vertex-count}
use Rattle.drawing_rules.proofs.drawing_rules.Goals as goal

-- ---- the checks, in number order, and the answer behind those that pass

module _ (d : Wire) where
  abbrev c11 : Check
  c11 = check SamePlace (same_place d)

  abbrev c12 : Check
  c12 = check LooseVertex (loose_vertex d)

  abbrev c13 : Check
  c13 = check EdgeMeets (edge_meets d)

  abbrev c14 : Check
  c14 = check Apart (apart d)

  module _ (eleven : Fine ≡ first_of (c11 ∷ [])) where
    passed-11 : first_of (c12 ∷ c13 ∷ c14 ∷ []) ≡ first_of (drawing_checks d)
    unfolding drawing_checks
    passed-11 = first_passes (c11 ∷ []) (c12 ∷ c13 ∷ c14 ∷ []) eleven

    module _ (twelve : Fine ≡ first_of (c12 ∷ [])) where
      passed-12 : first_of (c13 ∷ c14 ∷ []) ≡ first_of (drawing_checks d)
      passed-12 = first_passes (c12 ∷ []) (c13 ∷ c14 ∷ []) twelve ∙ passed-11

      passed-13 : Fine ≡ first_of (c13 ∷ []) → first_of (c14 ∷ []) ≡ first_of (drawing_checks d)
      passed-13 thirteen = first_passes (c13 ∷ []) (c14 ∷ []) thirteen ∙ passed-12

-- ---- the drawing in range, by the count that the code takes from the list's length, and its neighbour words

module _ (xyz : List ℤ) (ends near : List ℕ) (l : Linked xyz ends near) where
  counted : l.range.vertices ≡ length xyz / 3
  counted = omega (arith, l.range.points.whole)

  points_in : Points xyz (length xyz / 3)
  points_in = subst (Points xyz) counted l.range.points

  ends_in : Ends ends (length xyz / 3)
  ends_in = subst (Ends ends) counted l.range.links

  few : length xyz / 3 ≤ most_vertices
  few = let h = l.range.most in omega (arith, counted)

  words : Links near (length xyz / 3) (wire xyz ends)
  unfolding wire
  words =
      let known = links_are ends_in few (vertex-count points_in) refl in
      subst (λ (l : List ℕ). Links l (length xyz / 3) (wire xyz ends)) (sym l.near_are) known

-- ---- the needs

pub returns-in_err-same_place : goal.returns-in_err-same_place
unfolding wire drawing_checks
returns-in_err-same_place c =
    let d = wire c.args.xyz.now c.args.ends.now in
    let p = err_from_is_err_and c.from_residual.result c.from_residual.ensures.1 in
    rw (p.1, p.2) (first_stops (c11 d ∷ []) (c12 d ∷ c13 d ∷ c14 d ∷ []) (c.in_err-same_place.ensures d refl))

pub returns-in_err-loose_vertex : goal.returns-in_err-loose_vertex
unfolding wire
returns-in_err-loose_vertex c =
    let a = c.args in
    let d = wire a.xyz.now a.ends.now in
    let r = c.from_residual-in_err-loose_vertex in
    let p = err_from_is_err_and r.result r.ensures.1 in
    let loose = c.in_err-loose_vertex.ensures d (words a.xyz.now a.ends.now a.near.now c.requires) in
    rw (p.1, p.2) (first_stops (c12 d ∷ []) (c13 d ∷ c14 d ∷ []) loose ∙ passed-11 d (c.in_ok-same_place.ensures d refl))

pub edge_meets-requires : goal.edge_meets-requires
unfolding wire
edge_meets-requires c =
    let a = c.args in
    let d = wire a.xyz.now a.ends.now in
    record {
      lists = record {
        points = points_in a.xyz.now a.ends.now a.near.now c.requires;
        links = ends_in a.xyz.now a.ends.now a.near.now c.requires;
      };
      places = (found_none SamePlace [] (c.in_ok-same_place.ensures d refl)).0;
      tied = (found_none LooseVertex [] (c.in_ok-loose_vertex.ensures d (words a.xyz.now a.ends.now a.near.now c.requires))).0;
    }

pub returns-in_err-edge_meets : goal.returns-in_err-edge_meets
unfolding wire
returns-in_err-edge_meets c =
    let a = c.args in
    let d = wire a.xyz.now a.ends.now in
    let r = c.from_residual-in_err-edge_meets in
    let p = err_from_is_err_and r.result r.ensures.1 in
    let twelve = c.in_ok-loose_vertex.ensures d (words a.xyz.now a.ends.now a.near.now c.requires) in
    rw (p.1, p.2)
    (first_stops (c13 d ∷ []) (c14 d ∷ []) c.in_err-edge_meets.ensures ∙ passed-12 d (c.in_ok-same_place.ensures d refl) twelve)

pub returns : goal.returns
unfolding wire
returns c =
    let a = c.args in
    let d = wire a.xyz.now a.ends.now in
    let linked = words a.xyz.now a.ends.now a.near.now c.requires in
    c.apart.ensures d linked
    ∙ passed-13 d (c.in_ok-same_place.ensures d refl) (c.in_ok-loose_vertex.ensures d linked) c.in_ok-edge_meets.ensures
