-- Pairs of edges on the lent lists are those of the drawing.
use mathlib.Core.Path.{◌≡◌, refl, sym, ap, ◌∙◌, subst}
use mathlib.Core.Bool.{Bool, true, false, ◌||◌}
use mathlib.Core.Logic.{◌⊎◌, inl, inr}
use mathlib.Core.List.{List}
use mathlib.Core.Option.{none}
use Prim.Native.Nat.{ℕ, ◌+◌, ◌*◌, ◌<◌}
use native.Mathlib.Omega.{arith}
use borrow.Author.Tests.{eqb-true}
use lib.Dec.{eqb}
use lib.IntN.{ℤ}
use lib.ListN.{length, get_or}
use Rattle.lists.proofs.Truth.{or_cases}
use Rattle.paper.specs.Drawing.{Wire, Edge, edge, wire, at, edge_at, open_meets, edges_meet, same_place}
use Rattle.paper.specs.declared.Point.{Point}
use Rattle.paper_laws.specs.InRange.{Ends}
use Rattle.polygon.specs.Rings.{point_of}
use Rattle.means_drawing.specs.Drawings.{start, stop, Rising}
use Rattle.means_drawing.proofs.Drawings.{long_edges}
use Rattle.fast_meets.specs.Boxes.{are_apart}
use Rattle.fast_meets.specs.Pairs.{meet_at}
use Rattle.fast_meets.specs.Theorems.{EndShared, Longs}
use Rattle.fast_meets.proofs.Boxes.{boxes_tell}
use Rattle.drawing_segments.specs.Asked.{SegmentPair}
use Rattle.drawing_segments.specs.Ways.{answers, both_meet}
use Rattle.drawing_links.proofs.Edges.{edge_count, edge_is}
use Rattle.drawing_rules.specs.Asked.{ListsInRange, TwoEdges}
use Rattle.drawing_rules.specs.Meets.{end_in, joined_in, both_at}
use Rattle.drawing_rules.proofs.Vertices.{vertex-count, vertex_is, vertex_small}

module _ {xyz : List ℤ} {ends : List ℕ} {v : ℕ} (lists : ListsInRange xyz v ends) where
  abbrev drawing : Wire
  drawing = wire xyz ends

  abbrev q : Ends ends v
  q = lists.links

  end_is : (k : ℕ) → k < length ends → at drawing (get_or ends k 0) ≡ end_in xyz ends k
  unfolding wire
  end_is k h = vertex_is lists.points drawing refl (get_or ends k 0) (q.known k h)

  edge-at : (e : ℕ) → 2 * e + 1 < length ends → edge_at drawing e ≡ edge (get_or ends (2 * e) 0) (get_or ends (2 * e + 1) 0)
  unfolding wire edge_at
  edge-at e h = edge_is q e (omega (arith, q.whole))

  -- ---- what 9 leaves, and 11

  pub rising : Rising drawing
  unfolding wire
  rising e h =
      let n : e < q.edges = omega (arith, edge_count q) in
      let here = sym (edge-at e (omega (arith, q.whole))) in
      let up : get_or ends (2 * e) 0 < get_or ends (2 * e + 1) 0 = q.rising e n in
      let low : get_or ends (2 * e + 1) 0 < v = q.known (2 * e + 1) (omega (arith, q.whole)) in
      rw (← here) (up, omega (arith, vertex-count lists.points))

  module _ (places : same_place drawing ≡ none) where
    ends_differ : (e : ℕ) → 2 * e + 1 < length ends → end_in xyz ends (2 * e) ≡ end_in xyz ends (2 * e + 1) → ⊥
    unfolding wire
    ends_differ e h s =
        let here = edge-at e h in
        long_edges drawing rising places e (omega (arith, edge_count q, q.whole))
        (ap (λ (x : Edge). at drawing (start x)) here ∙ end_is (2 * e) (omega arith) ∙ s ∙ sym (end_is (2 * e + 1) h)
        ∙ ap (λ (x : Edge). at drawing (stop x)) (sym here))

  -- ---- edge e from A to B, and edge f from C to D

  module _ (e f : ℕ) (t : TwoEdges ends e f) where
    abbrev A : Point
    A = end_in xyz ends (2 * e)

    abbrev B : Point
    B = end_in xyz ends (2 * e + 1)

    abbrev C : Point
    C = end_in xyz ends (2 * f)

    abbrev D : Point
    D = end_in xyz ends (2 * f + 1)

    both_long : same_place drawing ≡ none → Longs A B C D
    both_long s = record { ab = ends_differ s e t.e_in; cd = ends_differ s f t.f_in }

    joined_shared : joined_in ends e f ≡ true → EndShared A B C D
    joined_shared h = go (or_cases (eqb a c || eqb a d || eqb b c) (eqb b d) h)
      where
        a : ℕ
        a = get_or ends (2 * e) 0

        b : ℕ
        b = get_or ends (2 * e + 1) 0

        c : ℕ
        c = get_or ends (2 * f) 0

        d : ℕ
        d = get_or ends (2 * f + 1) 0

        same : (i j : ℕ) → eqb i j ≡ true → point_of xyz i ≡ point_of xyz j
        same i j s = ap (point_of xyz) (eqb-true i j s)

        first : (eqb a c ≡ true) ⊎ (eqb a d ≡ true) → EndShared A B C D
        first (inl s) = inl (same a c s)
        first (inr s) = inr (inl (same a d s))

        second : ((eqb a c || eqb a d) ≡ true) ⊎ (eqb b c ≡ true) → EndShared A B C D
        second (inl s) = first (or_cases (eqb a c) (eqb a d) s)
        second (inr s) = inr (inr (inl (same b c s)))

        go : ((eqb a c || eqb a d || eqb b c) ≡ true) ⊎ (eqb b d ≡ true) → EndShared A B C D
        go (inl s) = second (or_cases (eqb a c || eqb a d) (eqb b c) s)
        go (inr s) = inr (inr (inr (same b d s)))

    -- what `both_meet` asks
    asked : same_place drawing ≡ none → SegmentPair A B C D (joined_in ends e f)
    asked s =
        let near = vertex_small lists.points in
        record {
          segments = record { a_in = near _; b_in = near _; c_in = near _; d_in = near _ };
          long = both_long s;
          shared = joined_shared;
        }

    pub pair_asked : same_place drawing ≡ none → {a b c d : Point} {j : Bool} → a ≡ A → b ≡ B → c ≡ C → d ≡ D → j ≡ joined_in ends e f
        → SegmentPair a b c d j
    pair_asked s pa pb pc pd pj =
        subst (λ (T : Type 0). T) (λ i. SegmentPair (sym pa i) (sym pb i) (sym pc i) (sym pd i) (sym pj i)) (asked s)

    pub both_are : both_meet A B C D ≡ both_at drawing e f
    unfolding meet_at edges_meet
    both_are =
        let he = edge-at e t.e_in in
        let hf = edge-at f t.f_in in
        let a = end_is (2 * e) (omega (arith, t.e_in)) in
        let b = end_is (2 * e + 1) t.e_in in
        let c = end_is (2 * f) (omega (arith, t.f_in)) in
        let d = end_is (2 * f + 1) t.f_in in
        let first = (λ i. edges_meet drawing (he i) (hf i)) ∙ (λ i. open_meets (a i) (b i) (c i) (d i)) in
        let second = (λ i. edges_meet drawing (hf i) (he i)) ∙ (λ i. open_meets (c i) (d i) (a i) (b i)) in
        λ i. answers (sym first i) (sym second i)

    -- boxes that are apart
    pub apart_none : same_place drawing ≡ none → are_apart A B C D ≡ true → answers false false ≡ both_at drawing e f
    apart_none s h =
        let none = boxes_tell A B C D (both_long s) h in
        (λ i. answers (sym none.first i) (sym none.second i)) ∙ both_are
