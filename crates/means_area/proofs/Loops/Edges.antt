-- In a drawing that passes 13: no vertex is inside a joined pair, and no two joined pairs without a common vertex have a common point.
use mathlib.Core.Path.{◌≡◌, sym, ◌∙◌, ap, subst}
use mathlib.Core.Bool.{Bool, true, not, ◌&&◌, ◌||◌, true≢false}
use mathlib.Core.Logic.{◌⊎◌, inl, inr}
use mathlib.Core.Option.{none}
use mathlib.Core.List.{[], ◌∷◌}
use Prim.Native.Nat.{ℕ}
use native.Mathlib.Omega.{arith}
use borrow.Author.Tests.{ne_eqb}
use lib.Dec.{eqb}
use lib.ListN.{length}
use lib.IntN.{pos, ◌-ℤ◌}
use Rattle.lists.specs.Lists.{any, upto}
use Rattle.lists.proofs.Truth.{and_both, or_left, or_right}
use Rattle.lists.proofs.Passing.{some_is}
use Rattle.lists.proofs.Lowest.{lowest-none}
use Rattle.exact.proofs.Ring.{var, con, ◌⊖◌}
use Rattle.exact.proofs.Linear.{le_by, lt_by, le_to, lt_to}
use Rattle.exact.proofs.Order.{sub_pos, sub_nonneg}
use Rattle.paper.specs.Points.{times}
use Rattle.paper.specs.Drawing.{Wire, at, edge_at, vertex_on, edges_meet, edge_meets}
use Rattle.paper.specs.declared.Point.{Point}
use Rattle.paper_laws.proofs.Vectors.{num, vec, x, ◌-s◌, v, ◌+v◌, ◌-v◌, ◌*v◌, vring}
use Rattle.means_drawing.specs.Segments.{Between, Common}
use Rattle.means_drawing.proofs.Segments.{on_open_means, open_meets_means}
use Rattle.means_drawing.proofs.Drawings.Edges.{vertex_on_is, edges_meet_is}
use Rattle.means_drawing.specs.Drawings.{low_end, high_end, Vertex, HasEdge, Joined, Meets, vertex, other}

-- ---- segments from their other ends

pub between_back : (a b p : Point) → Between a b p → Between b a p
between_back a b p t =
    let S = t.here.scale in
    let T = t.here.place in
    let ρ = T ∷ S ∷ [] in
    record {
      here =
          record {
            scale = S;
            place = S -ℤ T;
            after = sub_pos t.here.before;
            before = lt_by ρ (var 1 ⊖ var 0) (var 1) (omega (arith, lt_to ρ (con (pos 0)) (var 0) t.here.after));
          };
      is =
          t.is ∙ vring (num S ∷ num T ∷ vec a ∷ vec b ∷ []) (x 0 *v v 2 +v x 1 *v (v 3 -v v 2))
          (x 0 *v v 3 +v (x 0 -s x 1) *v (v 2 -v v 3)) tt;
    }

pub common_back : (a b c d : Point) → Common a b c d → Common b a c d
common_back a b c d t =
    let S = t.here.scale in
    let T = t.here.place in
    let ρ = T ∷ S ∷ [] in
    record {
      here =
          record {
            scale = S;
            place = S -ℤ T;
            after = sub_pos t.here.before;
            before = lt_by ρ (var 1 ⊖ var 0) (var 1) (omega (arith, lt_to ρ (con (pos 0)) (var 0) t.here.after));
          };
      there = t.there;
      is =
          ap (times t.there.scale)
          (vring (num S ∷ num T ∷ vec a ∷ vec b ∷ []) (x 0 *v v 3 +v (x 0 -s x 1) *v (v 2 -v v 3)) (x 0 *v v 2 +v x 1 *v (v 3 -v v 2)) tt)
          ∙ t.is;
    }

pub common_turned : (a b c d : Point) → Common a b c d → Common a b d c
common_turned a b c d t =
    let S = t.there.scale in
    let T = t.there.place in
    let ρ = T ∷ S ∷ [] in
    record {
      here = t.here;
      there =
          record {
            scale = S;
            place = S -ℤ T;
            some = t.there.some;
            least = sub_nonneg t.there.most;
            most = le_by ρ (var 1 ⊖ var 0) (var 1) (omega (arith, le_to ρ (con (pos 0)) (var 0) t.there.least));
          };
      is =
          t.is
          ∙ ap (times t.here.scale)
          (vring (num S ∷ num T ∷ vec c ∷ vec d ∷ []) (x 0 *v v 2 +v x 1 *v (v 3 -v v 2)) (x 0 *v v 3 +v (x 0 -s x 1) *v (v 2 -v v 3))
          tt);
    }

-- ---- edges

module _ (d : Wire) where
  -- ---- 13 finds nothing: an edge whose ends are at two points meets nothing

  module _ (r13 : edge_meets d ≡ none) (e : ℕ) (h : HasEdge d e) (long : at d (low_end d e) ≡ at d (high_end d e) → ⊥) where
    abbrev on_vertex : Bool
    on_vertex = any (vertex_on d (edge_at d e)) (upto (length d.vertices))

    abbrev others : ℕ → Bool
    others f = not (eqb e f) && edges_meet d (edge_at d e) (edge_at d f)

    nothing : on_vertex || any others (upto (length d.edges)) ≡ true → ⊥
    unfolding edge_meets
    nothing t =
        true≢false
        (sym t
        ∙ lowest-none
        (λ e. any (vertex_on d (edge_at d e)) (upto (length d.vertices)) || any
        (λ f. not (eqb e f) && edges_meet d (edge_at d e) (edge_at d f)) (upto (length d.edges)))
        (length d.edges) r13 e h)

    clean : Meets d e → ⊥
    clean (vertex w k t) =
        nothing (or_left on_vertex (any others (upto (length d.edges)))
        (some_is (vertex_on d (edge_at d e)) (length d.vertices) w k
        (vertex_on_is d (edge_at d e) w ∙ (on_open_means (at d (low_end d e)) (at d (high_end d e)) (at d w) long).1 t)))
    clean (other f k ne t) =
        nothing (or_right on_vertex (any others (upto (length d.edges)))
        (some_is others (length d.edges) f k
        (and_both (ap not (ne_eqb e f ne))
        (edges_meet_is d (edge_at d e) (edge_at d f)
        ∙ (open_meets_means (at d (low_end d e)) (at d (high_end d e)) (at d (low_end d f)) (at d (high_end d f)) long).1 t))))

  -- the ends of a joined pair
  ends_two : (u w e : ℕ) → ((u ≡ low_end d e) × (w ≡ high_end d e)) ⊎ ((u ≡ high_end d e) × (w ≡ low_end d e)) → (at d u ≡ at d w → ⊥)
      → at d (low_end d e) ≡ at d (high_end d e) → ⊥
  ends_two u w e (inl p) ne q = ne (ap (at d) p.0 ∙ q ∙ ap (at d) (sym p.1))
  ends_two u w e (inr p) ne q = ne (ap (at d) p.0 ∙ sym q ∙ ap (at d) (sym p.1))

  module _ (r13 : edge_meets d ≡ none) where
    pub free : (u w z : ℕ) → Joined d u w → (at d u ≡ at d w → ⊥) → Vertex d z → Between (at d u) (at d w) (at d z) → ⊥
    free u w z j ne h t = go j.2
      where
        e : ℕ
        e = j.0

        go : ((u ≡ low_end d e) × (w ≡ high_end d e)) ⊎ ((u ≡ high_end d e) × (w ≡ low_end d e)) → ⊥
        go (inl q) =
            clean r13 e j.1 (ends_two u w e j.2 ne)
            (vertex z h
            (subst (λ (y : ℕ). Between (at d y) (at d (high_end d e)) (at d z)) q.0
            (subst (λ (y : ℕ). Between (at d u) (at d y) (at d z)) q.1 t)))
        go (inr q) = clean r13 e j.1 (ends_two u w e j.2 ne) (vertex z h (between_back (at d (high_end d e)) (at d (low_end d e)) (at d z)
            (subst (λ (y : ℕ). Between (at d y) (at d (low_end d e)) (at d z)) q.0
            (subst (λ (y : ℕ). Between (at d u) (at d y) (at d z)) q.1 t))))

    pub crossing : (u w y z : ℕ) → Joined d u w → (at d u ≡ at d w → ⊥) → Joined d y z → (u ≡ y → ⊥) → (u ≡ z → ⊥)
        → Common (at d u) (at d w) (at d y) (at d z) → ⊥
    crossing u w y z j ne l n1 n2 t = go j.2 l.2
      where
        e : ℕ
        e = j.0

        f : ℕ
        f = l.0

        meet : ((u ≡ low_end d e) ⊎ (u ≡ high_end d e)) → ((y ≡ low_end d f) × (z ≡ high_end d f)) ⊎ ((y ≡ high_end d f) × (z ≡ low_end d f)) → e ≡ f → ⊥
        meet (inl p) (inl q) s = n1 (p ∙ ap (low_end d) s ∙ sym q.0)
        meet (inl p) (inr q) s = n2 (p ∙ ap (low_end d) s ∙ sym q.1)
        meet (inr p) (inl q) s = n2 (p ∙ ap (high_end d) s ∙ sym q.1)
        meet (inr p) (inr q) s = n1 (p ∙ ap (high_end d) s ∙ sym q.0)

        second : (a b : ℕ) → Common (at d a) (at d b) (at d y) (at d z)
            → ((y ≡ low_end d f) × (z ≡ high_end d f)) ⊎ ((y ≡ high_end d f) × (z ≡ low_end d f))
            → Common (at d a) (at d b) (at d (low_end d f)) (at d (high_end d f))
        second a b c (inl q) =
            subst (λ (i : ℕ). Common (at d a) (at d b) (at d i) (at d (high_end d f))) q.0
            (subst (λ (i : ℕ). Common (at d a) (at d b) (at d y) (at d i)) q.1 c)
        second a b c (inr q) = common_turned (at d a) (at d b) (at d (high_end d f)) (at d (low_end d f))
            (subst (λ (i : ℕ). Common (at d a) (at d b) (at d i) (at d (low_end d f))) q.0
            (subst (λ (i : ℕ). Common (at d a) (at d b) (at d y) (at d i)) q.1 c))

        go : ((u ≡ low_end d e) × (w ≡ high_end d e)) ⊎ ((u ≡ high_end d e) × (w ≡ low_end d e))
            → ((y ≡ low_end d f) × (z ≡ high_end d f)) ⊎ ((y ≡ high_end d f) × (z ≡ low_end d f)) → ⊥
        go (inl p) q = clean r13 e j.1 (ends_two u w e j.2 ne) (other f l.1 (meet (inl p.0) q)
            (second (low_end d e) (high_end d e)
            (subst (λ (i : ℕ). Common (at d i) (at d (high_end d e)) (at d y) (at d z)) p.0
            (subst (λ (i : ℕ). Common (at d u) (at d i) (at d y) (at d z)) p.1 t)) q))
        go (inr p) q = clean r13 e j.1 (ends_two u w e j.2 ne) (other f l.1 (meet (inr p.0) q)
            (second (low_end d e) (high_end d e) (common_back (at d (high_end d e)) (at d (low_end d e)) (at d y) (at d z)
            (subst (λ (i : ℕ). Common (at d i) (at d (low_end d e)) (at d y) (at d z)) p.0
            (subst (λ (i : ℕ). Common (at d u) (at d i) (at d y) (at d z)) p.1 t))) q))
