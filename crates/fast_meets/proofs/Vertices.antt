-- Where 9, 11 and 12 have passed, an edge that meets a vertex meets an edge that ends there.
use mathlib.Core.Path.{◌≡◌, sym, ◌∙◌, ap, subst}
use mathlib.Core.Bool.{Bool, true, not, ◌&&◌, true≢false}
use mathlib.Core.Logic.{inl, inr, ◌↔◌}
use mathlib.Core.List.{[], ◌∷◌}
use Prim.Native.Nat.{ℕ}
use borrow.Author.Tests.{eq-eqb, ne_eqb, not-true}
use lib.Dec.{eqb}
use lib.IntN.{ℤ, pos, negsuc, ◌-ℤ◌}
use lib.ListN.{length}
use lib.Signed.{≤ℤ_refl}
use Rattle.exact.proofs.Signs.{<ℤ-≤ℤ, pos-ne}
use Rattle.exact.proofs.Order.{sub_pos, one_pos}
use Rattle.lists.specs.Lists.{lowest}
use Rattle.lists.proofs.Truth.{and_left, and_right, and_both}
use Rattle.lists.proofs.Passing.{some_yes, some_is}
use Rattle.paper.specs.Points.{minus, times}
use Rattle.paper.specs.Drawing.{Wire, at, edge_at, open_meets, edge_meets}
use Rattle.paper.specs.declared.Point.{Point}
use Rattle.paper_laws.proofs.Points.{differ, from_eq, scale_zero}
use Rattle.paper_laws.proofs.Vectors.{num, vec, k, x, ◌-s◌, o, v, ◌+v◌, ◌-v◌, ◌*v◌, vring}
use Rattle.means_drawing.specs.Segments.{Between, Common, along}
use Rattle.means_drawing.specs.Drawings.{low_end, high_end, HasEdge, EndOf, Long, Meets, vertex, other}
use Rattle.means_drawing.proofs.Segments.{open_meets_means}
use Rattle.means_drawing.proofs.Drawings.{loose_vertex_means, edge_meets_finds, long_edges}
use Rattle.means_drawing.proofs.Searches.{finds}
use Rattle.means_drawing.proofs.Drawings.Edges.{edges_meet_is}
use Rattle.fast_meets.specs.Pairs.{meet_at}
use Rattle.fast_meets.specs.Theorems.{Tied, met_at, EdgesTell}
use Rattle.fast_meets.proofs.Searches.{finds_one}

-- ---- a point between two others

module _ {a b p : Point} (t : Between a b p) where
  abbrev D : ℤ
  D = t.here.scale

  abbrev P : ℤ
  P = t.here.place

  alone : (y : Point) → times (pos 1) y ≡ y
  alone y = vring (vec y ∷ []) (k (pos 1) *v v 0) (v 0) tt

  -- any segment that starts there, or stops there, has it in common
  starts : (d : Point) → Common a b p d
  starts d = record {
    here = t.here;
    there = record { scale = pos 1; place = pos 0; some = one_pos; least = ≤ℤ_refl (pos 0); most = <ℤ-≤ℤ one_pos };
    is = alone (along D P a b) ∙ sym t.is
        ∙ vring (num D ∷ vec p ∷ vec d ∷ []) (x 0 *v v 1) (x 0 *v (k (pos 1) *v v 1 +v k (pos 0) *v (v 2 -v v 1))) tt;
  }

  stops : (c : Point) → Common a b c p
  stops c = record {
    here = t.here;
    there = record { scale = pos 1; place = pos 1; some = one_pos; least = <ℤ-≤ℤ one_pos; most = ≤ℤ_refl (pos 1) };
    is = alone (along D P a b) ∙ sym t.is
        ∙ vring (num D ∷ vec p ∷ vec c ∷ []) (x 0 *v v 1) (x 0 *v (k (pos 1) *v v 2 +v k (pos 1) *v (v 1 -v v 2))) tt;
  }

-- it is neither of the two
module _ {a b : Point} (long : a ≡ b → ⊥) where
  not_start : Between a b a → ⊥
  not_start t =
      let D = t.here.scale in
      let P = t.here.place in
      differ long (scale_zero P (minus b a) (pos-ne t.here.after)
      (from_eq (negsuc 0) (vring (num D ∷ num P ∷ vec a ∷ vec b ∷ []) (x 1 *v (v 3 -v v 2) -v o)
      (k (negsuc 0) *v (x 0 *v v 2 -v (x 0 *v v 2 +v x 1 *v (v 3 -v v 2)))) tt) t.is))

  not_stop : Between a b b → ⊥
  not_stop t =
      let D = t.here.scale in
      let P = t.here.place in
      differ long (scale_zero (D -ℤ P) (minus b a) (pos-ne (sub_pos t.here.before))
      (from_eq (pos 1) (vring (num D ∷ num P ∷ vec a ∷ vec b ∷ []) ((x 0 -s x 1) *v (v 3 -v v 2) -v o)
      (k (pos 1) *v (x 0 *v v 3 -v (x 0 *v v 2 +v x 1 *v (v 3 -v v 2)))) tt) t.is))

-- ---- an edge that meets a vertex or an edge meets an edge

module _ (d : Wire) where
  abbrev A : ℕ → Point
  A e = at d (low_end d e)

  abbrev B : ℕ → Point
  B e = at d (high_end d e)

  meet_is : (e f : ℕ) → meet_at d e f ≡ open_meets (A e) (B e) (A f) (B f)
  unfolding meet_at
  meet_is e f = edges_meet_is d (edge_at d e) (edge_at d f)

  -- edge e shares a point with another edge, not at its own ends
  abbrev pub Other : ℕ → Type 0
  Other e = (f : ℕ) × HasEdge d f × (e ≡ f → ⊥) × (meet_at d e f ≡ true)

  -- vertex w, which is between the ends of e, is an end of f
  at-end : (e f w : ℕ) → (A e ≡ B e → ⊥) → HasEdge d f → Between (A e) (B e) (at d w) → EndOf d f w → Other e
  at-end e f w long h t (inl q) = (
    f,
    h,
    (λ s. not_start long (subst (λ (u : ℕ). Between (A e) (B e) (at d u)) (q ∙ ap (low_end d) (sym s)) t)),
    meet_is e f ∙ (open_meets_means (A e) (B e) (A f) (B f) long).1
        (subst (λ (u : ℕ). Common (A e) (B e) (at d u) (B f)) q (starts t (B f))),
  )
  at-end e f w long h t (inr q) = (
    f,
    h,
    (λ s. not_stop long (subst (λ (u : ℕ). Between (A e) (B e) (at d u)) (q ∙ ap (high_end d) (sym s)) t)),
    meet_is e f ∙ (open_meets_means (A e) (B e) (A f) (B f) long).1
        (subst (λ (u : ℕ). Common (A e) (B e) (A f) (at d u)) q (stops t (A f))),
  )

  module _ (t : Tied d) where
    long : Long d
    long = long_edges d t.rising t.places

    meets-other : (e : ℕ) → HasEdge d e → Meets d e ↔ Other e
    meets-other e h = (to-other, of_other)
      where
        to-other : Meets d e → Other e
        to-other (vertex w l b) = let f = (loose_vertex_means d).0 t.tied w l in at-end e f.0 w (long e h) f.1 b f.2
        to-other (other f l ne b) = (f, l, ne, meet_is e f ∙ (open_meets_means (A e) (B e) (A f) (B f) (long e h)).1 b)

        of_other : Other e → Meets d e
        of_other (f, l, ne, b) = other f l ne ((open_meets_means (A e) (B e) (A f) (B f) (long e h)).0 (sym (meet_is e f) ∙ b))

    -- what a search for such an edge finds is the answer of 13
    pub by_others : (q : ℕ → Bool) → ((e : ℕ) → HasEdge d e → (q e ≡ true) ↔ Other e) → edge_meets d ≡ lowest q (length d.edges)
    by_others q f =
        let n = length d.edges in
        finds_one (Meets d) n (edge_meets d) (lowest q n) (edge_meets_finds d long)
        (finds q (Meets d) n (λ e h.
        ((λ r. (meets-other e h).1 ((f e h).0 r)), (λ m. (f e h).1 ((meets-other e h).0 m)))))

  met_means : (e : ℕ) → HasEdge d e → (met_at d e ≡ true) ↔ Other e
  met_means e h = (to-other, of_other)
    where
      n : ℕ
      n = length d.edges

      q : ℕ → Bool
      q f = not (eqb e f) && meet_at d e f

      to-other : met_at d e ≡ true → Other e
      to-other r =
          let s = some_yes q n r in
          let f = s.0 in
          let u = and_left (not (eqb e f)) (meet_at d e f) s.2 in
          (f, s.1, (λ z. true≢false (sym (eq-eqb e f z) ∙ not-true (eqb e f) u)), and_right (not (eqb e f)) (meet_at d e f) s.2)

      of_other : Other e → met_at d e ≡ true
      of_other (f, l, ne, b) = some_is q n f l (and_both (ap not (ne_eqb e f ne)) b)

  pub edges_tell : EdgesTell d
  edges_tell t = by_others t (met_at d) met_means
