-- 12, 13 and 14 under new numbers: what passes one drawing passes the other.
use mathlib.Core.Path.{◌≡◌, refl, sym, ap, ap₂, ◌∙◌, subst}
use mathlib.Core.Logic.{◌⊎◌, inl, inr}
use mathlib.Core.Option.{none}
use Prim.Native.Nat.{ℕ, ◌<◌}
use native.Mathlib.Omega.{arith}
use lib.ListN.{length}
use Rattle.means_area.proofs.Loops.Places.{by_edge}
use Rattle.means_area.proofs.Loops.Edges.{between_back, common_back, common_turned}
use Rattle.paper.specs.Drawing.{Wire, Edge, edge, edge_at, at, same_place, loose_vertex, edge_meets, apart}
use Rattle.paper.specs.declared.Point.{Point}
use Rattle.means_drawing.specs.Segments.{Between, Common}
use Rattle.means_drawing.specs.Drawings.{start, stop, Vertex, HasEdge, low_end, high_end, EndOf, Meets, vertex, other, Joined, Reachable, first, next, Rising}
use Rattle.means_drawing.proofs.Drawings.{loose_vertex_means, edge_meets_means, long_edges, apart_means}
use Rattle.means_loops.specs.Path.{EdgeOf}
use Rattle.means_moves.specs.Renumbered.{BothWays}
use Rattle.means_moves.proofs.Renamed.{edge-over, edge-under, edge_high}
use Rattle.means_moves.proofs.Undone.{places_over}

-- ---- edges by their places and by their ends

module _ (d : Wire) where
  -- no edge stands twice: 10 has seen to it
  abbrev pub Once : Type 0
  Once = (i j : ℕ) → i < length d.edges → j < length d.edges → edge_at d i ≡ edge_at d j → i ≡ j

  whole-edge : (x : Edge) → x ≡ edge (start x) (stop x)
  whole-edge (edge a b) = refl

  edge_of : (i : ℕ) → HasEdge d i → EdgeOf d (low_end d i) (high_end d i)
  edge_of i h = (i, h, inl (whole-edge (edge_at d i)))

  joined-edge : (u w : ℕ) → Joined d u w → EdgeOf d u w
  joined-edge u w (i, h, inl p) = subst (λ (a : ℕ). EdgeOf d a w) (sym p.0) (subst (EdgeOf d (low_end d i)) (sym p.1) (edge_of i h))
  joined-edge u w (i, h, inr p) =
      subst (λ (a : ℕ). EdgeOf d a w) (sym p.0) (subst (EdgeOf d (high_end d i)) (sym p.1) (i, h, inr (whole-edge (edge_at d i))))

module _ {new old : ℕ → ℕ} {d e : Wire} (r : BothWays new old d e) where
  at_old : (u : ℕ) → u < length d.vertices → at e u ≡ at d (old u)
  at_old u h = sym (ap (at e) (r.new_old u h)) ∙ r.place (old u) (r.old_below u h)

  -- 12
  pub loose_over : loose_vertex d ≡ none → loose_vertex e ≡ none
  loose_over h =
      (loose_vertex_means e).1 (λ u hu.
      let l : u < length d.vertices = omega (arith, r.as_many) in
      let w = (loose_vertex_means d).0 h (old u) (r.old_below u l) in
      on u w.0 w.2 (edge-over r (low_end d w.0) (high_end d w.0) (edge_of d w.0 w.1)) (r.new_old u l))
    where
      on : (u i : ℕ) → EndOf d i (old u) → EdgeOf e (new (low_end d i)) (new (high_end d i)) → new (old u) ≡ u → (j : ℕ) × HasEdge e j × EndOf e j u
      on u i (inl p) (j, k, inl q) z = (j, k, inl (sym z ∙ ap new p ∙ sym (ap start q)))
      on u i (inl p) (j, k, inr q) z = (j, k, inr (sym z ∙ ap new p ∙ sym (ap stop q)))
      on u i (inr p) (j, k, inl q) z = (j, k, inr (sym z ∙ ap new p ∙ sym (ap stop q)))
      on u i (inr p) (j, k, inr q) z = (j, k, inl (sym z ∙ ap new p ∙ sym (ap start q)))

  -- 14
  module _ (all : (u : ℕ) → Vertex d u → Reachable d u) where
    start_reached : (u : ℕ) → Reachable d u → Reachable e (new u) → Reachable e (new 0)
    start_reached u first q = q
    start_reached u (next {u = t} s j h) q =
        let g = edge-over r t u (joined-edge d t u j) in
        let l = edge_high r (new t) (new u) g in
        start_reached t s (next q (by_edge e (new u) (new t) (back g)) (omega (arith, l.0, r.as_many)))
      where
        back : EdgeOf e (new t) (new u) → EdgeOf e (new u) (new t)
        back (i, h, inl p) = (i, h, inr p)
        back (i, h, inr p) = (i, h, inl p)

    reached_over : (u : ℕ) → Reachable e (new 0) → Reachable d u → Reachable e (new u)
    reached_over u q first = q
    reached_over u q (next {u = t} s j h) =
        let g = edge-over r t u (joined-edge d t u j) in
        let l = edge_high r (new t) (new u) g in
        next (reached_over t q s) (by_edge e (new t) (new u) g) (omega (arith, l.1, r.as_many))

    reached_all : (u : ℕ) → Vertex e u → Reachable e u
    reached_all u h =
        let l : u < length d.vertices = omega (arith, r.as_many) in
        let z : 0 < length d.vertices = omega arith in
        let o = start_reached (old 0) (all (old 0) (r.old_below 0 z)) (subst (Reachable e) (sym (r.new_old 0 z)) first) in
        subst (Reachable e) (r.new_old u l) (reached_over (old u) o (all (old u) (r.old_below u l)))

  pub apart-over : apart d ≡ none → apart e ≡ none
  apart-over h = (apart_means e).1 (reached_all ((apart_means d).0 h))

  -- 13
  module _ (rises : Rising d) (rises-too : Rising e) (once : Once e) where
    -- an edge over there, by its place here
    record Here (i : ℕ) : Type 0 where
      at_d : ℕ
      has : HasEdge d at_d
      is : (edge_at d at_d ≡ edge (old (low_end e i)) (old (high_end e i))) ⊎ (edge_at d at_d ≡ edge (old (high_end e i)) (old (low_end e i)))
      start_low : low_end e i < length d.vertices
      stop_low : high_end e i < length d.vertices

    here : (i : ℕ) → HasEdge e i → Here i
    here i h =
        let g = edge_of e i h in
        let w = edge-under r (low_end e i) (high_end e i) g in
        let l = edge_high r (low_end e i) (high_end e i) g in
        record { at_d = w.0; has = w.1; is = w.2; start_low = l.0; stop_low = l.1 }

    -- no two have one place
    place_one : (i j k : ℕ) → HasEdge e i → HasEdge e j → (a : Here i) (b : Here j) → a.at_d ≡ k → b.at_d ≡ k → i ≡ j
    place_one i j k hi hj a b p q =
        go (subst Pair p a.is) (subst Pair' q b.is)
      where
        Pair : ℕ → Type 0
        Pair m = (edge_at d m ≡ edge (old (low_end e i)) (old (high_end e i))) ⊎ (edge_at d m ≡ edge (old (high_end e i)) (old (low_end e i)))

        Pair' : ℕ → Type 0
        Pair' m = (edge_at d m ≡ edge (old (low_end e j)) (old (high_end e j))) ⊎ (edge_at d m ≡ edge (old (high_end e j)) (old (low_end e j)))

        up : (u w : ℕ) → u < length d.vertices → w < length d.vertices → old u ≡ old w → u ≡ w
        up u w lu lw z = sym (r.new_old u lu) ∙ ap new z ∙ r.new_old w lw

        same : low_end e i ≡ low_end e j → high_end e i ≡ high_end e j → i ≡ j
        same x y = once i j hi hj (whole-edge e (edge_at e i) ∙ ap₂ edge x y ∙ sym (whole-edge e (edge_at e j)))

        turned : {A : Type 0} → low_end e i ≡ high_end e j → high_end e i ≡ low_end e j → A
        turned x y = absurd (omega (arith, (rises-too i hi).0, (rises-too j hj).0))

        go : Pair k → Pair' k → i ≡ j
        go (inl x) (inl y) =
            same (up (low_end e i) (low_end e j) a.start_low b.start_low (ap start (sym x ∙ y)))
            (up (high_end e i) (high_end e j) a.stop_low b.stop_low (ap stop (sym x ∙ y)))
        go (inr x) (inr y) =
            same (up (low_end e i) (low_end e j) a.start_low b.start_low (ap stop (sym x ∙ y)))
            (up (high_end e i) (high_end e j) a.stop_low b.stop_low (ap start (sym x ∙ y)))
        go (inl x) (inr y) =
            turned (up (low_end e i) (high_end e j) a.start_low b.stop_low (ap start (sym x ∙ y)))
            (up (high_end e i) (low_end e j) a.stop_low b.start_low (ap stop (sym x ∙ y)))
        go (inr x) (inl y) =
            turned (up (low_end e i) (high_end e j) a.start_low b.stop_low (ap stop (sym x ∙ y)))
            (up (high_end e i) (low_end e j) a.stop_low b.start_low (ap start (sym x ∙ y)))

    -- its segment, one way or the other
    ends_at : (i : ℕ) (a : Here i) → ((at d (low_end d a.at_d) ≡ at e (low_end e i)) × (at d (high_end d a.at_d) ≡ at e (high_end e i)))
        ⊎ ((at d (low_end d a.at_d) ≡ at e (high_end e i)) × (at d (high_end d a.at_d) ≡ at e (low_end e i)))
    ends_at i a = go a.is
      where
        go : (edge_at d a.at_d ≡ edge (old (low_end e i)) (old (high_end e i))) ⊎ (edge_at d a.at_d ≡ edge (old (high_end e i)) (old (low_end e i)))
            → ((at d (low_end d a.at_d) ≡ at e (low_end e i)) × (at d (high_end d a.at_d) ≡ at e (high_end e i)))
            ⊎ ((at d (low_end d a.at_d) ≡ at e (high_end e i)) × (at d (high_end d a.at_d) ≡ at e (low_end e i)))
        go (inl x) =
            inl (
              ap (at d) (ap start x) ∙ sym (at_old (low_end e i) a.start_low),
              ap (at d) (ap stop x) ∙ sym
                  (at_old (high_end e i) a.stop_low),
            )
        go (inr x) =
            inr (
              ap (at d) (ap start x) ∙ sym (at_old (high_end e i) a.stop_low),
              ap (at d) (ap stop x) ∙ sym
                  (at_old (low_end e i) a.start_low),
            )

    meets_under : (i : ℕ) (h : HasEdge e i) → Meets e i → Meets d (here i h).at_d
    meets_under i h (vertex w hw b) =
        let l : w < length d.vertices = omega (arith, r.as_many) in
        vertex (old w) (r.old_below w l) (subst (Between (at d (low_end d k)) (at d (high_end d k))) (at_old w l) (go (ends_at i a)))
      where
        a : Here i
        a = here i h

        k : ℕ
        k = a.at_d

        go : ((at d (low_end d k) ≡ at e (low_end e i)) × (at d (high_end d k) ≡ at e (high_end e i)))
            ⊎ ((at d (low_end d k) ≡ at e (high_end e i)) × (at d (high_end d k) ≡ at e (low_end e i))) → Between (at d (low_end d k)) (at d (high_end d k)) (at e w)
        go (inl p) =
            subst (λ (z : Point). Between z (at d (high_end d k)) (at e w)) (sym p.0)
            (subst (λ (z : Point). Between (at e (low_end e i)) z (at e w)) (sym p.1) b)
        go (inr p) =
            subst (λ (z : Point). Between z (at d (high_end d k)) (at e w)) (sym p.0)
            (subst (λ (z : Point). Between (at e (high_end e i)) z (at e w)) (sym p.1)
            (between_back (at e (low_end e i)) (at e (high_end e i)) (at e w) b))
    meets_under i h (other f hf ne c) =
        other m b.has (λ z. ne (place_one i f m h hf a b z refl)) (second (ends_at f b) (first_of (ends_at i a)))
      where
        a : Here i
        a = here i h

        b : Here f
        b = here f hf

        k : ℕ
        k = a.at_d

        m : ℕ
        m = b.at_d

        first_of : ((at d (low_end d k) ≡ at e (low_end e i)) × (at d (high_end d k) ≡ at e (high_end e i)))
            ⊎ ((at d (low_end d k) ≡ at e (high_end e i)) × (at d (high_end d k) ≡ at e (low_end e i)))
            → Common (at d (low_end d k)) (at d (high_end d k)) (at e (low_end e f)) (at e (high_end e f))
        first_of (inl p) =
            subst (λ (z : Point). Common z (at d (high_end d k)) (at e (low_end e f)) (at e (high_end e f))) (sym p.0)
            (subst (λ (z : Point). Common (at e (low_end e i)) z (at e (low_end e f)) (at e (high_end e f))) (sym p.1) c)
        first_of (inr p) =
            subst (λ (z : Point). Common z (at d (high_end d k)) (at e (low_end e f)) (at e (high_end e f))) (sym p.0)
            (subst (λ (z : Point). Common (at e (high_end e i)) z (at e (low_end e f)) (at e (high_end e f))) (sym p.1)
            (common_back (at e (low_end e i)) (at e (high_end e i)) (at e (low_end e f)) (at e (high_end e f)) c))

        second : ((at d (low_end d m) ≡ at e (low_end e f)) × (at d (high_end d m) ≡ at e (high_end e f)))
            ⊎ ((at d (low_end d m) ≡ at e (high_end e f)) × (at d (high_end d m) ≡ at e (low_end e f)))
            → Common (at d (low_end d k)) (at d (high_end d k)) (at e (low_end e f)) (at e (high_end e f))
            → Common (at d (low_end d k)) (at d (high_end d k)) (at d (low_end d m)) (at d (high_end d m))
        second (inl p) q =
            subst (λ (z : Point). Common (at d (low_end d k)) (at d (high_end d k)) z (at d (high_end d m))) (sym p.0)
            (subst (λ (z : Point). Common (at d (low_end d k)) (at d (high_end d k)) (at e (low_end e f)) z) (sym p.1) q)
        second (inr p) q =
            subst (λ (z : Point). Common (at d (low_end d k)) (at d (high_end d k)) z (at d (high_end d m))) (sym p.0)
            (subst (λ (z : Point). Common (at d (low_end d k)) (at d (high_end d k)) (at e (high_end e f)) z) (sym p.1)
            (common_turned (at d (low_end d k)) (at d (high_end d k)) (at e (low_end e f)) (at e (high_end e f)) q))

    pub meets-over : same_place d ≡ none → edge_meets d ≡ none → edge_meets e ≡ none
    meets-over s h =
        (edge_meets_means e (long_edges e rises-too (places_over r s))).1
        (λ i k m. (edge_meets_means d (long_edges d rises s)).0 h (here i k).at_d (here i k).has (meets_under i k m))
