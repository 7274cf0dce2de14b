-- Drawings that no test tells apart: the same checks, loops, candidates and tables, but for the parts of six volumes.
use mathlib.Core.Path.{◌≡◌, sym, ap, ap₂, ◌∙◌, subst}
use mathlib.Core.Option.{none}
use mathlib.Core.Bool.{Bool, true, false, not, ◌&&◌, ◌||◌, cond}
use mathlib.Core.List.{List, [], ◌∷◌, map}
use Prim.Native.Nat.{ℕ, zero, suc, ◌<◌}
use native.Mathlib.Omega.{arith}
use lib.Dec.{eqb, ltb}
use lib.ListN.{length, get_or}
use Rattle.lists.specs.Lists.{any, filter, keep, upto, lowest}
use Rattle.lists.proofs.Places.{map_at, any-below-same}
use Rattle.lists.proofs.Agreeing.{lowest-same, filter_same, map_same}
use Rattle.paper.specs.Refusals as No
use Rattle.paper.specs.Refusals.{check}
use Rattle.paper.specs.Points.{same_point}
use Rattle.paper.specs.Polygon.{covers}
use Rattle.paper.specs.Drawing.{
  Wire,
  Edge,
  edge,
  at,
  edge_at,
  joins,
  joined,
  ends,
  same_place,
  loose_vertex,
  vertex_on,
  edges_meet,
  edge_meets,
  further,
  vertices_reached,
  apart,
  drawing_checks,
}
use Rattle.paper.specs.Loops.{Loop, loop_at, ext, loops, level, polygon, covers_other, uncovering}
use Rattle.paper.specs.Clash.{clash}
use Rattle.paper.specs.Solids.{has, runs_up, clashing, tables_of}
use Rattle.paper.specs.Numbers.{most_corners}
use Rattle.means_area.proofs.Loops.{loops_hold}
use Rattle.means_loops.proofs.Listing.{bare_are}
use Rattle.means_moves.specs.Moves.{HasPlane}
use Rattle.means_moves.specs.Alike.{EdgeBelow, EndsBelow, AllBelow, AllPlane, Alike}
use Rattle.means_moves.proofs.Below.{all-at, ext_same, ext-below}

filter-below : (n : ℕ) (p : ℕ → Bool) (ls : List Loop) → AllBelow n ls → (ks : List ℕ) → AllBelow n (map (loop_at ls) (filter p ks))
unfolding filter
filter-below n p ls b [] = tt
filter-below n p ls b (k ∷ ks) = go (p k) (filter-below n p ls b ks)
  where
    go : (t : Bool) → AllBelow n (map (loop_at ls) (filter p ks)) → AllBelow n (map (loop_at ls) (keep t k (filter p ks)))
    go true r = unfold keep in (all-at n ls k b, r)
    go false r = unfold keep in r

-- 11 and 13 have seen to it that each loop has a plane, and so has each candidate
module _ (d : Wire) (r11 : same_place d ≡ none) (r13 : edge_meets d ≡ none) where
  pub loops_plane : AllPlane d (loops d)
  unfolding polygon
  loops_plane k l = let w = loops_hold d r11 r13 k l in record { normal_real = w.normal_real; plane_holds = w.plane_holds }

  pub bare_plane : AllPlane d (uncovering d (loops d))
  bare_plane k l =
      let w = bare_are d (loops d) k l in
      subst (λ (c : Loop). HasPlane (polygon d c)) (sym w.2) (loops_plane w.0 w.1)

module _ (d e : Wire) (h : Alike d e) where
  abbrev n : ℕ
  n = length d.vertices

  -- ---- 11 to 14

  place_same : same_place e ≡ same_place d
  unfolding same_place
  place_same =
      ap (λ (k : ℕ). lowest (λ u. any (λ v. not (eqb u v) && same_point (at e u) (at e v)) (upto k)) k) h.as_many
      ∙ lowest-same (λ u. any (λ v. not (eqb u v) && same_point (at e u) (at e v)) (upto n))
      (λ u. any (λ v. not (eqb u v) && same_point (at d u) (at d v)) (upto n)) n
      (λ u a. any-below-same (λ v. not (eqb u v) && same_point (at e u) (at e v)) n (λ v. not (eqb u v) && same_point (at d u) (at d v))
      (λ v b. ap (λ (t : Bool). not (eqb u v) && t) (h.same u v (a, (b, tt)))))

  loose_same : loose_vertex e ≡ loose_vertex d
  unfolding loose_vertex
  loose_same = ap₂ (λ (es : List Edge) (k : ℕ). lowest (λ v. not (any (ends v) es)) k) h.edges h.as_many

  joined_same : (u v : ℕ) → joined e u v ≡ joined d u v
  unfolding joined
  joined_same u v = ap (any (joins u v)) h.edges

  reached_same : (k : ℕ) → vertices_reached e k ≡ vertices_reached d k
  unfolding vertices_reached further
  reached_same zero = ap (λ (k : ℕ). map (eqb 0) (upto k)) h.as_many
  reached_same (suc k) =
      ap₂ (λ (j : ℕ) (marks : List Bool). map (λ v. get_or marks v false || any (λ u. get_or marks u false && joined e u v) (upto j)) (upto j))
      h.as_many (reached_same k)
      ∙ (λ i. map (λ v. get_or (vertices_reached d k) v false || any (λ u. get_or (vertices_reached d k) u false && joined_same u v i) (upto n))
      (upto n))

  apart-same : apart e ≡ apart d
  unfolding apart
  apart-same =
      ap (λ (k : ℕ). lowest (λ v. not (get_or (vertices_reached e k) v false)) k) h.as_many
      ∙ ap (λ (marks : List Bool). lowest (λ v. not (get_or marks v false)) n) (reached_same n)

  module _ (ok : EndsBelow d) where
    on_same : (x : Edge) (v : ℕ) → EdgeBelow n x → v < n → vertex_on e x v ≡ vertex_on d x v
    unfolding vertex_on
    on_same (edge a b) v p q = h.on a b v (p.0, (p.1, (q, tt)))

    meet_same : (x y : Edge) → EdgeBelow n x → EdgeBelow n y → edges_meet e x y ≡ edges_meet d x y
    unfolding edges_meet
    meet_same (edge a b) (edge u v) p q = h.meet a b u v (p.0, (p.1, (q.0, (q.1, tt))))

    at_same : (k : ℕ) → edge_at e k ≡ edge_at d k
    unfolding edge_at
    at_same k = ap (λ (es : List Edge). get_or es k (edge 0 0)) h.edges

    meets-same : edge_meets e ≡ edge_meets d
    unfolding edge_meets
    meets-same =
        ap₂ (λ (j m : ℕ). lowest (λ k. any (vertex_on e (edge_at e k)) (upto j)
        || any (λ f. not (eqb k f) && edges_meet e (edge_at e k) (edge_at e f)) (upto m)) m) h.as_many (ap length h.edges)
        ∙ lowest-same
        (λ k. any (vertex_on e (edge_at e k)) (upto n)
        || any (λ f. not (eqb k f) && edges_meet e (edge_at e k) (edge_at e f)) (upto (length d.edges)))
        (λ k. any (vertex_on d (edge_at d k)) (upto n)
        || any (λ f. not (eqb k f) && edges_meet d (edge_at d k) (edge_at d f)) (upto (length d.edges))) (length d.edges)
        (λ k l. ap₂ ◌||◌
        (any-below-same (vertex_on e (edge_at e k)) n (vertex_on d (edge_at d k))
        (λ v q. ap (λ (x : Edge). vertex_on e x v) (at_same k) ∙ on_same (edge_at d k) v (ok k l) q))
        (any-below-same (λ f. not (eqb k f) && edges_meet e (edge_at e k) (edge_at e f)) (length d.edges)
        (λ f. not (eqb k f) && edges_meet d (edge_at d k) (edge_at d f))
        (λ f m. ap (λ (t : Bool). not (eqb k f) && t)
        (ap₂ (edges_meet e) (at_same k) (at_same f) ∙ meet_same (edge_at d k) (edge_at d f) (ok k l) (ok f m)))))

    pub checks_same : drawing_checks e ≡ drawing_checks d
    unfolding drawing_checks
    checks_same =
        λ i. check No.SamePlace (place_same i) ∷ check No.LooseVertex (loose_same i) ∷ check No.EdgeMeets (meets-same i)
        ∷ check No.Apart (apart-same i) ∷ []

  -- ---- loops

  pub loops-same : loops e ≡ loops d
  unfolding loops
  loops-same =
      ap₂ (λ (k : ℕ) (f : ℕ → ℕ → Bool). ext k f (level e) most_corners [] 0) h.as_many
      (λ i. λ u v. joined_same u v i)
      ∙ ext_same n (joined d) (level d) (level e) h.plane most_corners [] 0 tt (omega arith)

  pub loops-below : AllBelow n (loops d)
  unfolding loops
  loops-below = ext-below n (joined d) (level d) most_corners [] 0 tt (omega arith)

  -- ---- candidates

  module _ (ls : List Loop) (b : AllBelow n ls) where
    module _ (planes : AllPlane d ls) where
      other-same : (i : ℕ) → i < length ls → covers_other e ls i ≡ covers_other d ls i
      unfolding covers_other
      other-same i l =
          any-below-same (λ j. not (eqb i j) && covers (polygon e (loop_at ls i)) (polygon e (loop_at ls j))) (length ls)
          (λ j. not (eqb i j) && covers (polygon d (loop_at ls i)) (polygon d (loop_at ls j)))
          (λ j k. ap (λ (t : Bool). not (eqb i j) && t)
          (h.cover (loop_at ls i) (loop_at ls j) (all-at n ls i b) (all-at n ls j b) (planes i l)))

      pub uncovering-same : uncovering e ls ≡ uncovering d ls
      unfolding uncovering
      uncovering-same =
          ap (map (loop_at ls))
          (filter_same (λ i. not (covers_other e ls i)) (λ i. not (covers_other d ls i)) (length ls) (λ i l. ap not (other-same i l)))

    pub uncovering-below : AllBelow n (uncovering d ls)
    unfolding uncovering
    uncovering-below = filter-below n (λ i. not (covers_other d ls i)) ls b (upto (length ls))

  -- ---- tables

  module _ (cs : List Loop) where
    pub masks_same : (tables_of e cs).masks ≡ (tables_of d cs).masks
    unfolding tables_of
    masks_same = ap (map (λ x. map (has x) cs)) h.edges

    pub ups_same : (tables_of e cs).ups ≡ (tables_of d cs).ups
    unfolding tables_of
    ups_same = ap (map (λ x. map (runs_up x) cs)) h.edges

    module _ (b : AllBelow n cs) (planes : AllPlane d cs) where
      clash-at : (i j : ℕ) → i < length cs → j < length cs
          → clash (get_or (map (polygon e) cs) i []) (get_or (map (polygon e) cs) j [])
          ≡ clash (get_or (map (polygon d) cs) i []) (get_or (map (polygon d) cs) j [])
      clash-at i j p q =
          ap₂ clash (map_at (polygon e) cs i [] [] p) (map_at (polygon e) cs j [] [] q)
          ∙ h.clashes (loop_at cs i) (loop_at cs j) (all-at n cs i b) (all-at n cs j b) (planes i p) (planes j q)
          ∙ sym (ap₂ clash (map_at (polygon d) cs i [] [] p) (map_at (polygon d) cs j [] [] q))

      clashing-same : (i j : ℕ) → i < length cs → j < length cs → clashing (map (polygon e) cs) i j ≡ clashing (map (polygon d) cs) i j
      unfolding clashing
      clashing-same i j p q = λ k. cond (ltb i j) (clash-at i j p q k) (ltb j i && clash-at j i q p k)

      pub clashes-same : (tables_of e cs).clashes ≡ (tables_of d cs).clashes
      unfolding tables_of
      clashes-same =
          map_same (λ i. map (clashing (map (polygon e) cs) i) (upto (length cs)))
          (λ i. map (clashing (map (polygon d) cs) i) (upto (length cs)))
          (length cs)
          (λ i p. map_same (clashing (map (polygon e) cs) i) (clashing (map (polygon d) cs) i) (length cs) (λ j q. clashing-same i j p q))
