-- The loops that are listed are the closed paths of document 01, each once: whatever start and direction a closed path has, its normal
-- form
-- is listed, and two closed paths have one normal form just where they differ only in start or direction.
use mathlib.Core.Path.{◌≡◌, refl, sym, ap, ap₂, subst, ◌∙◌}
use mathlib.Core.Bool.{Bool, true, false, cond}
use mathlib.Core.Logic.{◌⊎◌, inl, inr}
use mathlib.Core.Option.{none}
use mathlib.Core.List.{List, [], ◌∷◌}
use Prim.Native.Nat.{ℕ, zero, suc, ◌-◌, ◌<◌}
use native.Mathlib.Omega.{arith}
use lib.Dec.{ltb}
use lib.ListN.{length, get_or, take, length-map}
use borrow.Author.Tests.{ltb-true, ltb-false}
use Rattle.lists.specs.Around.{wrap}
use Rattle.lists.proofs.Places.{map_at}
use Rattle.lists.proofs.Sides.{wrap_low}
use Rattle.paper.specs.Points.{origin, dot}
use Rattle.paper.specs.Drawing.{Wire, at, joined, same_place}
use Rattle.paper.specs.Loops.{Loop, loop_at, loops, level, polygon, flipped}
use Rattle.paper.specs.Verdict.{from_lowest, onward, normal_form}
use Rattle.means_solid.specs.Solid.{Goes}
use Rattle.means_solid.specs.Proper.{Different}
use Rattle.means_loops.specs.Loop.{IsLoop}
use Rattle.means_loops.specs.Plane.{InPlane}
use Rattle.means_loops.specs.Path.{EdgeOf, ClosedPath}
use Rattle.means_solid.specs.Named.{SameRing}
use Rattle.means_loops.proofs.Rings.{same_length, flip_length, flip-first, flip-at}
use Rattle.means_loops.proofs.Forms.{low_first, different_same}
use Rattle.means_solid.proofs.Goes.{wrap-next, around-at, goes_next, goes_last}
use Rattle.means_loops.proofs.Listing.{joined-edge, loops_are, loops-all}
use Rattle.means_loops.proofs.Planes.{places_differ, plane_level, first-level, loop_plane_lem}
use Rattle.means_loops.proofs.Places.{edge-joined, edge_back, turned, goes_from, flip_place, goes_back}
use Rattle.means_loops.proofs.Lowest.{LowFirst, same_low, flip_low, normal_on, normal_back}

-- ---- a closed path from another start, and the other way round

plane_from : (d : Wire) (f g : List ℕ) → ((i : ℕ) → i < length g → (j : ℕ) × (j < length f) × (get_or g i 0 ≡ get_or f j 0))
    → InPlane (polygon d f) → InPlane (polygon d g)
unfolding polygon
plane_from d f g w y = record {
  across = y.across;
  height = y.height;
  real = y.real;
  every = λ i h.
      let l : i < length g = omega (arith, length-map g (at d)) in
      let r = w i l in
      ap (dot y.across) (map_at (at d) g i 0 origin l ∙ ap (at d) r.2 ∙ sym (map_at (at d) f r.0 0 origin r.1))
      ∙ y.every r.0 (omega (arith, r.1, length-map f (at d)));
}

module _ (d : Wire) where
  pub path_same : {f g : List ℕ} → SameRing f g → ClosedPath d f → ClosedPath d g
  path_same {f} {g} s c =
      let t = turned s in
      let n = same_length s in
      record {
        three = let z = c.three in omega arith;
        twelve = let z = c.twelve in omega arith;
        inside = λ i h. subst (λ (u : ℕ). u < length d.vertices) (sym (t.same i h)) (c.inside (t.to i) (t.low i h));
        different = different_same c.different s;
        along = λ a b h. c.along a b (goes_from s a b h);
        plane = plane_from d f g (λ i h. (t.to i, t.low i h, t.same i h)) c.plane;
      }

  different_flip : (f : List ℕ) → Different f → Different (flipped f)
  different_flip f e i j hi hj p = go i j hi hj p
    where
      n : length (flipped f) ≡ length f
      n = flip_length f

      go : (i j : ℕ) → i < length (flipped f) → j < length (flipped f) → get_or (flipped f) i 0 ≡ get_or (flipped f) j 0 → i ≡ j
      go zero zero hi hj p = refl
      go zero (suc j) hi hj p =
          let q = e 0 (length f - suc j) (omega (arith, n)) (omega (arith, n))
          (sym (flip-first f) ∙ p ∙ flip-at f (suc j) (omega arith) (omega (arith, n))) in
          absurd (omega (arith, n))
      go (suc i) zero hi hj p =
          let q = e (length f - suc i) 0 (omega (arith, n)) (omega (arith, n)) (sym (flip-at f (suc i) (omega arith) (omega (arith, n)))
          ∙ p
          ∙ flip-first f) in
          absurd (omega (arith, n))
      go (suc i) (suc j) hi hj p =
          let q = e (length f - suc i) (length f - suc j) (omega (arith, n)) (omega (arith, n))
          (sym (flip-at f (suc i) (omega arith) (omega (arith, n))) ∙ p ∙ flip-at f (suc j) (omega arith) (omega (arith, n))) in
          omega (arith, n)

  path_flip : (f : List ℕ) → ClosedPath d f → ClosedPath d (flipped f)
  path_flip f c =
      let n = flip_length f in
      record {
        three = let z = c.three in omega arith;
        twelve = let z = c.twelve in omega arith;
        inside = λ i h. let r = flip_place f i h in subst (λ (u : ℕ). u < length d.vertices) (sym r.2) (c.inside r.0 r.1);
        different = different_flip f c.different;
        along = λ a b h. edge_back d b a (c.along b a (goes_back f a b (let z = c.three in omega arith) h));
        plane = plane_from d f (flipped f) (flip_place f) c.plane;
      }

  pub path_turned : (b : Bool) (f : List ℕ) → ClosedPath d f → ClosedPath d (cond b (flipped f) f)
  path_turned true f c = path_flip f c
  path_turned false f c = c

  -- ---- a closed path in normal form is a loop, and a loop is a closed path

  module _ (e : same_place d ≡ none) where
    path_level : (q : Loop) → ClosedPath d q → (i : ℕ) → 0 < i → i < length q → level d (take i q) (get_or q i 0) ≡ true
    path_level [] c i h l = absurd (let z = c.three in omega arith)
    path_level (a ∷ []) c i h l = absurd (let z = c.three in omega arith)
    path_level (a ∷ (b ∷ t)) c zero h l = absurd (omega arith)
    path_level (a ∷ (b ∷ t)) c (suc zero) h l = first-level d a b
    path_level (a ∷ (b ∷ t)) c (suc (suc i)) h l =
        plane_level d a b t
        (places_differ d e a b (c.inside 0 (omega arith)) (c.inside 1 (omega arith))
        (λ z. absurd (omega (arith, c.different 0 1 (omega arith) (omega arith) z))))
        c.plane i (omega arith)

    path_loop : (q : Loop) → ClosedPath d q → LowFirst q → get_or q 1 0 < get_or q (length q - 1) 0 → IsLoop d q
    path_loop q c low dir = record {
      three = c.three;
      twelve = c.twelve;
      inside = c.inside;
      different = c.different;
      edges = λ i h. edge-joined d (get_or q i 0) (get_or q (suc i) 0) (c.along (get_or q i 0) (get_or q (suc i) 0) (goes_next q i h));
      closed =
          edge-joined d (get_or q (length q - 1) 0) (get_or q 0 0)
          (c.along (get_or q (length q - 1) 0) (get_or q 0 0) (goes_last q (let z = c.three in omega arith)));
      lowest = low;
      direction = dir;
      plane = path_level q c;
    }

    -- whatever start and direction a closed path has, its normal form is a loop
    pub normal_loop : (c : Loop) → ClosedPath d c → IsLoop d (normal_form c)
    unfolding normal_form onward
    normal_loop c p = go (ltb (get_or (from_lowest c) 1 0) (get_or (from_lowest c) (length (from_lowest c) - 1) 0)) refl
      where
        pr : ClosedPath d (from_lowest c)
        pr = path_same (same_low c) p

        low : LowFirst (from_lowest c)
        low = low_first c p.different

        go : (b : Bool) → ltb (get_or (from_lowest c) 1 0) (get_or (from_lowest c) (length (from_lowest c) - 1) 0) ≡ b
            → IsLoop d (cond b (from_lowest c) (flipped (from_lowest c)))
        go true q =
            path_loop (from_lowest c) pr low (ltb-true (get_or (from_lowest c) 1 0) (get_or (from_lowest c) (length (from_lowest c) - 1) 0) q)
        go false q =
            let n = flip_length (from_lowest c) in
            let t = pr.three in
            let z : length (flipped (from_lowest c)) - 1 ≡ length (from_lowest c) - 1 = omega arith in
            let y : length (from_lowest c) - (length (from_lowest c) - 1) ≡ 1 = omega arith in
            let a = flip-at (from_lowest c) 1 (omega arith) (omega arith) in
            let b : get_or (flipped (from_lowest c)) (length (flipped (from_lowest c)) - 1) 0 ≡ get_or (from_lowest c) 1 0
            = ap (λ (i : ℕ). get_or (flipped (from_lowest c)) i 0) z
            ∙ flip-at (from_lowest c) (length (from_lowest c) - 1) (omega arith) (omega arith)
            ∙ ap (λ (i : ℕ). get_or (from_lowest c) i 0) y in
            let f = ltb-false (get_or (from_lowest c) 1 0) (get_or (from_lowest c) (length (from_lowest c) - 1) 0) q in
            let ne : get_or (from_lowest c) 1 0 ≡ get_or (from_lowest c) (length (from_lowest c) - 1) 0
            → ⊥ = λ w. absurd (omega (arith, pr.different 1 (length (from_lowest c) - 1) (omega arith) (omega arith) w)) in
            path_loop (flipped (from_lowest c)) (path_flip (from_lowest c) pr) (flip_low (from_lowest c) low) (omega arith)

    pub loop_path : (q : Loop) → IsLoop d q → ClosedPath d q
    loop_path q l = record {
      three = l.three;
      twelve = l.twelve;
      inside = l.inside;
      different = l.different;
      along = λ a b g. go a b g (wrap-next (length q) g.at g.here);
      plane = loop_plane_lem d e q l;
    }
      where
        go : (a b : ℕ) (g : Goes q a b) → ((suc g.at < length q) × (wrap (length q) (suc g.at) ≡ suc g.at))
            ⊎ ((suc g.at ≡ length q) × (wrap (length q) (suc g.at) ≡ 0)) → EdgeOf d a b
        go a b g w = joined-edge d a b (by w)
          where
            pa : a ≡ get_or q g.at 0
            pa = g.from ∙ around-at q g.at ∙ ap (λ (i : ℕ). get_or q i 0) (wrap_low (length q) g.at g.here)

            pb : b ≡ get_or q (wrap (length q) (suc g.at)) 0
            pb = g.to ∙ around-at q (suc g.at)

            by : ((suc g.at < length q) × (wrap (length q) (suc g.at) ≡ suc g.at))
                ⊎ ((suc g.at ≡ length q) × (wrap (length q) (suc g.at) ≡ 0)) → joined d a b ≡ true
            by (inl (u, v)) = ap₂ (joined d) pa (pb ∙ ap (λ (i : ℕ). get_or q i 0) v) ∙ l.edges g.at u
            by (inr (u, v)) =
                let z : g.at ≡ length q - 1 = omega arith in
                ap₂ (joined d) (pa ∙ ap (λ (i : ℕ). get_or q i 0) z) (pb ∙ ap (λ (i : ℕ). get_or q i 0) v) ∙ l.closed

    -- every closed path is listed: by one loop, which it is from some start and in some direction
    pub path_listed : (c : Loop) → ClosedPath d c
        → (i : ℕ) × (i < length (loops d)) × (SameRing (loop_at (loops d) i) c ⊎ SameRing (flipped (loop_at (loops d) i)) c)
    path_listed c p =
        let r = loops-all d (normal_form c) (normal_loop c p) in
        (r.0, r.1, go (loop_at (loops d) r.0) r.2 (onward c) refl)
      where
        go : (q : Loop) → q ≡ normal_form c → (b : Bool) → onward c ≡ b → SameRing q c ⊎ SameRing (flipped q) c
        go q w true o = inl (subst (λ (l : Loop). SameRing l c) (sym w) (normal_on c o))
        go q w false o = inr (subst (λ (l : Loop). SameRing (flipped l) c) (sym w) (normal_back c o))

    -- and every listed loop is a closed path
    pub listed_path : (i : ℕ) → i < length (loops d) → ClosedPath d (loop_at (loops d) i)
    listed_path i h = loop_path (loop_at (loops d) i) (loops_are d i h)
