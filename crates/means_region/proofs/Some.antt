-- Some apex sees all faces, for every point that is in the plane of none.
use mathlib.Core.Path.{◌≡◌, refl, sym, ◌∙◌, ap, ap₂}
use mathlib.Core.Bool.{Bool, true, false, true≢false}
use mathlib.Core.Logic.{◌⊎◌, inl, inr}
use mathlib.Core.List.{List, [], ◌∷◌}
use Prim.Native.Nat.{ℕ, suc, ◌+◌, ◌≤◌, ◌<◌}
use native.Mathlib.Omega.{arith}
use lib.IntN.{ℤ, pos, neg_ℤ, nat_abs, ◌+ℤ◌, ◌*ℤ◌}
use lib.ListN.{length, length-map, get_or}
use Rattle.sets.specs.Word.{dig}
use Rattle.sets.proofs.Ones.{dig-below}
use Rattle.exact.proofs.Ring.{var, con, ◌⊕◌, ◌⊗◌, ring}
use Rattle.exact.proofs.Signs.{mul-zero, pos-ne}
use Rattle.paper.specs.Points.{pt, origin, plus, minus, times, dot, cross, det}
use Rattle.paper.specs.Polygon.{normal}
use Rattle.paper.specs.Drawing.{Wire, at}
use Rattle.paper.specs.Loops.{Loop, loop_at}
use Rattle.paper.specs.declared.Point.{Point}
use Rattle.paper_laws.specs.Planes.{InOwnPlane}
use Rattle.paper_laws.proofs.Wires.{polygon_length, corner-at}
use Rattle.paper_laws.proofs.Points.{scale_zero, point_eq, cancel}
use Rattle.paper_laws.proofs.Vectors.{num, vec, x as var-s, o, v, negs, ◌+s◌, ◌*s◌, ◌·◌, dets, ◌+v◌, ◌-v◌, ◌*v◌, ◌×v◌, vring}
use Rattle.means_area.specs.Flats.{Up}
use Rattle.means_solid.specs.Solid.{Face}
use Rattle.means_loops.specs.Path.{ClosedPath}
use Rattle.means_region.specs.Winding.{OnceEachWay, away, OffPlanes, NoTwoInPlane}
use Rattle.means_region.proofs.Move.{Real, zero_or}
use Rattle.means_region.proofs.Near.{Large, all_large, alike}
use Rattle.means_region.proofs.Apex.{high, high_real, height}
use Rattle.means_region.proofs.Counts as counts

-- ---- a direction that is at right angles to none of finitely many

abbrev steep : ℕ → Point
steep s = pt (pos 1) (pos s) (pos s *ℤ pos s)

steep_large : (m : Point) → (m ≡ origin → ⊥) → Large (λ s. Real (dot (steep s) m))
unfolding dot
steep_large m h = go (zero_or m.z) (zero_or m.y)
  where
    shape : (s : ℕ) → dot (steep s) m ≡ pos s *ℤ (pos s *ℤ m.z +ℤ m.y) +ℤ m.x
    shape s =
        ring (pos s ∷ m.x ∷ m.y ∷ m.z ∷ []) (con (pos 1) ⊗ var 1 ⊕ var 0 ⊗ var 2 ⊕ var 0 ⊗ var 0 ⊗ var 3)
        (var 0 ⊗ (var 0 ⊗ var 3 ⊕ var 2) ⊕ var 1) tt

    outer : (s : ℕ) → Real (pos s *ℤ m.z +ℤ m.y) → suc (nat_abs m.x) ≤ s → Real (dot (steep s) m)
    outer s r l e = (alike s (pos s *ℤ m.z +ℤ m.y) m.x r l).real (sym (shape s) ∙ e)

    go : (m.z ≡ pos 0) ⊎ Real m.z → (m.y ≡ pos 0) ⊎ Real m.y → Large (λ s. Real (dot (steep s) m))
    go (inr r) t =
        (suc (nat_abs m.x) + suc (nat_abs m.y), λ s l. outer s (alike s m.z m.y r (omega arith)).real (omega arith))
    go (inl e) (inr r) = (
      suc (nat_abs m.x),
      λ s l. outer s (λ q. r
          (ring (pos s ∷ m.y ∷ []) (var 1) (var 0 ⊗ con (pos 0) ⊕ var 1) tt ∙ ap (λ (z : ℤ). pos s *ℤ z +ℤ m.y) (sym e) ∙ q)) l,
    )
    go (inl e) (inl f) = (
      0,
      λ s l q.
          h (λ i.
          pt
          ((ring (pos s ∷ m.x ∷ []) (var 1) (var 0 ⊗ (var 0 ⊗ con (pos 0) ⊕ con (pos 0)) ⊕ var 1) tt
          ∙ ap₂ (λ (y z : ℤ). pos s *ℤ (pos s *ℤ z +ℤ y) +ℤ m.x) (sym f) (sym e) ∙ sym (shape s) ∙ q) i) (f i) (e i)),
    )

module _ (d : Wire) (cs : List Loop) (taken turned : List Bool) (n : ℤ) (p : Point) where
  abbrev face : ℕ → List Point
  face = counts.face d cs taken turned n p

  abbrev z : ℕ → ℕ → Point
  z j i = away n p (get_or (face j) i origin)

  -- what holds from some number on for each pair of corners of a face holds from some number on for all
  family : length taken ≡ length cs → (P : ℕ → ℕ → ℕ → ℕ → Type 0)
      → ((j i l : ℕ) → Face d cs taken turned j → i < l → l < length (face j) → Large (P j i l))
      → Large (λ m. (j i l : ℕ) → j < length cs → Face d cs taken turned j → i < l → l < length (face j) → P j i l m)
  family e P f =
      let r = all_large (length cs) (λ j m. Face d cs taken turned j → (l : ℕ) → l < length (face j) → (i : ℕ) → i < l → P j i l m)
      (λ j h. one j (dig taken j) refl) in
      (r.0, λ m b j i l h t q s. r.1 m b j h t l s i q)
    where
      one : (j : ℕ) (t : Bool) → dig taken j ≡ t
          → Large (λ m. Face d cs taken turned j → (l : ℕ) → l < length (face j) → (i : ℕ) → i < l → P j i l m)
      one j false t = (0, λ m b g. absurd (true≢false (sym g ∙ t)))
      one j true t =
          let r = all_large (length (face j)) (λ l m. (i : ℕ) → i < l → P j i l m)
          (λ l h. all_large l (λ i m. P j i l m) (λ i q. f j i l t q h)) in
          (r.0, λ m b g. r.1 m b)

  module _ (paths : (j : ℕ) → j < length cs → ClosedPath d (loop_at cs j)) (own : (j : ℕ) → j < length cs → InOwnPlane (face j))
      (s : OnceEachWay d cs taken turned) (off : OffPlanes d cs taken turned n p) (up : Up n)
      (differ : (u w : ℕ) → u < length d.vertices → w < length d.vertices → (u ≡ w → ⊥) → at d u ≡ at d w → ⊥) where
    tall : (j i : ℕ) → Face d cs taken turned j → i < length (face j)
        → dot (normal (face j)) (z j i) ≡ high d cs taken turned n p paths own s off j
    tall j i f h =
        let h' : i < length (counts.seen d cs taken turned n p j) = omega (arith, length-map (face j) (away n p)) in
        ap (dot (normal (face j))) (sym (counts.seen_at d cs taken turned n p j i h'))
        ∙ height d cs taken turned n p paths own s off j f i h'

    -- two corners of a face are not in line with the point
    across : (j i l : ℕ) → Face d cs taken turned j → i < l → l < length (face j) → cross (z j i) (z j l) ≡ origin → ⊥
    across j i l f h m e =
        let hj = dig-below taken s.set j f in
        let N = normal (face j) in
        let high' = high d cs taken turned n p paths own s off j in
        let same : z j i ≡ z j l = point_eq (z j i) (z j l)
        (scale_zero high' (minus (z j i) (z j l)) (high_real d cs taken turned n p paths own s off j f)
        (vring (num high' ∷ vec (z j i) ∷ vec (z j l) ∷ []) (var-s 0 *v (v 1 -v v 2)) ((var-s 0 *v v 1) -v (var-s 0 *v v 2)) tt
        ∙ (λ t. minus (times (sym (tall j l f m) t) (z j i)) (times (sym (tall j i f (omega arith)) t) (z j l)))
        ∙ vring (vec N ∷ vec (z j i) ∷ vec (z j l) ∷ []) (((v 0 · v 2) *v v 1) -v ((v 0 · v 1) *v v 2)) (v 0 ×v (v 1 ×v v 2)) tt
        ∙ ap (cross N) e ∙ vring (vec N ∷ []) (v 0 ×v o) o tt)) in
        let there : get_or (face j) i origin ≡ get_or (face j) l origin = cancel n (get_or (face j) i origin) (get_or (face j) l origin)
        (pos-ne up)
        (vring (num n ∷ vec p ∷ vec (get_or (face j) i origin) ∷ []) (var-s 0 *v v 2) (((var-s 0 *v v 2) -v v 1) +v v 1) tt
        ∙ ap (λ (q : Point). plus q p) same
        ∙ vring (num n ∷ vec p ∷ vec (get_or (face j) l origin) ∷ []) (((var-s 0 *v v 2) -v v 1) +v v 1) (var-s 0 *v v 2) tt) in
        let path = paths j hj in
        let hi : i < length (loop_at cs j) = omega (arith, polygon_length d (loop_at cs j)) in
        let hl : l < length (loop_at cs j) = omega (arith, polygon_length d (loop_at cs j)) in
        differ (get_or (loop_at cs j) i 0) (get_or (loop_at cs j) l 0) (path.inside i hi) (path.inside l hl)
        (λ q. let w : i ≡ l = path.different i l hi hl q in omega arith)
        (sym (corner-at d (loop_at cs j) i hi) ∙ there ∙ corner-at d (loop_at cs j) l hl)

    -- first a direction, then a point far along it
    pub some_apex_of : (a : Point) × NoTwoInPlane d cs taken turned n p (away n p a)
    some_apex_of =
        let a = family s.set (λ j i l m. Real (dot (steep m) (cross (z j i) (z j l))))
        (λ j i l f h m. steep_large (cross (z j i) (z j l)) (across j i l f h m)) in
        along (steep a.0) (λ j i l f h m. a.1 a.0 (omega arith) j i l (dig-below taken s.set j f) f h m)
      where
        along : (w : Point) → ((j i l : ℕ) → Face d cs taken turned j → i < l → l < length (face j) → Real (dot w (cross (z j i) (z j l))))
            → (a : Point) × NoTwoInPlane d cs taken turned n p (away n p a)
        along w r =
            let b = family s.set (λ j i l m. Real (det (away n p (times (pos m) w)) (z j i) (z j l))) far in
            (times (pos b.0) w, λ j i l f h m. b.1 b.0 (omega arith) j i l (dig-below taken s.set j f) f h m)
          where
            far : (j i l : ℕ) → Face d cs taken turned j → i < l → l < length (face j)
                → Large (λ m. Real (det (away n p (times (pos m) w)) (z j i) (z j l)))
            far j i l f h q =
                let c = dot w (cross (z j i) (z j l)) in
                let e = neg_ℤ (dot p (cross (z j i) (z j l))) in (
                  suc (nat_abs e),
                  λ m b g.
                      (alike m (n *ℤ c) e (λ y. r j i l f h q (mul-zero n c (pos-ne up) y)) b).real
                      (vring (num n ∷ num (pos m) ∷ vec p ∷ vec w ∷ vec (z j i) ∷ vec (z j l) ∷ [])
                      ((var-s 1 *s (var-s 0 *s (v 3 · (v 4 ×v v 5)))) +s negs (v 2 · (v 4 ×v v 5)))
                      (dets ((var-s 0 *v (var-s 1 *v v 3)) -v v 2) (v 4) (v 5)) tt ∙ g),
                )
