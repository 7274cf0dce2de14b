-- A point strictly inside one face and on a side of another: rule A, rule B, or the side is in the plane.
use mathlib.Core.Path.{◌≡◌, refl, sym, ◌∙◌, ap}
use mathlib.Core.Logic.{◌⊎◌, inl, inr}
use mathlib.Core.List.{[], ◌∷◌}
use Prim.Native.Nat.{ℕ, zero, suc, ◌+◌, ◌<◌}
use native.Mathlib.Omega.{arith}
use lib.IntN.{ℤ, pos, negsuc, neg_ℤ, nat_abs, ◌+ℤ◌, ◌-ℤ◌, ◌*ℤ◌}
use lib.ListN.{length, get_or}
use lib.Signed.{◌<ℤ◌}
use Rattle.lists.proofs.Sides.{around_low}
use Rattle.exact.proofs.Ring.{var, con, ◌⊕◌, ◌⊖◌, ◌⊗◌, neg, ring}
use Rattle.exact.proofs.Order.{sub_nonneg, mul-pos}
use Rattle.exact.proofs.Linear.{lt_by, lt_to}
use Rattle.exact.proofs.Signs.{mul-zero, pos-ne}
use Rattle.paper.specs.Points.{origin, plus, minus, times, dot}
use Rattle.paper.specs.Polygon.{Polygon, over, exactly, normal, corner, plane_side, lies}
use Rattle.paper.specs.declared.Point.{Point}
use Rattle.paper.specs.declared.Where.TheVariants.{Inside}
use Rattle.paper_laws.proofs.Points.{cancel}
use Rattle.paper_laws.proofs.Vectors.{num, vec, k as con-s, x as var-s, v, ◌+s◌, ◌-s◌, ◌*s◌, ◌·◌, ◌+v◌, ◌-v◌, ◌*v◌, vring}
use Rattle.means_area.specs.Flats.{Up, Nn}
use Rattle.means_area.proofs.Flats.Signs.{twice, up_is, nn_is, up_nn, up_out, off, ways, up_add}
use Rattle.means_inside.proofs.Place.{by_place}
use Rattle.means_corner.proofs.Loops.{low}
use Rattle.means_clash.specs.Clash.{corner_at, EdgePierces, RuleA, RuleB}
use Rattle.means_contact.specs.Contact.{Strictly, OnSegment, BorderMeets}

-- ---- sizes

abs_up : (z : ℤ) → Up z → pos (nat_abs z) ≡ z
abs_up (pos n) u = refl
abs_up (negsuc n) u = absurd u.lt

abs_down : (z : ℤ) → Up (neg_ℤ z) → pos (nat_abs z) ≡ neg_ℤ z
abs_down (pos zero) u = refl
abs_down (pos (suc n)) u = absurd u.lt
abs_down (negsuc n) u = refl

below : (z : ℤ) → Up (neg_ℤ z) → z <ℤ pos 0
below z u = let ρ = z ∷ [] in lt_by ρ (var 0) (con (pos 0)) (omega (arith, lt_to ρ (con (pos 0)) (neg (var 0)) u))

-- ---- a point of a segment, by weights of the ends: (t a + s b) / (t + s)

record Weighed (a b p : Point) (n : ℤ) : Type 0 where
  t : ℤ
  s : ℤ
  low_t : Nn t
  low_s : Nn s
  some : Up (t +ℤ s)
  there : times (t +ℤ s) p ≡ times n (plus (times t a) (times s b))

weigh : (a b p : Point) (n : ℤ) → OnSegment a b p n → Weighed a b p n
weigh a b p n on =
    let m = on.here.scale in
    let i = on.here.place in
    let whole : m -ℤ i +ℤ i ≡ m = ring (m ∷ i ∷ []) (var 0 ⊖ var 1 ⊕ var 1) (var 0) tt in
    record {
      t = m -ℤ i;
      s = i;
      low_t = sub_nonneg on.here.most;
      low_s = on.here.least;
      some = up_is (sym whole) on.here.some;
      there = ap (λ (z : ℤ). times z p) whole ∙ on.is
          ∙ vring (num n ∷ num m ∷ num i ∷ vec a ∷ vec b ∷ []) (var-s 0 *v ((var-s 1 *v v 3) +v (var-s 2 *v (v 4 -v v 3))))
          (var-s 0 *v (((var-s 1 -s var-s 2) *v v 3) +v (var-s 2 *v v 4))) tt;
    }

module _ (f : Polygon) (p : Point) (n : ℤ) (un : Up n) (in_f : Strictly f p n) where
  -- a corner there is strictly inside
  corner_there : (q : Point) → times (pos 1) p ≡ times n q → (plane_side f q ≡ pos 0) × (lies (exactly q) f ≡ Inside)
  unfolding plane_side
  corner_there q e = (
    mul-zero n (dot (normal f) (minus q (corner f))) (pos-ne un)
        (vring (num n ∷ vec (normal f) ∷ vec q ∷ vec (corner f) ∷ []) (var-s 0 *s (v 1 · (v 2 -v v 3))) (v 1 · ((var-s 0 *v v 2) -v
        (var-s 0 *v v 3))) tt
        ∙ ap (λ (y : Point). dot (normal f) (minus y (times n (corner f)))) (sym e)
        ∙ vring (num n ∷ vec p ∷ vec (normal f) ∷ vec (corner f) ∷ []) (v 2 · ((con-s (pos 1) *v v 1) -v (var-s 0 *v v 3)))
        (v 2 · (v 1 -v (var-s 0 *v v 3))) tt ∙ in_f.plane),
    sym (by_place f p q n (pos 1) un (record { lt = tt }) e) ∙ in_f.place,
  )

  module _ (a b : Point) (on : Weighed a b p n) where
    abbrev A : ℤ
    A = plane_side f a

    abbrev B : ℤ
    B = plane_side f b

    -- the sides of the ends keep the balance
    balance : on.t *ℤ A +ℤ on.s *ℤ B ≡ pos 0
    unfolding plane_side
    balance =
        mul-zero n (on.t *ℤ dot (normal f) (minus a (corner f)) +ℤ on.s *ℤ dot (normal f) (minus b (corner f))) (pos-ne un)
        (vring (num n ∷ num on.t ∷ num on.s ∷ vec (normal f) ∷ vec a ∷ vec b ∷ vec (corner f) ∷ [])
        (var-s 0 *s ((var-s 1 *s (v 3 · (v 4 -v v 6))) +s (var-s 2 *s (v 3 · (v 5 -v v 6)))))
        (v 3 · ((var-s 0 *v ((var-s 1 *v v 4) +v (var-s 2 *v v 5))) -v ((var-s 1 +s var-s 2) *v (var-s 0 *v v 6)))) tt
        ∙ ap (λ (y : Point). dot (normal f) (minus y (times (on.t +ℤ on.s) (times n (corner f))))) (sym on.there)
        ∙ vring (num (on.t +ℤ on.s) ∷ vec p ∷ vec (normal f) ∷ vec (times n (corner f)) ∷ [])
        (v 2 · ((var-s 0 *v v 1) -v (var-s 0 *v v 3))) (var-s 0 *s (v 2 · (v 1 -v v 3))) tt
        ∙ ap (λ (z : ℤ). (on.t +ℤ on.s) *ℤ z) in_f.plane
        ∙ ring ((on.t +ℤ on.s) ∷ []) (var 0 ⊗ con (pos 0)) (con (pos 0)) tt)

    -- the place where the edge pierces the plane, by any weights in the ratio of the distances
    pierced : (x y : ℤ) → Up (x +ℤ y) → on.t *ℤ x ≡ on.s *ℤ y → lies (over (plus (times y a) (times x b)) (x +ℤ y)) f ≡ Inside
    pierced x y u e =
        sym (by_place f p (plus (times y a) (times x b)) n (x +ℤ y) un u
        (cancel (on.t +ℤ on.s) (times (x +ℤ y) p) (times n (plus (times y a) (times x b))) (pos-ne on.some)
        (vring (num (on.t +ℤ on.s) ∷ num (x +ℤ y) ∷ vec p ∷ []) (var-s 0 *v (var-s 1 *v v 2)) (var-s 1 *v (var-s 0 *v v 2)) tt
        ∙ ap (times (x +ℤ y)) on.there
        ∙ vring (num n ∷ num on.t ∷ num on.s ∷ num x ∷ num y ∷ vec a ∷ vec b ∷ [])
        ((var-s 3 +s var-s 4) *v (var-s 0 *v ((var-s 1 *v v 5) +v (var-s 2 *v v 6))))
        (var-s 0 *v ((((var-s 1 *s var-s 3) +s (var-s 1 *s var-s 4)) *v v 5) +v (((var-s 2 *s var-s 3) +s (var-s 2 *s var-s 4)) *v v 6))) tt
        ∙ (λ i. times n (plus (times (e i +ℤ on.t *ℤ y) a) (times (on.s *ℤ x +ℤ sym e i) b)))
        ∙ vring (num n ∷ num on.t ∷ num on.s ∷ num x ∷ num y ∷ vec a ∷ vec b ∷ [])
        (var-s 0 *v ((((var-s 2 *s var-s 4) +s (var-s 1 *s var-s 4)) *v v 5) +v (((var-s 2 *s var-s 3) +s (var-s 1 *s var-s 3)) *v v 6)))
        ((var-s 1 +s var-s 2) *v (var-s 0 *v ((var-s 4 *v v 5) +v (var-s 3 *v v 6)))) tt)))
        ∙ in_f.place

    -- an end
    at_a : on.s ≡ pos 0 → times (pos 1) p ≡ times n a
    at_a e =
        vring (vec p ∷ []) (con-s (pos 1) *v v 0) (v 0) tt
        ∙ cancel (on.t +ℤ on.s) p (times n a) (pos-ne on.some)
        (on.there
        ∙ (λ i. times n (plus (times on.t a) (times (e i) b)))
        ∙ vring (num n ∷ num on.t ∷ vec a ∷ vec b ∷ []) (var-s 0 *v ((var-s 1 *v v 2) +v (con-s (pos 0) *v v 3)))
        ((var-s 1 +s con-s (pos 0)) *v (var-s 0 *v v 2)) tt
        ∙ (λ i. times (on.t +ℤ sym e i) (times n a)))

    at_b : on.t ≡ pos 0 → times (pos 1) p ≡ times n b
    at_b e =
        vring (vec p ∷ []) (con-s (pos 1) *v v 0) (v 0) tt
        ∙ cancel (on.t +ℤ on.s) p (times n b) (pos-ne on.some)
        (on.there
        ∙ (λ i. times n (plus (times (e i) a) (times on.s b)))
        ∙ vring (num n ∷ num on.s ∷ vec a ∷ vec b ∷ []) (var-s 0 *v ((con-s (pos 0) *v v 2) +v (var-s 1 *v v 3)))
        ((con-s (pos 0) +s var-s 1) *v (var-s 0 *v v 3)) tt
        ∙ (λ i. times (sym e i +ℤ on.s) (times n b)))

    -- between them
    between : Up on.t → Up on.s → EdgePierces f a b ⊎ ((A ≡ pos 0) × (B ≡ pos 0))
    between ut us = go (ways A)
      where
        other : on.s *ℤ B ≡ neg_ℤ (on.t *ℤ A)
        other =
            ring ((on.t *ℤ A) ∷ (on.s *ℤ B) ∷ []) (var 1) (neg (var 0) ⊕ (var 0 ⊕ var 1)) tt ∙ ap (λ (z : ℤ). neg_ℤ
            (on.t *ℤ A) +ℤ z) balance
            ∙ ring ((on.t *ℤ A) ∷ []) (neg (var 0) ⊕ con (pos 0)) (neg (var 0)) tt

        go : Up A ⊎ ((A ≡ pos 0) ⊎ Up (neg_ℤ A)) → EdgePierces f a b ⊎ ((A ≡ pos 0) × (B ≡ pos 0))
        go (inr (inl e)) =
            inr (
              e,
              mul-zero on.s B (pos-ne us) (other ∙ ap (λ (z : ℤ). neg_ℤ (on.t *ℤ z)) e
                  ∙ ring (on.t ∷ []) (neg (var 0 ⊗ con (pos 0))) (con (pos 0)) tt),
            )
        go (inl u) =
            let w : Up (neg_ℤ B) = up_out on.s us
            (up_is (ring (on.t ∷ A ∷ []) (var 0 ⊗ var 1) (neg (neg (var 0 ⊗ var 1))) tt ∙ ap neg_ℤ (sym other)
            ∙ ring (on.s ∷ B ∷ []) (neg (var 0 ⊗ var 1)) (var 0 ⊗ neg (var 1)) tt) (mul-pos ut u)) in
            inl (
              inr (u, below B w),
              pierced (pos (nat_abs A)) (pos (nat_abs B)) (up_is (λ i. sym (abs_up A u) i +ℤ sym (abs_down B w) i) (up_add u (up_nn w)))
                  (ap (λ (z : ℤ). on.t *ℤ z) (abs_up A u) ∙ ring ((on.t *ℤ A) ∷ []) (var 0) (neg (neg (var 0))) tt ∙ ap neg_ℤ (sym other)
                  ∙ ring (on.s ∷ B ∷ []) (neg (var 0 ⊗ var 1)) (var 0 ⊗ neg (var 1)) tt ∙ ap (λ (z : ℤ). on.s *ℤ z) (sym (abs_down B w))),
            )
        go (inr (inr u)) =
            let w : Up B = up_out on.s us (up_is (ring (on.t ∷ A ∷ []) (var 0 ⊗ neg (var 1)) (neg (var 0 ⊗ var 1)) tt ∙ sym other)
            (mul-pos ut u)) in
            inl (
              inl (below A u, w),
              pierced (pos (nat_abs A)) (pos (nat_abs B)) (up_is (λ i. sym (abs_down A u) i +ℤ sym (abs_up B w) i) (up_add u (up_nn w)))
                  (ap (λ (z : ℤ). on.t *ℤ z) (abs_down A u) ∙ ring (on.t ∷ A ∷ []) (var 0 ⊗ neg (var 1)) (neg (var 0 ⊗ var 1)) tt
                  ∙ sym other
                  ∙ ap (λ (z : ℤ). on.s *ℤ z) (sym (abs_up B w))),
            )

pub border_meets : BorderMeets
border_meets f g two p n un in_f i hi there = go (ways on.t) (ways on.s)
  where
    on : Weighed (corner_at g i) (corner_at g (i + 1)) p n
    on = weigh (corner_at g i) (corner_at g (i + 1)) p n there

    at-corner : (j : ℕ) → j < length g → times (pos 1) p ≡ times n (corner_at g j) → RuleB g f
    at-corner j h e =
        let q = around_low g j origin h in
        let r = corner_there f p n un in_f (get_or g j origin) (e ∙ ap (times n) q) in
        (j, h, r.0, r.1)

    go : Up on.t ⊎ ((on.t ≡ pos 0) ⊎ Up (neg_ℤ on.t)) → Up on.s ⊎ ((on.s ≡ pos 0) ⊎ Up (neg_ℤ on.s))
        → RuleB g f ⊎ (RuleA g f ⊎ ((plane_side f (corner_at g i) ≡ pos 0) × (plane_side f (corner_at g (i + 1)) ≡ pos 0)))
    go (inr (inl e)) y =
        let l = low g two (i + 1) (omega arith) in
        inl (at-corner l.0 l.1 (at_b f p n un in_f (corner_at g i) (corner_at g (i + 1)) on e ∙ ap (times n) l.2))
    go (inr (inr u)) y = absurd (off u (nn_is (twice on.t) on.low_t))
    go (inl u) (inr (inl e)) = inl (at-corner i hi (at_a f p n un in_f (corner_at g i) (corner_at g (i + 1)) on e))
    go (inl u) (inr (inr w)) = absurd (off w (nn_is (twice on.s) on.low_s))
    go (inl u) (inl w) = pick (between f p n un in_f (corner_at g i) (corner_at g (i + 1)) on u w)
      where
        pick : EdgePierces f (corner_at g i) (corner_at g (i + 1))
            ⊎ ((plane_side f (corner_at g i) ≡ pos 0) × (plane_side f (corner_at g (i + 1)) ≡ pos 0))
            → RuleB g f ⊎ (RuleA g f ⊎ ((plane_side f (corner_at g i) ≡ pos 0) × (plane_side f (corner_at g (i + 1)) ≡ pos 0)))
        pick (inl q) = inr (inl (i, hi, q))
        pick (inr q) = inr (inr q)
