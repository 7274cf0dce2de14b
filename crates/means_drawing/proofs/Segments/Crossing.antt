-- A common point by the directions of two segments; and where it is if they are not parallel.
use mathlib.Core.Path.{◌≡◌, sym, ◌∙◌, ap}
use mathlib.Core.Bool.{true}
use mathlib.Core.List.{[], ◌∷◌}
use lib.IntN.{ℤ, pos, neg_ℤ, ◌*ℤ◌, *ℤ-zero, *ℤ_comm}
use lib.Signed.{◌<ℤ◌}
use Rattle.exact.proofs.Signs.{<ℤ-≤ℤ, mul_cancelℤ, lt_is, le_is, mul-zero, pos-ne, lt_subst, le_subst}
use Rattle.exact.proofs.Order.{mul-pos, mul_nonneg, mul-le, mul-lt, lt_chain, lt_cancel, le_cancel}
use Rattle.lists.proofs.Truth.{and_both}
use Rattle.paper.specs.Points.{origin, plus, minus, times, dot, cross}
use Rattle.paper.specs.Drawing.{cuts_open}
use Rattle.paper.specs.declared.Point.{Point}
use Rattle.paper_laws.proofs.Points.{point_eq, from_eq, from-dot, self_pos}
use Rattle.means_drawing.specs.Segments.{Inner, Whole, along}
use Rattle.paper_laws.proofs.Vectors.{num, vec, k, x, ◌-s◌, ◌*s◌, negs, ◌·◌, o, v, ◌+v◌, ◌-v◌, ◌*v◌, ◌×v◌, vring}

-- the point at P / D of the one is that at S / E of the other, by the directions p from a to b, q from c to d, and r from a to c
abbrev pub Meet : Point → Point → Point → ℤ → ℤ → ℤ → ℤ → Type 0
Meet p q r D P E S = times (E *ℤ P) p ≡ plus (times (D *ℤ E) r) (times (D *ℤ S) q)

module _ (a b c d : Point) (D P E S : ℤ) where
  pub to_places : Meet (minus b a) (minus d c) (minus c a) D P E S → times E (along D P a b) ≡ times D (along E S c d)
  to_places e =
      from_eq (pos 1) (vring (num D ∷ num P ∷ num E ∷ num S ∷ vec a ∷ vec b ∷ vec c ∷ vec d ∷ [])
      (x 2 *v (x 0 *v v 4 +v x 1 *v (v 5 -v v 4)) -v x 0 *v (x 2 *v v 6 +v x 3 *v (v 7 -v v 6)))
      (k (pos 1) *v ((x 2 *s x 1) *v (v 5 -v v 4) -v ((x 0 *s x 2) *v (v 6 -v v 4) +v (x 0 *s x 3) *v (v 7 -v v 6)))) tt) e

  pub of_places : times E (along D P a b) ≡ times D (along E S c d) → Meet (minus b a) (minus d c) (minus c a) D P E S
  of_places e =
      from_eq (pos 1) (vring (num D ∷ num P ∷ num E ∷ num S ∷ vec a ∷ vec b ∷ vec c ∷ vec d ∷ [])
      ((x 2 *s x 1) *v (v 5 -v v 4) -v ((x 0 *s x 2) *v (v 6 -v v 4) +v (x 0 *s x 3) *v (v 7 -v v 6)))
      (k (pos 1) *v (x 2 *v (x 0 *v v 4 +v x 1 *v (v 5 -v v 4)) -v x 0 *v (x 2 *v v 6 +v x 3 *v (v 7 -v v 6)))) tt) e

-- ---- not parallel

module _ (p q r : Point) where
  abbrev pub n : Point
  n = cross p q

  abbrev pub t_of : ℤ
  t_of = dot (cross r q) n

  abbrev pub s_of : ℤ
  s_of = dot (cross r p) n

  abbrev pub nn : ℤ
  nn = dot n n

  -- in one plane: n.n r = t p - s q
  crossing : dot r n ≡ pos 0 → times t_of p ≡ plus (times nn r) (times s_of q)
  crossing e =
      let m = v 0 ×v v 1 in
      point_eq (times t_of p) (plus (times nn r) (times s_of q))
      (vring (vec p ∷ vec q ∷ vec r ∷ []) (((v 2 ×v v 1) · m) *v v 0 -v ((m · m) *v v 2 +v ((v 2 ×v v 0) · m) *v v 1))
      (negs (v 2 · m) *v m) tt
      ∙ ap (λ (z : ℤ). times (neg_ℤ z) n) e ∙ vring (vec n ∷ []) (negs (k (pos 0)) *v v 0) o tt)

  pub crossing_meet : dot r n ≡ pos 0 → Meet p q r nn t_of nn s_of
  crossing_meet e =
      from_eq nn (vring (num nn ∷ num t_of ∷ num s_of ∷ vec p ∷ vec q ∷ vec r ∷ [])
      ((x 0 *s x 1) *v v 3 -v ((x 0 *s x 0) *v v 5 +v (x 0 *s x 2) *v v 4)) (x 0 *v (x 1 *v v 3 -v (x 0 *v v 5 +v x 2 *v v 4))) tt)
      (crossing e)

  module _ (h : Inner) (t : Whole) (e : Meet p q r h.scale h.place t.scale t.place) where
    abbrev D : ℤ
    D = h.scale

    abbrev P : ℤ
    P = h.place

    abbrev E : ℤ
    E = t.scale

    abbrev S : ℤ
    S = t.place

    dp : pos 0 <ℤ D
    dp = lt_chain h.after h.before

    pub meet_flat : dot r n ≡ pos 0
    meet_flat =
        let m = v 4 ×v v 5 in
        mul-zero (D *ℤ E) (dot r n) (pos-ne (mul-pos dp t.some))
        (from-dot (minus origin n) (vring (num D ∷ num P ∷ num E ∷ num S ∷ vec p ∷ vec q ∷ vec r ∷ [])
        (((x 0 *s x 2) *s (v 6 · m)) -s k (pos 0)) ((o -v m) · ((x 2 *s x 1) *v v 4 -v ((x 0 *s x 2) *v v 6 +v (x 0 *s x 3) *v v 5))) tt)
        e)

    along_p : P *ℤ nn ≡ D *ℤ t_of
    along_p =
        let m = v 4 ×v v 5 in
        mul_cancelℤ E (P *ℤ nn) (D *ℤ t_of) (pos-ne t.some)
        (from-dot (cross q n) (vring (num D ∷ num P ∷ num E ∷ num S ∷ vec p ∷ vec q ∷ vec r ∷ [])
        (x 2 *s (x 1 *s (m · m)) -s x 2 *s (x 0 *s ((v 6 ×v v 5) · m)))
        ((v 5 ×v m) · ((x 2 *s x 1) *v v 4 -v ((x 0 *s x 2) *v v 6 +v (x 0 *s x 3) *v v 5))) tt) e)

    along_q : S *ℤ nn ≡ E *ℤ s_of
    along_q =
        let m = v 4 ×v v 5 in
        mul_cancelℤ D (S *ℤ nn) (E *ℤ s_of) (pos-ne dp)
        (from-dot (cross p n) (vring (num D ∷ num P ∷ num E ∷ num S ∷ vec p ∷ vec q ∷ vec r ∷ [])
        (x 0 *s (x 3 *s (m · m)) -s x 0 *s (x 2 *s ((v 6 ×v v 4) · m)))
        ((v 4 ×v m) · ((x 2 *s x 1) *v v 4 -v ((x 0 *s x 2) *v v 6 +v (x 0 *s x 3) *v v 5))) tt) e)

    pub meet_cuts : (n ≡ origin → ⊥) → cuts_open t_of s_of nn ≡ true
    unfolding cuts_open
    meet_cuts z =
        and_both (and_both
        (lt_is (lt_cancel D dp (lt_subst (sym (*ℤ-zero D)) along_p (mul-pos h.after np))))
        (lt_is (lt_cancel D dp (lt_subst (*ℤ_comm nn P ∙ along_p) (*ℤ_comm nn D) (mul-lt nn np h.before)))))
        (and_both
        (le_is (le_cancel E t.some (le_subst (sym (*ℤ-zero E)) along_q (mul_nonneg t.least (<ℤ-≤ℤ np)))))
        (le_is (le_cancel E t.some (le_subst (*ℤ_comm nn S ∙ along_q) (*ℤ_comm nn E) (mul-le nn (<ℤ-≤ℤ np) t.most)))))
      where
        np : pos 0 <ℤ nn
        np = self_pos n z
