-- A point between two others: the test `onOpen`, from its two parts.
use mathlib.Core.Path.{◌≡◌, refl, sym, ◌∙◌, ap}
use mathlib.Core.Bool.{true}
use mathlib.Core.Logic.{◌↔◌}
use mathlib.Core.List.{[], ◌∷◌}
use native.Mathlib.Omega.{arith}
use lib.IntN.{ℤ, pos, neg_ℤ, ◌-ℤ◌, ◌*ℤ◌, *ℤ-zero}
use lib.Signed.{◌<ℤ◌}
use Rattle.exact.proofs.Ring.{var, con, ◌⊖◌}
use Rattle.exact.proofs.Order.{mul-pos, mul-lt, sub_pos, neg_lt, lt_chain, lt_cancel}
use Rattle.exact.proofs.Linear.{le_to, lt_to, lt_by}
use Rattle.lists.proofs.Truth.{and_left, and_right, and_both}
use Rattle.exact.proofs.Signs.{lt_yes, lt_is, pos-ne, lt_subst}
use Rattle.paper.specs.Points.{origin, minus, times, dot, cross, is_origin, below}
use Rattle.paper.specs.Drawing.{on_open}
use Rattle.paper.specs.declared.Point.{Point}
use Rattle.paper_laws.proofs.Points.{origin_yes, origin_is, differ, from_eq, scale_zero, in_line_lem, self_nonneg, self_pos}
use Rattle.means_drawing.specs.Segments.{Between}
use Rattle.paper_laws.proofs.Vectors.{num, vec, k, x, ◌-s◌, ◌*s◌, negs, ◌·◌, o, v, ◌+v◌, ◌-v◌, ◌*v◌, ◌×v◌, vring}

module _ (a b p : Point) where
  abbrev d : Point
  d = minus b a

  abbrev w : Point
  w = minus p a

  from_b : minus p b ≡ minus w d
  from_b = vring (vec p ∷ vec b ∷ vec a ∷ []) (v 0 -v v 1) ((v 0 -v v 2) -v (v 1 -v v 2)) tt

  between_is : (a ≡ b → ⊥) → Between a b p → (cross d w ≡ origin) × (dot w (minus p b) <ℤ pos 0)
  between_is n t = (
    scale_zero D (cross d w) (pos-ne dp)
        (vring (num D ∷ vec d ∷ vec w ∷ []) (x 0 *v (v 1 ×v v 2)) (v 1 ×v (x 0 *v v 2)) tt ∙ ap (cross d) line
        ∙ vring (num S ∷ vec d ∷ []) (v 1 ×v (x 0 *v v 1)) o tt),
    lt_cancel (D *ℤ D) (mul-pos dp dp)
        (lt_subst (sym twice) (sym (*ℤ-zero (D *ℤ D)))
        (neg_lt (mul-pos (mul-pos t.here.after (sub_pos t.here.before)) (self_pos d (differ n))))),
  )
    where
      D : ℤ
      D = t.here.scale

      S : ℤ
      S = t.here.place

      dp : pos 0 <ℤ D
      dp = lt_chain t.here.after t.here.before

      line : times D w ≡ times S d
      line = from_eq (pos 1) (vring (num D ∷ num S ∷ vec a ∷ vec b ∷ vec p ∷ [])
          (x 0 *v (v 4 -v v 2) -v x 1 *v (v 3 -v v 2)) (k (pos 1) *v (x 0 *v v 4 -v (x 0 *v v 2 +v x 1 *v (v 3 -v v 2)))) tt) t.is

      twice : (D *ℤ D) *ℤ dot w (minus p b) ≡ neg_ℤ ((S *ℤ (D -ℤ S)) *ℤ dot d d)
      twice =
          ap (λ (y : Point). (D *ℤ D) *ℤ dot w y) from_b
          ∙ vring (num D ∷ vec w ∷ vec d ∷ []) ((x 0 *s x 0) *s (v 1 · (v 1 -v v 2))) ((x 0 *v v 1) · ((x 0 *v v 1) -v x 0 *v v 2)) tt
          ∙ ap (λ (y : Point). dot y (minus y (times D d))) line
          ∙ vring (num D ∷ num S ∷ vec d ∷ []) ((x 1 *v v 2) · ((x 1 *v v 2) -v x 0 *v v 2)) (negs ((x 1 *s (x 0 -s x 1)) *s (v 2 · v 2)))
          tt

  between_of : cross d w ≡ origin → dot w (minus p b) <ℤ pos 0 → Between a b p
  between_of e h = record {
    here = record { scale = m; place = u; after = up; before = um };
    is = from_eq (pos 1) (vring (num m ∷ num u ∷ vec a ∷ vec b ∷ vec p ∷ [])
        (x 0 *v v 4 -v (x 0 *v v 2 +v x 1 *v (v 3 -v v 2))) (k (pos 1) *v (x 0 *v (v 4 -v v 2) -v x 1 *v (v 3 -v v 2))) tt) line;
  }
    where
      m : ℤ
      m = dot d d

      u : ℤ
      u = dot d w

      line : times m w ≡ times u d
      line = in_line_lem d w e

      small : (dot w w -ℤ u) <ℤ pos 0
      small = lt_subst (ap (dot w) from_b ∙ vring (vec w ∷ vec d ∷ []) (v 0 · (v 0 -v v 1)) (v 0 · v 0 -s v 1 · v 0) tt) refl h

      wu : dot w w <ℤ u
      wu = let ρ = dot w w ∷ u ∷ [] in lt_by ρ (var 0) (var 1) (omega (arith, lt_to ρ (var 0 ⊖ var 1) (con (pos 0)) small))

      up : pos 0 <ℤ u
      up =
          let ρ = dot w w ∷ u ∷ [] in
          lt_by ρ (con (pos 0)) (var 1) (omega (arith, lt_to ρ (var 0) (var 1) wu, le_to ρ (con (pos 0)) (var 0) (self_nonneg w)))

      mp : pos 0 <ℤ m
      mp = self_pos d (λ z. pos-ne up (ap (λ (y : Point). dot y w) z ∙ vring (vec w ∷ []) (o · v 0) (k (pos 0)) tt))

      square : m *ℤ dot w w ≡ u *ℤ u
      square =
          vring (num m ∷ vec w ∷ []) (x 0 *s (v 1 · v 1)) (v 1 · (x 0 *v v 1)) tt ∙ ap (dot w) line
          ∙ vring (num u ∷ vec w ∷ vec d ∷ []) (v 1 · (x 0 *v v 2)) (x 0 *s (v 2 · v 1)) tt

      um : u <ℤ m
      um = lt_cancel u up (lt_subst square (vring (num m ∷ num u ∷ []) (x 0 *s x 1) (x 1 *s x 0) tt) (mul-lt m mp wu))

-- a point lies on the segment from a to b without its ends exactly when `onOpen` says so
pub on_open_means : (a b p : Point) → (a ≡ b → ⊥) → (on_open a b p ≡ true) ↔ Between a b p
unfolding on_open below
on_open_means a b p n =
    let line = is_origin (cross (minus b a) (minus p a)) in
    let inner = below (dot (minus p a) (minus p b)) in (
      (λ e. between_of a b p (origin_yes (cross (minus b a) (minus p a)) (and_left line inner e)) (lt_yes (and_right line inner e))),
      (λ t. let h = between_is a b p n t in and_both (origin_is h.0) (lt_is h.1)),
    )
