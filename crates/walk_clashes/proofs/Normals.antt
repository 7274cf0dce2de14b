-- A list of points, three numbers each, of which one point is written.
use mathlib.Core.Path.{◌≡◌, ◌∙◌}
use mathlib.Core.List.{List}
use Prim.Native.Nat.{ℕ, ◌+◌, ◌*◌, ◌<◌}
use native.Mathlib.Omega.{arith}
use lib.IntN.{ℤ, pos}
use lib.ListN.{length, get_or, set, length-set}
use lib.Seq.{get_or-set_same, get_or-set_other}
use Rattle.paper.specs.declared.Point.{Point}
use Rattle.polygon.specs.Rings.{point_of}
use Rattle.walk_clashes.specs.Faces.{PointPut}

-- the three stores
abbrev pub put_at : List ℤ → ℕ → ℤ → ℤ → ℤ → List ℤ
put_at l k x y z = set (set (set l (3 * k) x) (3 * k + 1) y) (3 * k + 2) z

module _ (l : List ℤ) (k : ℕ) (x y z : ℤ) where
  long : length (put_at l k x y z) ≡ length l
  long = length-set (set (set l (3 * k) x) (3 * k + 1) y) (3 * k + 2) z ∙ length-set (set l (3 * k) x) (3 * k + 1) y ∙ length-set l (3 * k) x

  -- a number of another point
  away : (j : ℕ) → (j ≡ 3 * k → ⊥) → (j ≡ 3 * k + 1 → ⊥) → (j ≡ 3 * k + 2 → ⊥) → get_or (put_at l k x y z) j (pos 0) ≡ get_or l j (pos 0)
  away j a b c =
      get_or-set_other (set (set l (3 * k) x) (3 * k + 1) y) (3 * k + 2) j z (pos 0) c
      ∙ get_or-set_other (set l (3 * k) x) (3 * k + 1) j y (pos 0) b
      ∙ get_or-set_other l (3 * k) j x (pos 0) a

  others : (i : ℕ) → (i ≡ k → ⊥) → point_of (put_at l k x y z) i ≡ point_of l i
  unfolding point_of
  others i q =
      let a = away (3 * i) (λ e. q (omega (arith, e))) (λ e. omega (arith, e)) (λ e. omega (arith, e)) in
      let b = away (3 * i + 1) (λ e. omega (arith, e)) (λ e. q (omega (arith, e))) (λ e. omega (arith, e)) in
      let c = away (3 * i + 2) (λ e. omega (arith, e)) (λ e. omega (arith, e)) (λ e. q (omega (arith, e))) in
      λ t. record { x = a t; y = b t; z = c t }

  here : 3 * k + 2 < length l → (p : Point) → x ≡ p.x → y ≡ p.y → z ≡ p.z → point_of (put_at l k x y z) k ≡ p
  unfolding point_of
  here low p ex ey ez =
      let a =
      get_or-set_other (set (set l (3 * k) x) (3 * k + 1) y) (3 * k + 2) (3 * k) z (pos 0) (λ e. omega (arith, e))
      ∙ get_or-set_other (set l (3 * k) x) (3 * k + 1) (3 * k) y (pos 0) (λ e. omega (arith, e))
      ∙ get_or-set_same l (3 * k) x (pos 0) (omega (arith, low))
      ∙ ex in
      let b =
      get_or-set_other (set (set l (3 * k) x) (3 * k + 1) y) (3 * k + 2) (3 * k + 1) z (pos 0) (λ e. omega (arith, e))
      ∙ get_or-set_same (set l (3 * k) x) (3 * k + 1) y (pos 0) (omega (arith, low, length-set l (3 * k) x))
      ∙ ey in
      let c =
      get_or-set_same (set (set l (3 * k) x) (3 * k + 1) y) (3 * k + 2) z (pos 0)
      (omega (arith, low, length-set (set l (3 * k) x) (3 * k + 1) y, length-set l (3 * k) x))
      ∙ ez in
      λ t. record { x = a t; y = b t; z = c t }

  pub point_put_lem : 3 * k + 2 < length l → (p : Point) → x ≡ p.x → y ≡ p.y → z ≡ p.z → PointPut k p l (put_at l k x y z)
  point_put_lem low p ex ey ez = record { long = long; here = here low p ex ey ez; others = others }
