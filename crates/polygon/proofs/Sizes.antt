-- How large points are: sums, differences and products.
use mathlib.Core.Path.{◌≡◌, sym, subst}
use Prim.Native.Nat.{ℕ, ◌+◌, ◌*◌, ◌≤◌}
use native.Mathlib.Omega.{arith}
use lib.Dec.{T, leb}
use lib.IntN.{ℤ, pos}
use Rattle.exact.specs.Size.{Within}
use Rattle.exact.proofs.Size.{within_add, within_sub, within_mul, within_up, within_le}
use Rattle.paper.specs.Points.{origin, plus, minus, times, cross, dot, det}
use Rattle.paper.specs.declared.Point.{Point}
use Rattle.polygon.specs.Sizes.{PointWithin}

pub small_eq : {n : ℕ} {p q : Point} → p ≡ q → PointWithin n q → PointWithin n p
small_eq {n} e h = subst (λ (p : Point). PointWithin n p) (sym e) h

-- a larger bound; at two numerals `t` is `tt`
pub small_up : {m n : ℕ} {p : Point} → T (leb m n) → PointWithin m p → PointWithin n p
small_up t h = record { x_in = within_up t h.x_in; y_in = within_up t h.y_in; z_in = within_up t h.z_in }

pub small_le : {m n : ℕ} {p : Point} → m ≤ n → PointWithin m p → PointWithin n p
small_le t h = record { x_in = within_le t h.x_in; y_in = within_le t h.y_in; z_in = within_le t h.z_in }

pub origin_small : (n : ℕ) → PointWithin n origin
origin_small n =
    let none : Within n (pos 0) = record { within = omega arith } in
    record { x_in = none; y_in = none; z_in = none }

module _ {m n : ℕ} {p q : Point} (h : PointWithin m p) (k : PointWithin n q) where
  pub plus_small : PointWithin (m + n) (plus p q)
  unfolding plus
  plus_small = record {
    x_in = within_add h.x_in k.x_in;
    y_in = within_add h.y_in k.y_in;
    z_in = within_add h.z_in k.z_in;
  }

  pub minus_small : PointWithin (m + n) (minus p q)
  unfolding minus
  minus_small = record {
    x_in = within_sub h.x_in k.x_in;
    y_in = within_sub h.y_in k.y_in;
    z_in = within_sub h.z_in k.z_in;
  }

  pub cross_small : PointWithin (m * n + m * n) (cross p q)
  unfolding cross
  cross_small = record {
    x_in = within_sub (within_mul h.y_in k.z_in) (within_mul h.z_in k.y_in);
    y_in = within_sub (within_mul h.z_in k.x_in) (within_mul h.x_in k.z_in);
    z_in = within_sub (within_mul h.x_in k.y_in) (within_mul h.y_in k.x_in);
  }

  pub dot_small : Within (m * n + m * n + m * n) (dot p q)
  unfolding dot
  dot_small =
      within_add (within_add (within_mul h.x_in k.x_in) (within_mul h.y_in k.y_in)) (within_mul h.z_in k.z_in)

pub det_small : {m n k : ℕ} {p q r : Point} → PointWithin m p → PointWithin n q → PointWithin k r
    → Within (m * (n * k + n * k) + m * (n * k + n * k) + m * (n * k + n * k)) (det p q r)
unfolding det
det_small h k l = dot_small h (cross_small k l)

pub times_small : {m n : ℕ} {k : ℤ} {p : Point} → Within m k → PointWithin n p → PointWithin (m * n) (times k p)
unfolding times
times_small h p = record { x_in = within_mul h p.x_in; y_in = within_mul h p.y_in; z_in = within_mul h p.z_in }
