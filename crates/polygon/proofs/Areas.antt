-- The sum of the cross products of a ring's sides: one more of them, and how large it can be.
use mathlib.Core.Path.{◌≡◌, refl, sym, ◌∙◌, ap}
use mathlib.Core.List.{List, [], ◌∷◌, ◌++◌}
use Prim.Native.Nat.{ℕ, zero, suc, ◌+◌, ◌*◌, ◌≤◌, ◌<◌}
use native.Mathlib.Numerals.{add-one}
use native.Mathlib.Omega.{arith}
use lib.ListN.{length, take}
use lib.IntN.{+ℤ_idl, +ℤ_idr, +ℤ_assoc}
use Rattle.lists.specs.Lists.{sides}
use Rattle.lists.proofs.Sides.{sides_more, sides_all}
use Rattle.paper.specs.Numbers.{farthest, most_corners}
use Rattle.paper.specs.Points.{pt, origin, plus, cross, sum}
use Rattle.paper.specs.Polygon.{Polygon, normal}
use Rattle.paper.specs.declared.Point.{Point}
use Rattle.polygon.specs.Sizes.{PointWithin, most_normal}
use Rattle.polygon.specs.Rings.{corner_of}
use Rattle.polygon.proofs.Sizes.{small_eq, small_le, origin_small, plus_small, cross_small}

plus-left : (p : Point) → plus origin p ≡ p
unfolding plus
plus-left p = λ i. pt (+ℤ_idl p.x i) (+ℤ_idl p.y i) (+ℤ_idl p.z i)

plus-right : (p : Point) → plus p origin ≡ p
unfolding plus
plus-right p = λ i. pt (+ℤ_idr p.x i) (+ℤ_idr p.y i) (+ℤ_idr p.z i)

plus_assoc : (p q r : Point) → plus (plus p q) r ≡ plus p (plus q r)
unfolding plus
plus_assoc p q r = λ i. pt (+ℤ_assoc p.x q.x r.x i) (+ℤ_assoc p.y q.y r.y i) (+ℤ_assoc p.z q.z r.z i)

sum-snoc : (xs : List Point) (x : Point) → sum (xs ++ (x ∷ [])) ≡ plus (sum xs) x
unfolding sum
sum-snoc [] x = plus-right x ∙ sym (plus-left x)
sum-snoc (y ∷ xs) x = ap (plus y) (sum-snoc xs x) ∙ sym (plus_assoc y (sum xs) x)

-- the sum of the first k
unfoldable pub normal_to : Polygon → ℕ → Point
normal_to g k = sum (take k (sides cross g))

pub normal-none : (g : Polygon) → normal_to g 0 ≡ origin
unfolding normal_to sum
normal-none g = refl

pub normal_more : (g : Polygon) (k : ℕ) → k < length g
    → normal_to g (k + 1) ≡ plus (normal_to g k) (cross (corner_of g k) (corner_of g (k + 1)))
unfolding normal_to
normal_more g k h =
    ap sum (sides_more cross g k origin origin h) ∙ sum-snoc (take k (sides cross g)) (cross (corner_of g k) (corner_of g (k + 1)))

pub normal-all : (g : Polygon) (k : ℕ) → k ≡ length g → normal_to g k ≡ normal g
unfolding normal_to normal
normal-all g k e = ap sum (sides_all cross g k e)

-- how large
module _ (g : Polygon) (near : (j : ℕ) → PointWithin farthest (corner_of g j)) where
  part_small : (k : ℕ) → k ≤ length g → PointWithin (k * (2 * (farthest * farthest))) (normal_to g k)
  part_small zero h = small_eq (normal-none g) (origin_small (0 * (2 * (farthest * farthest))))
  part_small (suc k) h =
      small_eq (ap (normal_to g) (sym (add-one k)) ∙ normal_more g k h)
      (small_le (more k) (plus_small (part_small k (omega arith)) (cross_small (near k) (near (k + 1)))))
    where
      more : (k : ℕ) → k * (2 * (farthest * farthest)) + (farthest * farthest + farthest * farthest) ≤ suc k * (2 * (farthest * farthest))
      more k = omega arith

  pub normal_to_small : length g ≤ most_corners → (k : ℕ) → k ≤ length g → PointWithin most_normal (normal_to g k)
  normal_to_small few k h = small_le (omega arith) (part_small k h)

  pub normal_small : length g ≤ most_corners → PointWithin most_normal (normal g)
  normal_small few = small_eq (sym (normal-all g (length g) refl)) (normal_to_small few (length g) (omega arith))
