-- Corner angles: a pass over a ring's corners, each with the one before and the one after.
use mathlib.Core.Path.{◌≡◌, refl, ◌∙◌, ap}
use mathlib.Core.Bool.{Bool, true, false, not, ◌||◌, ◌&&◌, or-false}
use Prim.Native.Nat.{ℕ, ◌+◌, ◌≤◌, ◌<◌}
use native.Mathlib.Omega.{arith}
use lib.ListN.{length}
use Rattle.lists.specs.Lists.{sides, any_true}
use Rattle.lists.specs.Around.{around}
use Rattle.lists.proofs.Search.{Left, any_true-search}
use Rattle.lists.proofs.Sides.{sides_length, sides-around, side_hit, side_miss, side_end}
use Rattle.paper.specs.Points.{origin, same_point}
use Rattle.paper.specs.Polygon.{Polygon}
use Rattle.paper.specs.Clash.{to, angle_holds, in_angle, turns_at}
use Rattle.paper.specs.declared.Point.{Point}
use Rattle.polygon.specs.Rings.{corner_of}

pub angle_is : (s l r : Bool) → (s && l) && r || not s && (l || r) ≡ angle_holds s l r
unfolding angle_holds
angle_is true l r = or-false (l && r)
angle_is false l r = refl

-- corner k + 1 of g is at u, and w points inside its angle
abbrev pub turns_here : Point → Point → Point → Polygon → ℕ → Bool
turns_here m u w g k = same_point (corner_of g (k + 1)) u && in_angle m (corner_of g k) (corner_of g (k + 1)) (corner_of g (k + 2)) w

abbrev pub TurnsLeft : Point → Point → Point → Polygon → ℕ → Type 0
TurnsLeft m u w g k = Left any_true (sides (turns_at m u w) (sides to g)) k

module _ (m u w : Point) (g : Polygon) (k : ℕ) where
  here_is : 2 ≤ length g → k < length g
      → turns_at m u w (around (sides to g) k (to origin origin)) (around (sides to g) (k + 1) (to origin origin)) ≡ turns_here m u w g k
  unfolding turns_at
  here_is two h =
      let e : k + 1 + 1 ≡ k + 2 = omega arith in
      let a = sides-around to g k (to origin origin) origin two (omega arith) in
      let b = sides-around to g (k + 1) (to origin origin) origin two (omega arith) in
      (λ i. turns_at m u w (a i) (b i))
      ∙ ap (λ (j : ℕ). same_point (corner_of g (k + 1)) u && in_angle m (corner_of g k) (corner_of g (k + 1)) (corner_of g j) w) e

  pub turns_hit : 2 ≤ length g → k < length g → TurnsLeft m u w g k → turns_here m u w g k ≡ true
      → any_true (sides (turns_at m u w) (sides to g)) ≡ true
  turns_hit two h l e =
      let n : k < length (sides to g) = omega (arith, sides_length to g) in
      side_hit any_true-search (turns_at m u w) (sides to g) k false (to origin origin) n l (here_is two h ∙ e)

  pub turns_miss : 2 ≤ length g → k < length g → TurnsLeft m u w g k → turns_here m u w g k ≡ false → TurnsLeft m u w g (k + 1)
  turns_miss two h l e =
      let n : k < length (sides to g) = omega (arith, sides_length to g) in
      side_miss any_true-search (turns_at m u w) (sides to g) k false (to origin origin) n l (here_is two h ∙ e)

  pub turns_end : length g ≤ k → TurnsLeft m u w g k → any_true (sides (turns_at m u w) (sides to g)) ≡ false
  turns_end h l = side_end any_true-search (turns_at m u w) (sides to g) k (omega (arith, sides_length to g)) l
