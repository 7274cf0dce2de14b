-- `loop_search::planes::plane_of`: the loop keeps that the set has those of the first w vertices that are in the plane.
use mathlib.Core.Bool.{Bool}
use mathlib.Core.List.{List, map}
use mathlib.Core.Path.{◌≡◌, sym, subst, ◌∙◌}
use Prim.Native.Nat.{ℕ, ◌+◌, ◌<◌}
use native.Mathlib.Omega.{arith}
use Rattle.lists.specs.Lists.{from, upto}
use Rattle.sets.specs.Sets.{Is}
use Rattle.sets.specs.declared.Set.{Set}
use Rattle.paper.specs.Numbers.{most_vertices}
use Rattle.loop_search.specs.Lines.{level_in}
use Rattle.loop_search.proofs.Level.{level_yes, level_no, plane_small, level_is}
use Rattle.loop_search.proofs.planes.plane_of.Goals as goal
use Rattle.loop_search.proofs.planes.plane_of.Goals.{then-is_zero, else-is_zero}

-- the set with w asked, too
abbrev wider : goal.Joined-is_zero → List Bool
wider c = let a = c.args in map (level_in a.xyz.now a.s a.m) (upto (c.loop-w.w + 1))

-- the code asks whether w is in the plane
w-level : (c : goal.Joined-is_zero) → let a = c.args in level_in a.xyz.now a.s a.m c.loop-w.w ≡ c.is_zero.result
w-level c =
    level_is c.requires c.loop-w.w c.point_at.ensures c.plane_side.ensures c.plane_side.type_inv c.is_zero.ensures

gathers : (c : goal.Joined-is_zero) → Is c.if-is_zero.plane (wider c)
gathers c =
    let a = c.args in
    let few : c.loop-w.w < most_vertices = omega (arith, c.requires.few) in
    elim c.if-is_zero.branch [
      | then-is_zero t ↦
          subst (λ (x : Set). Is x (wider c)) (sym t.plane-is)
          (level_yes a.xyz.now a.s a.m c.loop-w.w few c.loop-w.invariant.is (w-level c ∙ t.if-is_zero.true) t.with-plane.ensures)
      | else-is_zero t ↦
          subst (λ (x : Set). Is x (wider c)) (sym t.plane-is)
          (level_no a.xyz.now a.s a.m c.loop-w.w few c.loop-w.invariant.is (w-level c ∙ t.if-is_zero.false))
    ]

-- ---- the needs

pub loop-w-init : goal.loop-w-init
unfolding upto from
loop-w-init c = record { reached = omega arith; is = c.none-plane.ensures }

pub point_at-requires : goal.point_at-requires
point_at-requires c = omega (arith, c.requires.points.whole)

pub plane_side-requires : goal.plane_side-requires
plane_side-requires c =
    plane_small c.requires c.loop-w.w c.point_at.result c.point_at.ensures

pub with-plane-requires : goal.with-plane-requires
with-plane-requires c = omega (arith, c.requires.few)

pub loop-w-preserved : goal.loop-w-preserved
loop-w-preserved c = record { reached = omega arith; is = gathers c }

pub returns : goal.returns
returns c =
    let a = c.args in
    let e : c.loop-w.w ≡ a.v = omega (arith, c.loop-w.invariant.reached) in
    subst (λ (n : ℕ). Is c.loop-w.plane (map (level_in a.xyz.now a.s a.m) (upto n))) e c.loop-w.invariant.is
