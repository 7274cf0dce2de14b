-- `polygon::rings::corner`: the place that is read is one of the row's corners, and the ring has its point there.
use mathlib.Core.Path.{◌∙◌, ap, subst, sym}
use Prim.Native.Nat.{◌<◌, ℕ}
use native.Mathlib.Omega.{arith}
use lib.ListN.{get_or}
use Rattle.lists.specs.Around.{around, wrap}
use Rattle.paper.specs.Points.{origin}
use Rattle.polygon.specs.Rings.{point_of, ring, corner_count}
use Rattle.polygon.proofs.Rows.{ring-at, ring_length}
use Rattle.polygon.proofs.rings.corner.Goals as goal

-- the place that is read is one of the row
place : (c : goal.After-wide) → let a = c.args in c.round-k.result < corner_count a.table.now a.r
place c = subst (λ (n : ℕ). c.round-k.result < n) c.count.ensures c.round-k.ensures.1

place-2 : (c : goal.After-point_at) → let a = c.args in c.round-k.result < corner_count a.table.now a.r
place-2 c = subst (λ (n : ℕ). c.round-k.result < n) c.count.ensures c.round-k.ensures.1

-- ---- the needs

pub round-k-requires : goal.round-k-requires
round-k-requires c = omega (arith, ring_length c.requires.row)

pub point_at-requires : goal.point_at-requires
point_at-requires c =
    let row = c.requires.row in
    omega (arith, row.known c.round-k.result (place c), c.wide.ensures)

pub returns : goal.returns
unfolding around
returns c =
    let l = c.args.xyz.now in
    let g = ring l c.args.table.now c.args.r in
    let row = c.requires.row in
    let n = c.count.ensures ∙ sym (ring_length row) in
    c.point_at.ensures
    ∙ ap (point_of l) c.wide.ensures
    ∙ sym (ring-at row c.round-k.result (place-2 c))
    ∙ ap (λ (j : ℕ). get_or g j origin) (c.round-k.ensures.0 ∙ ap (λ (m : ℕ). wrap m c.args.j) n)
