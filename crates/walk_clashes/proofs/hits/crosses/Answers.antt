-- `walk_clashes::hits::crosses`: `pierced` is asked with the distances of both vertices from the plane.
use mathlib.Core.List.{[], ◌∷◌}
use mathlib.Core.Path.{◌≡◌, subst, sym, ap, ◌∙◌}
use native.Mathlib.Omega.{arith}
use Rattle.exact.specs.Size.{Within}
use Rattle.exact.proofs.Machine.{Plain, ◌▸◌, done, handed, reads}
use Rattle.exact.proofs.Ring.{var}
use Rattle.paper.specs.Numbers.{farthest}
use Rattle.paper.specs.Clash.{pierced}
use Rattle.paper.specs.Polygon.{plane_side}
use Rattle.polygon.specs.Rings.{ring}
use Rattle.polygon.specs.Sizes.{PointWithin, most_plane_side}
use Rattle.polygon.proofs.Planes.{face-normal, side_is, side_within}
use Rattle.polygon.proofs.Rows.{corner_in, corner-near, point_small}
use Rattle.polygon.proofs.Sizes.{small_eq}
use Rattle.walk_clashes.proofs.hits.crosses.Goals as goal

p-small : (c : goal.After-point_at-q) → PointWithin farthest c.point_at-p.result
p-small c = small_eq c.point_at-p.ensures (point_small _ c.requires.face.row.near _)

q-small : (c : goal.After-plane_side) → PointWithin farthest c.point_at-q.result
q-small c = small_eq c.point_at-q.ensures (point_small _ c.requires.face.row.near _)

p-small-2 : (c : goal.After-plane_side-2) → PointWithin farthest c.point_at-p.result
p-small-2 c = small_eq c.point_at-p.ensures (point_small _ c.requires.face.row.near _)

q-small-2 : (c : goal.After-plane_side-2) → PointWithin farthest c.point_at-q.result
q-small-2 c = small_eq c.point_at-q.ensures (point_small _ c.requires.face.row.near _)

-- ---- the distances

s-is : (c : goal.After-plane_side-2) → c.plane_side.result ≡ plane_side ((ring c.args.xyz.now c.args.rows.now c.args.g)) c.point_at-p.result
s-is c = c.plane_side.ensures ∙ side_is c.requires.face c.corner-o.ensures _

s-env : (c : goal.After-plane_side-2) → Plain (most_plane_side ∷ []) (c.plane_side.result ∷ [])
s-env c =
    subst (Within most_plane_side) (sym (s-is c)) (side_within c.requires.face (p-small-2 c)) ▸ done

t-is : (c : goal.After-plane_side-2) → c.plane_side-2.result ≡ plane_side ((ring c.args.xyz.now c.args.rows.now c.args.g)) c.point_at-q.result
t-is c = c.plane_side-2.ensures ∙ side_is c.requires.face c.corner-o.ensures _

t-env : (c : goal.After-plane_side-2) → Plain (most_plane_side ∷ []) (c.plane_side-2.result ∷ [])
t-env c =
    subst (Within most_plane_side) (sym (t-is c)) (side_within c.requires.face (q-small-2 c)) ▸ done

p-small-3 : (c : goal.After-pierced) → PointWithin farthest c.point_at-p.result
p-small-3 c = small_eq c.point_at-p.ensures (point_small _ c.requires.face.row.near _)

s-is-2 : (c : goal.After-pierced) → c.plane_side.result ≡ plane_side ((ring c.args.xyz.now c.args.rows.now c.args.g)) c.point_at-p.result
s-is-2 c = c.plane_side.ensures ∙ side_is c.requires.face c.corner-o.ensures _

s-env-2 : (c : goal.After-pierced) → Plain (most_plane_side ∷ []) (c.plane_side.result ∷ [])
s-env-2 c =
    subst (Within most_plane_side) (sym (s-is-2 c)) (side_within c.requires.face (p-small-3 c)) ▸ done

q-small-3 : (c : goal.After-pierced) → PointWithin farthest c.point_at-q.result
q-small-3 c = small_eq c.point_at-q.ensures (point_small _ c.requires.face.row.near _)

t-is-2 : (c : goal.After-pierced) → c.plane_side-2.result ≡ plane_side ((ring c.args.xyz.now c.args.rows.now c.args.g)) c.point_at-q.result
t-is-2 c = c.plane_side-2.ensures ∙ side_is c.requires.face c.corner-o.ensures _

t-env-2 : (c : goal.After-pierced) → Plain (most_plane_side ∷ []) (c.plane_side-2.result ∷ [])
t-env-2 c =
    subst (Within most_plane_side) (sym (t-is-2 c)) (side_within c.requires.face (q-small-3 c)) ▸ done

-- ---- the needs

pub corner-o-requires : goal.corner-o-requires
corner-o-requires c = corner_in c.requires.face.row _ (omega arith)

pub plane_side-requires : goal.plane_side-requires
plane_side-requires c =
    let f = c.requires.face in
    record { m_in = face-normal f; o_in = corner-near f.row _ c.corner-o.ensures; p_in = p-small c }

pub plane_side-requires-2 : goal.plane_side-requires-2
plane_side-requires-2 c =
    let f = c.requires.face in
    record { m_in = face-normal f; o_in = corner-near f.row _ c.corner-o.ensures; p_in = q-small c }

pub pierced-requires : goal.pierced-requires
pierced-requires c =
    record {
      face = c.requires.face;
      p_in = p-small-2 c;
      q_in = q-small-2 c;
      a_in = handed most_plane_side (s-env c) (var 0) tt tt;
      b_in = handed most_plane_side (t-env c) (var 0) tt tt;
    }

pub returns : goal.returns
returns c =
    let g = (ring c.args.xyz.now c.args.rows.now c.args.g) in
    let x = c.point_at-p.ensures in
    let y = c.point_at-q.ensures in
    let s = reads (s-env-2 c) (var 0) tt ∙ s-is-2 c ∙ ap (plane_side g) x in
    let t = reads (t-env-2 c) (var 0) tt ∙ t-is-2 c ∙ ap (plane_side g) y in
    c.pierced.ensures ∙ (λ i. pierced g (x i) (y i) (s i) (t i))
