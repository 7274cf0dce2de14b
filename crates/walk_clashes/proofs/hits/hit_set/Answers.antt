-- `walk_clashes::hits::hit_set`: the sorted vertices are the masks of row g's plane, and rules A and B are asked of them.
use native.Mathlib.Omega.{arith}
use Rattle.polygon.proofs.Rows.{corner_in}
use Rattle.walk_clashes.proofs.Crossed.{face_of_lem}
use Rattle.walk_clashes.proofs.Planes.{hit_face, hit_plane, hit_pierce, hit_enter, hit_both}
use Rattle.walk_clashes.proofs.hits.hit_set.Goals as goal

pub point_at-m-requires : goal.point_at-m-requires
point_at-m-requires c =
    let w = c.requires in
    omega (arith, w.there, w.all.faces.most, w.all.normals_are.whole)

pub corner-o-requires : goal.corner-o-requires
corner-o-requires c = corner_in (face_of_lem (hit_face c.requires c.point_at-m.ensures)).row _ (omega arith)

pub at-own-requires : goal.at-own-requires
at-own-requires c = let w = c.requires in omega (arith, w.there, w.all.faces.most)

pub sort_vertices-s-requires : goal.sort_vertices-s-requires
sort_vertices-s-requires c = hit_plane c.requires c.point_at-m.ensures c.corner-o.ensures

pub piercing-through-requires : goal.piercing-through-requires
piercing-through-requires c = hit_pierce c.requires c.point_at-m.ensures c.corner-o.ensures c.sort_vertices-s.ensures

pub entering-requires : goal.entering-requires
entering-requires c =
    hit_enter c.requires c.point_at-m.ensures c.corner-o.ensures c.sort_vertices-s.ensures c.at-own.ensures c.minus.ensures

pub returns : goal.returns
returns c w =
    hit_both w c.point_at-m.ensures c.corner-o.ensures c.sort_vertices-s.ensures c.at-own.ensures c.minus.ensures
    c.piercing-through.ensures c.entering.ensures c.or.ensures
