-- `drawing_rules::ends::end_at`: an end of the list is one of the vertices, so its point can be read.
use mathlib.Core.Path.{◌∙◌, ap}
use native.Mathlib.Omega.{arith}
use Rattle.polygon.specs.Rings.{point_of}
use Rattle.drawing_rules.proofs.Vertices.{vertex-read}
use Rattle.drawing_rules.proofs.ends.end_at.Goals as goal

pub point_at-requires : goal.point_at-requires
point_at-requires c =
    let lists = c.requires.lists in
    let low = lists.links.known c.args.k c.requires.k_in in
    vertex-read lists.points c.wide.result (omega (arith, c.wide.ensures, low))

pub returns : goal.returns
returns c =
    c.point_at.ensures ∙ ap (point_of c.args.xyz.now) c.wide.ensures
