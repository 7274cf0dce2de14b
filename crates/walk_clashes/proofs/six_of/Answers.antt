-- `walk_clashes::six_of`: the corner and the normal are within the sizes of `dot`.
use native.Mathlib.Omega.{arith}
use mathlib.Core.Path.{subst, sym, ◌∙◌}
use Rattle.exact.specs.Size.{Within}
use Rattle.walk_tables.specs.Words.{most_part}
use Rattle.polygon.proofs.Rows.{corner_in, corner-near}
use Rattle.polygon.proofs.Planes.{face-normal}
use Rattle.polygon.proofs.Sizes.{small_up}
use Rattle.walk_clashes.proofs.Parts.{part_is, part_small, kept}
use Rattle.walk_clashes.proofs.six_of.Goals as goal

pub corner-requires : goal.corner-requires
corner-requires c = corner_in c.requires.row _ (omega arith)

pub dot-requires : goal.dot-requires
dot-requires c =
    let f = c.requires in
    record { a_in = small_up tt (corner-near f.row _ c.corner.ensures); b_in = face-normal f }

pub returns : goal.returns
returns c =
    let f = c.requires in
    let is = c.dot.ensures ∙ part_is f c.corner.ensures in
    kept (subst (Within most_part) (sym is) (part_small f)) ∙ is
