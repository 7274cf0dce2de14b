-- `verdict_faces::form::way_of`: the corners beside the lowest decide the direction.
use mathlib.Core.Path.{◌∙◌, sym}
use native.Mathlib.Omega.{arith}
use Rattle.verdict_faces.proofs.Turns.{face_long, lowest_in, onward_by}
use Rattle.verdict_faces.proofs.form.way_of.Goals as goal

pub from_place-after-requires : goal.from_place-after-requires
from_place-after-requires c =
    let f = c.requires in
    record { face = f; start = lowest_in f c.lowest_at-m.ensures; below = omega (arith, f.least) }

pub from_place-before-requires : goal.from_place-before-requires
from_place-before-requires c =
    let f = c.requires in
    record { face = f; start = lowest_in f c.lowest_at-m.ensures; below = omega (arith, f.least, c.count-n.ensures) }

pub returns : goal.returns
returns c =
    let f = c.requires in
    record {
      lowest_is = c.lowest_at-m.ensures;
      onward_is =
          onward_by _ c.lowest_at-m.ensures (c.count-n.ensures ∙ sym (face_long f)) c.from_place-after.ensures
          c.from_place-before.ensures;
    }
