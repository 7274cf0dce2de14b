-- `verdict_faces::form::corner`: from the lowest corner on, or back from it, as the face's direction says.
use mathlib.Core.Path.{◌∙◌, sym}
use native.Mathlib.Omega.{arith}
use Rattle.verdict_faces.proofs.Turns.{face_long, lowest_in, corner_on, corner-first, corner_back}
use Rattle.verdict_faces.proofs.form.corner.Goals as goal

-- ---- the needs

pub from_place-requires : goal.from_place-requires
from_place-requires c =
    let p = c.requires in
    record { face = p.face; start = lowest_in p.face p.way.lowest_is; below = p.below }

pub returns-then-way : goal.returns-then-way
returns-then-way c =
    let p = c.requires in
    c.from_place.ensures ∙ corner_on _ p.way.lowest_is _ (sym p.way.onward_is ∙ c.if-way.true)

pub from_place-requires-then-i-eq0 : goal.from_place-requires-then-i-eq0
from_place-requires-then-i-eq0 c =
    let p = c.requires in
    record { face = p.face; start = lowest_in p.face p.way.lowest_is; below = omega (arith, p.face.least) }

pub returns-then-i-eq0 : goal.returns-then-i-eq0
returns-then-i-eq0 c =
    let p = c.requires in
    c.from_place-then-i-eq0.ensures ∙ corner-first _ p.way.lowest_is _ (sym p.way.onward_is ∙ c.if-way.false) c.if-i-eq0.true

pub from_place-requires-2 : goal.from_place-requires-2
from_place-requires-2 c =
    let p = c.requires in
    record {
      face = p.face;
      start = lowest_in p.face p.way.lowest_is;
      below = omega (arith, c.count-n.ensures, c.if-i-eq0.false, p.below);
    }

pub returns : goal.returns
returns c =
    let p = c.requires in
    let l = c.count-n.ensures in
    c.from_place-2.ensures
    ∙ corner_back _ p.way.lowest_is _ (sym p.way.onward_is ∙ c.if-way.false) (l ∙ sym (face_long p.face))
    (omega (arith, c.if-i-eq0.false)) (omega (arith, p.below))
