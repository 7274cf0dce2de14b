-- `demanded_together::sent_and_checked`: what was written is checked, and was written where it can be.
use mathlib.Core.List.{List}
use mathlib.Core.Bool.{Bool}
use mathlib.Core.Path.{◌≡◌, sym, subst}
use Prim.Native.Nat.{ℕ, ◌*◌, ◌-◌, ◌/◌, ◌≤◌}
use native.Mathlib.Omega.{arith}
use lib.IntN.{ℤ}
use lib.ListN.{length, take, drop, replicate, length-drop, length-replicate}
use lib.Seq.{length-take-le, take_all}
use Rattle.paper.specs.FaceList.{solid_faces, list_room}
use Rattle.demands.specs.Input.{lent}
use Rattle.demanded_together.specs.Together.{AcceptedAsSent}
use Rattle.demanded_together.proofs.Agreeing.{sent-fits, unsent, sent_so}
use Rattle.demanded_together.proofs.sent_and_checked.Goals as goal

abbrev room : List ℕ
room = replicate list_room 0

-- the record of solid i, which is all from word 3 i on
abbrev record_of : List ℕ → ℕ → List ℕ
record_of solids i = take (length solids - 3 * i) (drop (3 * i) solids)

from_record : (xyz : List ℤ) (ends rows solids : List ℕ) (i : ℕ) {b : Bool}
    → AcceptedAsSent (lent xyz ends) (solid_faces rows (record_of solids i)) b
    → AcceptedAsSent (lent xyz ends) (solid_faces rows (drop (3 * i) solids)) b
from_record xyz ends rows solids i {b} =
    subst (λ (ws : List ℕ). AcceptedAsSent (lent xyz ends) (solid_faces rows ws) b)
    (take_all (length solids - 3 * i) (drop (3 * i) solids) (omega (arith, length-drop (3 * i) solids)))

-- the bytes that the writer reports are in its room
pub slice_bounds-room-end : goal.slice_bounds-room-end
slice_bounds-room-end c =
    let a = c.args in
    let fs = solid_faces a.rows.now (record_of a.solids.now a.i) in
    let fits = sent-fits (length a.xyz.now / 3) (length a.ends.now / 2) fs room c.in-Ok.ensures.answer in
    omega (arith, length-replicate {A = ℕ} list_room 0, fits)

pub slice_bounds-check-end : goal.slice_bounds-check-end
slice_bounds-check-end c =
    let a = c.args in
    let fs = solid_faces a.rows.now (record_of a.solids.now a.i) in
    let fits = sent-fits (length a.xyz.now / 3) (length a.ends.now / 2) fs room c.in-Ok.ensures.answer in
    sym (length-take-le _ _ (omega (arith, length-replicate {A = ℕ} list_room 0, fits)))

pub returns-in-Err : goal.returns-in-Err
returns-in-Err c =
    let a = c.args in
    let fs = solid_faces a.rows.now (record_of a.solids.now a.i) in
    from_record a.xyz.now a.ends.now a.rows.now a.solids.now a.i
    (unsent a.xyz.now a.ends.now fs room (length-replicate {A = ℕ} list_room 0) c.in-Err.ensures.answer)

pub returns-in-Ok : goal.returns-in-Ok
returns-in-Ok c =
    let a = c.args in
    let fs = solid_faces a.rows.now (record_of a.solids.now a.i) in
    from_record a.xyz.now a.ends.now a.rows.now a.solids.now a.i
    (sent_so a.xyz.now a.ends.now fs room (length-replicate {A = ℕ} list_room 0) c.in-Ok.ensures.answer c.write_faces.ensures.kept
    c.check.ensures.result c.is_ok.ensures.value)
