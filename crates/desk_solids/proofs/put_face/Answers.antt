-- `desk_solids::put_face`: the tests tell which text it is. Each need goes back to both tests and to the start.
use mathlib.Core.Path.{◌≡◌, refl, sym, ◌∙◌}
use mathlib.Core.Bool.{true, false}
use native.Mathlib.Nat.{add-zero}
use Rattle.paper.specs.Desk.{text, signed}
use Rattle.desk_lines.proofs.Putting.{fits_as, puts_as}
use Rattle.desk_solids.specs.Solids.{face_text, face_if}
use Rattle.desk_solids.proofs.Lines.{face_is}
use Rattle.desk_solids.proofs.put_face.Goals as goal

-- ---- which text it is: against normal form, along it, none

minus_is : (c : goal.After-put_field-arg-then-is_turned-2-1) → let a = c.args in face_text a.k a.solid.now ≡ face_if true true a.k
minus_is c =
    let a = c.args in
    face_is a.k a.solid.now (sym c.is_taken.ensures ∙ c.if-is_taken.true) (sym c.is_turned.ensures ∙ c.if-is_turned.true)

minus_is-2 : (c : goal.After-slice_known-then-is_turned-1) → let a = c.args in face_text a.k a.solid.now ≡ face_if true true a.k
minus_is-2 c =
    let a = c.args in
    face_is a.k a.solid.now (sym c.is_taken.ensures ∙ c.if-is_taken.true) (sym c.is_turned.ensures ∙ c.if-is_turned.true)

plus-is : (c : goal.After-put_field-arg-then-is_taken-3-1) → let a = c.args in face_text a.k a.solid.now ≡ face_if true false a.k
plus-is c =
    let a = c.args in
    face_is a.k a.solid.now (sym c.is_taken.ensures ∙ c.if-is_taken.true) (sym c.is_turned.ensures ∙ c.if-is_turned.false)

plus-is-2 : (c : goal.After-slice_known-then-is_taken-1) → let a = c.args in face_text a.k a.solid.now ≡ face_if true false a.k
plus-is-2 c =
    let a = c.args in
    face_is a.k a.solid.now (sym c.is_taken.ensures ∙ c.if-is_taken.true) (sym c.is_turned.ensures ∙ c.if-is_turned.false)

-- ---- the needs

pub put_field-requires : goal.put_field-requires
unfolding signed text
put_field-requires c = fits_as (minus_is c) c.requires

pub returns-then-is_turned : goal.returns-then-is_turned
unfolding signed text
returns-then-is_turned c = puts_as (minus_is-2 c) c.put_field.ensures

pub put_field-requires-then-is_taken : goal.put_field-requires-then-is_taken
unfolding signed text
put_field-requires-then-is_taken c = fits_as (plus-is c) c.requires

pub returns-then-is_taken : goal.returns-then-is_taken
unfolding signed text
returns-then-is_taken c = puts_as (plus-is-2 c) c.put_field-then-is_taken.ensures

pub returns : goal.returns
returns c =
    let a = c.args in
    puts_as (face_is a.k a.solid.now (sym c.is_taken.ensures ∙ c.if-is_taken.false) refl)
    (record { room_is = refl; next_is = sym (add-zero a.at) })
