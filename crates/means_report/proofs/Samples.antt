-- Known drawings, told: so no statement above is empty.
use mathlib.Core.Path.{◌≡◌, refl, sym, ap, ◌∙◌}
use Prim.Native.Nat.{ℕ}
use native.Mathlib.Omega.{arith}
use Rattle.paper.specs.Numbers.{most_work, face_room, solid_room}
use Rattle.paper.specs.Drawing.{Wire, wire}
use Rattle.paper.specs.Questions.{Drawn, reply, face_before, solid_before}
use Rattle.paper.specs.Known.Drawings.{tetrahedron, open_cube, octahedron, nested}
use Rattle.paper.specs.Conversion.{Converted, convert_lists}
use Rattle.paper.specs.declared.Refusal.{Refusal}
use Rattle.paper.specs.declared.Conversion.{Conversion}
use Rattle.means_report.specs.Demand.{SaysNone, SaysOne, SaysSeveral, SaysLong}
use Rattle.means_report.proofs.Demand.{kind, says_none, says_one, says_several, says_long}
use Rattle.means_report.proofs.Report.{Sound}
use Rattle.means_report.proofs.Converted.{the_walk, lists_unrefused}

-- what is said of a drawing in the rooms of a caller
abbrev result : Drawn → ℕ → Converted
result d limit = convert_lists d.xyz d.ends limit (face_before face_room) (solid_before solid_room)

abbrev of : Drawn → Wire
of d = wire d.xyz d.ends

module _ (d : Drawn) (limit : ℕ) where
  abbrev Told : Type 0
  Told = Sound (of d) (the_walk (of d)) limit (face_before face_room) (solid_before solid_room) (result d limit)

  told : (a : Conversion) → (result d limit).answer ≡ a → ((x : Refusal) → a ≡ Conversion.Refused x → ⊥) → Told
  told a p f = lists_unrefused d.xyz d.ends limit (face_before face_room) (solid_before solid_room) (λ x e. f x (sym p ∙ e))

-- "Tetrahedron: 4 loops, work 0, six volumes 216": there is just one solid
tetrahedron-answer : (result tetrahedron most_work).answer ≡ Conversion.One 4 4 0 216
unfolding reply
tetrahedron-answer = refl

pub tetrahedron_told : SaysOne (of tetrahedron) (the_walk (of tetrahedron)) most_work (face_before face_room) (solid_before solid_room)
    (result tetrahedron most_work) 4 4 0 216
tetrahedron_told =
    says_one (of tetrahedron) (the_walk (of tetrahedron)) most_work (face_before face_room) (solid_before solid_room)
    (result tetrahedron most_work)
    (told tetrahedron most_work (Conversion.One 4 4 0 216) tetrahedron-answer (λ x e. omega (arith, ap kind e))) tetrahedron-answer

-- the cube "without one edge: NoSolid, work 0": there is none
open_answer : (result open_cube most_work).answer ≡ Conversion.NoSolid 4 4 0
unfolding reply
open_answer = refl

pub open_told : SaysNone (of open_cube) (the_walk (of open_cube)) most_work (face_before face_room) (solid_before solid_room)
    (result open_cube most_work) 4 4 0
open_told =
    says_none (of open_cube) (the_walk (of open_cube)) most_work (face_before face_room) (solid_before solid_room) (result open_cube most_work)
    (told open_cube most_work (Conversion.NoSolid 4 4 0) open_answer (λ x e. omega (arith, ap kind e))) open_answer

-- "Octahedron: 11 candidates, work 4, one solid. With limit 3: TooLong.": its tree has four assumptions
octahedron-answer : (result octahedron most_work).answer ≡ Conversion.One 11 11 4 8000
unfolding reply
octahedron-answer = refl

pub octahedron_told : SaysOne (of octahedron) (the_walk (of octahedron)) most_work (face_before face_room) (solid_before solid_room)
    (result octahedron most_work) 11 11 4 8000
octahedron_told =
    says_one (of octahedron) (the_walk (of octahedron)) most_work (face_before face_room) (solid_before solid_room)
    (result octahedron most_work)
    (told octahedron most_work (Conversion.One 11 11 4 8000) octahedron-answer (λ x e. omega (arith, ap kind e))) octahedron-answer

octahedron-cut : (result octahedron 3).answer ≡ Conversion.TooLong 11 11 3
unfolding reply
octahedron-cut = refl

pub octahedron_long : SaysLong (of octahedron) (the_walk (of octahedron)) 3 (face_before face_room) (solid_before solid_room)
    (result octahedron 3) 11 11 3
octahedron_long =
    says_long (of octahedron) (the_walk (of octahedron)) 3 (face_before face_room) (solid_before solid_room) (result octahedron 3)
    (told octahedron 3 (Conversion.TooLong 11 11 3) octahedron-cut (λ x e. omega (arith, ap kind e))) octahedron-cut

-- the cube round a cube: "24 candidates, work 4, three solids"
nested-answer : (result nested most_work).answer ≡ Conversion.Several 24 24 4 3
unfolding reply
nested-answer = refl

pub nested_told : SaysSeveral (of nested) (the_walk (of nested)) most_work (face_before face_room) (solid_before solid_room)
    (result nested most_work) 24 24 4 3
nested_told =
    says_several (of nested) (the_walk (of nested)) most_work (face_before face_room) (solid_before solid_room) (result nested most_work)
    (told nested most_work (Conversion.Several 24 24 4 3) nested-answer (λ x e. omega (arith, ap kind e))) nested-answer
