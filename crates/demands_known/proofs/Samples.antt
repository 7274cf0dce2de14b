-- Known drawings under the demands: so no statement is empty.
use mathlib.Core.Path.{◌≡◌, refl, sym, subst, ◌∙◌}
use mathlib.Core.Logic.{◌⊎◌, inl, inr}
use mathlib.Core.List.{List, [], ◌∷◌}
use Prim.Native.Nat.{ℕ, zero, suc, ◌*◌, ◌<◌}
use native.Mathlib.Omega.{arith}
use lib.IntN.{pos}
use lib.ListN.{length, drop, length-replicate}
use Rattle.paper.specs.Verdict.{list_edition}
use Rattle.paper.specs.Numbers.{most_work, face_room, solid_room}
use Rattle.paper.specs.FaceList.{encode_faces, solid_faces}
use Rattle.paper.specs.Questions.{reply, face_before, solid_before}
use Rattle.paper.specs.Loops.{Loop, loop_at, flipped}
use Rattle.paper.specs.Known.Drawings.{cube, outward, inward_faces, nested, tetrahedron, octahedron}
use Rattle.paper.specs.declared.Refusal.{Refusal}
use Rattle.paper.specs.declared.Conversion.{Conversion}
use Rattle.paper.specs.declared.Conversion.TheVariants.{TooLong}
use Rattle.std.specs.Prelude.{Err}
use Rattle.paper.specs.Refusals.{ListAccepted}
use Rattle.means_drawing.specs.Drawings.{Doubled}
use Rattle.means_drawing.specs.Rules.{LowestVertex}
use Rattle.means_solid.specs.Named.{SameRing}
use Rattle.means_report.specs.Listed.{WalkTree}
use Rattle.means_check.specs.Bodies.{SameBody}
use Rattle.means_report.specs.Report.{solid_count}
use Rattle.demands.specs.Shells.{sent_faces}
use Rattle.demands.specs.Input.{Input, lent, drawing, candidates_of, Passes, converted, checked}
use Rattle.demands.specs.Walk.{work_to_nine, Allowed}
use Rattle.demands.specs.Spoiled.{Spoiled, all_turned}
use Rattle.demands.specs.Demand3.{Report}
use Rattle.demands.specs.Table.{end, rooms_and_limit, forms, drawings, of_conversion}
use Rattle.demands.proofs.Demand1.{demand1}
use Rattle.demands.proofs.Demand2.{demand2}
use Rattle.demands.proofs.Demand3.{demand3}
use Rattle.demands_known.proofs.Drawings.{of, on, result, cube-one, nested-three, cube_passes, octahedron_passes, nested_passes}
use Rattle.paper.specs.Refusals as No

told : (x : Input) → Passes x → 0 < solid_count (result x).answer → Report x (solid_before solid_room) (result x)
told x p h = (demand3 x p).reports most_work (face_before face_room) (solid_before solid_room) h

-- faces as a list that is sent for a drawing, and the faces of such a list
abbrev pub packed : Input → List Loop → List ℕ
packed x = encode_faces (list_edition (drawing x))

abbrev pub faces_for : Input → List ℕ → List Loop
faces_for x = sent_faces (drawing x)

-- "Cube of side 10": one solid, so every list that is accepted is the body of its known list
pub cube_list : checked (of cube) (packed (of cube) outward) ≡ ListAccepted
unfolding reply
cube_list = refl

pub cube_body : (list : List ℕ) → checked (of cube) list ≡ ListAccepted
    → SameBody (faces_for (of cube) (packed (of cube) outward)) (faces_for (of cube) list)
cube_body list a =
    let r = told (of cube) cube_passes (omega (arith, cube-one)) in
    r.same (r.n ∙ cube-one) (packed (of cube) outward) list cube_list a

-- "Cube of corners +-20 round a cube of corners +-10": three solids, and each, packed from the report's own rows and record, is accepted
pub nested_each : (i : ℕ) → i < 3
    → checked (of nested) (packed (of nested) (solid_faces (result (of nested)).faces (drop (3 * i) (result (of nested)).solids))) ≡ ListAccepted
nested_each i h =
    let r = told (of nested) nested_passes (omega (arith, nested-three)) in
    let l : i < length r.es = omega (arith, r.n, nested-three) in
    r.each i l (solid_faces (result (of nested)).faces (drop (3 * i) (result (of nested)).solids)) (r.some i l)

-- the tetrahedron on its sheet
sheet_passes : Passes (on tetrahedron)
unfolding reply
sheet_passes = refl

sheet-one : solid_count (result (on tetrahedron)).answer ≡ 1
unfolding reply
sheet-one = refl

pub tetrahedron_bodies : (a b : List ℕ) → checked (on tetrahedron) a ≡ ListAccepted → checked (on tetrahedron) b ≡ ListAccepted
    → SameBody (faces_for (on tetrahedron) a) (faces_for (on tetrahedron) b)
tetrahedron_bodies = let r = told (on tetrahedron) sheet_passes (omega (arith, sheet-one)) in r.same (r.n ∙ sheet-one)

-- "Its list with all faces turned" comes from an accepted list, so it is refused
pub turned_at : (i : ℕ) → i < 6 → SameRing (flipped (loop_at outward i)) (loop_at inward_faces i)
unfolding flipped
turned_at zero h = record { at = 1; turns = refl }
turned_at (suc zero) h = record { at = 1; turns = refl }
turned_at (suc (suc zero)) h = record { at = 1; turns = refl }
turned_at (suc (suc (suc zero))) h = record { at = 1; turns = refl }
turned_at (suc (suc (suc (suc zero)))) h = record { at = 1; turns = refl }
turned_at (suc (suc (suc (suc (suc zero))))) h = record { at = 1; turns = refl }
turned_at (suc (suc (suc (suc (suc (suc i)))))) h = absurd (omega arith)

pub outward-read : faces_for (of cube) (packed (of cube) outward) ≡ outward
unfolding reply
outward-read = refl

pub inward-read : faces_for (of cube) (packed (of cube) inward_faces) ≡ inward_faces
unfolding reply
inward-read = refl

pub cube_turned : (r : Refusal) × (checked (of cube) (packed (of cube) inward_faces) ≡ Err r)
cube_turned =
    (demand3 (of cube) cube_passes).refused (packed (of cube) outward) (packed (of cube) inward_faces) cube_list
    (subst (λ (fs : List Loop). Spoiled fs (faces_for (of cube) (packed (of cube) inward_faces))) (sym outward-read)
    (subst (Spoiled outward) (sym inward-read) (all_turned (λ i h. (i, h, turned_at i h)))))

-- "Octahedron .. With limit 3: TooLong": so its walk has more than three assumptions
pub octahedron-cut : (converted (of octahedron) 3 (face_before face_room) (solid_before solid_room)).answer ≡ TooLong 11 11 3
unfolding reply
octahedron-cut = refl

pub octahedron_long : (t : WalkTree (drawing (of octahedron)) (candidates_of (of octahedron))) → 3 < work_to_nine (of octahedron) t
octahedron_long t =
    ((((demand2 (of octahedron)).holds octahedron_passes t 3 (face_before face_room) (solid_before solid_room) allowed).long 11 11 3).0
    octahedron-cut).0
  where
    allowed : Allowed 3 (face_before face_room) (solid_before solid_room)
    allowed = (omega (arith, length-replicate {A = ℕ} 832 77), omega (arith, length-replicate {A = ℕ} 24 99), omega arith)

-- the tetrahedron with its last vertex at the second's place: 11, and its place is the lowest vertex that offends
skip : {A N B : Type 0} → (A → ⊥) → A ⊎ (N × B) → B
skip h (inl q) = absurd (h q)
skip h (inr q) = q.1

hit : {A N B : Type 0} → (B → ⊥) → A ⊎ (N × B) → A
hit h (inl q) = q
hit h (inr q) = absurd (h q.1)

abbrev twice : Input
twice =
    lent (pos 0 ∷ pos 0 ∷ pos 0 ∷ pos 6 ∷ pos 0 ∷ pos 0 ∷ pos 0 ∷ pos 6 ∷ pos 0 ∷ pos 6 ∷ pos 0 ∷ pos 0 ∷ []) tetrahedron.ends

twice_refused : (result twice).answer ≡ Conversion.Refused (record { number = No.SamePlace; place = 1 })
unfolding reply
twice_refused = refl

pub twice_place : LowestVertex (drawing twice) (Doubled (drawing twice)) 1
twice_place =
    let s = subst
    (λ (a : Conversion). rooms_and_limit most_work (face_before face_room) (solid_before solid_room) (forms twice (drawings (drawing twice) end))
    (of_conversion a)) twice_refused (demand1.converts twice most_work (face_before face_room) (solid_before solid_room)).1 in
    let t = skip (λ q. omega (arith, q.0)) (skip (λ q. omega (arith, q.0)) s) in
    let u = skip (λ q. omega (arith, q.0)) (skip (λ q. omega (arith, q.0)) t) in
    let w = skip (λ q. omega (arith, q.0)) (skip (λ q. omega (arith, q.0)) u) in
    (hit (λ s. skip (λ q. omega (arith, q.0)) (skip (λ q. omega (arith, q.0)) (skip (λ q. omega (arith, q.0))
    (skip (λ q. omega (arith, q.0)) (skip (λ q. omega (arith, q.0)) s))))) w).1
