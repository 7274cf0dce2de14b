-- Known drawings as they are put to the demands, and what conversion says of them: each is evaluated once.
use mathlib.Core.Path.{◌≡◌, refl, ap}
use mathlib.Core.List.{List, ◌∷◌}
use Prim.Native.Nat.{ℕ, ◌<◌}
use native.Mathlib.Omega.{arith}
use Rattle.paper.specs.Numbers.{most_work, face_room, solid_room}
use Rattle.paper.specs.Format.{encode, lent_edition}
use Rattle.paper.specs.Questions.{Drawn, reply, face_before, solid_before}
use Rattle.paper.specs.Known.Drawings.{cube, octahedron, nested}
use Rattle.paper.specs.Conversion.{Converted}
use Rattle.paper.specs.declared.Conversion.{Conversion}
use Rattle.means_report.specs.Report.{solid_count}
use Rattle.demands.specs.Input.{Input, lent, sheet, Passes, converted}
use Rattle.demands.specs.Walk.{Allowed}
use Rattle.demands.proofs.Demand2.{demand2}

abbrev pub of : Drawn → Input
of d = lent d.xyz d.ends

abbrev pub bytes : Drawn → List ℕ
bytes d = encode (lent_edition d.xyz d.ends) d.xyz d.ends

abbrev pub on : Drawn → Input
on d = sheet (bytes d)

-- what conversion says of it in the rooms of a caller
abbrev pub result : Input → Converted
result x = converted x most_work (face_before face_room) (solid_before solid_room)

-- of that, the answer and the room for solids
abbrev pub Said : Type 0
Said = Conversion × List ℕ

abbrev pub said : Converted → Said
said c = (c.answer, c.solids)

-- the room after a report: three words for each solid, its faces, those of them that are turned and six volumes; the rest as it was
abbrev pub one : ℕ → ℕ → ℕ → List ℕ
one taken turned six = taken ∷ turned ∷ six ∷ solid_before 21

-- three solids of 224,000 each, by their faces and directions
abbrev pub three : ℕ → ℕ → ℕ → ℕ → ℕ → ℕ → List ℕ
three a b c d e f = a ∷ b ∷ 224000 ∷ c ∷ d ∷ 224000 ∷ e ∷ f ∷ 224000 ∷ solid_before 15

pub cube-said : said (result (of cube)) ≡ (Conversion.One 6 6 0 6000, one 63 21 6000)
unfolding reply
cube-said = refl

pub octahedron-said : said (result (of octahedron)) ≡ (Conversion.One 11 11 4 8000, one 990 588 8000)
unfolding reply
octahedron-said = refl

abbrev pub nested_words : List ℕ
nested_words = three 13482931 8981265 11959661 10507305 8111838 2785932

pub nested-said : said (result (of nested)) ≡ (Conversion.Several 24 24 4 3, nested_words)
unfolding reply
nested-said = refl

-- a report comes of a drawing that passes 3 to 16, and of rooms and a limit that are allowed
reports : (x : Input) → 0 < solid_count (result x).answer → Passes x × Allowed most_work (face_before face_room) (solid_before solid_room)
reports x h = (demand2 x).reports most_work (face_before face_room) (solid_before solid_room) h

abbrev count : Said → ℕ
count s = solid_count s.0

pub cube-one : solid_count (result (of cube)).answer ≡ 1
cube-one = ap count cube-said

pub octahedron-one : solid_count (result (of octahedron)).answer ≡ 1
octahedron-one = ap count octahedron-said

pub nested-three : solid_count (result (of nested)).answer ≡ 3
nested-three = ap count nested-said

pub cube_passes : Passes (of cube)
cube_passes = (reports (of cube) (omega (arith, cube-one))).0

pub octahedron_passes : Passes (of octahedron)
octahedron_passes = (reports (of octahedron) (omega (arith, octahedron-one))).0

pub nested_passes : Passes (of nested)
nested_passes = (reports (of nested) (omega (arith, nested-three))).0

pub allowed : Allowed most_work (face_before face_room) (solid_before solid_room)
allowed = (reports (of cube) (omega (arith, cube-one))).1
