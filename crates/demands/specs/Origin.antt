-- Six volumes of a solid does not go by the origin: it is the same with all positions taken from any point.
use Rattle.std.specs.Prelude.{◌≡◌, Bool, List, map, ℕ, ℤ, pos}
use Rattle.paper.specs.Points.{minus}
use Rattle.paper.specs.Polygon.{Polygon}
use Rattle.paper.specs.Drawing.{Wire}
use Rattle.paper.specs.Loops.{Loop, polygon}
use Rattle.paper.specs.Solids.{face_six}
use Rattle.paper.specs.declared.Point.{Point}
use Rattle.means_solid.specs.Solid.{face_sum}
use Rattle.demands.specs.Input.{Input, drawing, candidates_of, Passes}
use Rattle.demands.specs.Solid.{Solid}

-- a face's corners, their positions taken from p
abbrev pub seen_from : Point → Polygon → Polygon
seen_from p f = map (λ q. minus q p) f

-- six volumes, over the faces in their directions, with positions taken from p
abbrev pub six_about : (d : Wire) (cs : List Loop) (taken turned : List Bool) → Point → ℤ
six_about d cs taken turned p = face_sum taken turned (λ l. face_six (seen_from p (polygon d l))) 0 cs

abbrev pub AnyOrigin : Type 0
AnyOrigin = (x : Input) → Passes x → (taken turned : List Bool) (six : ℕ) → Solid (drawing x) (candidates_of x) taken turned six
    → (p : Point) → six_about (drawing x) (candidates_of x) taken turned p ≡ pos six
