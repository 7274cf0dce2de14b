-- What the face-list check is to accept: demand 3.
use Rattle.std.specs.Prelude.{◌≡◌, Bool, true, List, ℕ, length}
use Rattle.paper.specs.Verdict.{list_edition}
use Rattle.paper.specs.Numbers.{documented}
use Rattle.paper.specs.Refusals.{Check, first_of, Fine}
use Rattle.paper.specs.Drawing.{Wire, drawing_checks}
use Rattle.paper.specs.Loops.{Loop, loops, candidates, loop_checks}
use Rattle.paper.specs.FaceList.{faces_in, well_shaped}
use Rattle.means_solid.specs.Solid.{IsSolid}
use Rattle.means_solid.specs.Named.{Names}

-- the faces name one solid with its directions
pub record NamesSolid (d : Wire) (cs : List Loop) (fs : List (List ℕ)) : Type 0 where
  pub taken : List Bool
  pub turned : List Bool
  pub six : ℕ
  pub solid : IsSolid d cs taken turned six
  pub names : Names d cs taken turned fs

-- the drawing passes its rules, 3 to 16, and the list its own, 20, and its faces name a solid
pub record Accepts (form : List Check) (d : Wire) (list : List ℕ) : Type 0 where
  pub form_passes : Fine ≡ first_of form
  pub drawing_passes : Fine ≡ first_of (drawing_checks d)
  pub few : Fine ≡ first_of (loop_checks documented (loops d) (candidates d))
  pub shape : well_shaped (list_edition d) (length d.vertices) list ≡ true
  pub named : NamesSolid d (candidates d) (faces_in (list_edition d) list)
