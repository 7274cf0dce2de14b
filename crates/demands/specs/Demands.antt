-- The customer's three demands, one after the other, with what is said beside them.
use Rattle.std.specs.Prelude.{List}
use Rattle.paper.specs.Loops.{Loop}
use Rattle.demands.specs.Input.{Input, drawing, candidates_of, Passes}
use Rattle.demands.specs.Faces.{Candidates}
use Rattle.demands.specs.Geometry.{Geometry}
use Rattle.demands.specs.Origin.{AnyOrigin}
use Rattle.demands.specs.Shells.{ListedOnce}
use Rattle.demands.specs.Demand1.{Demand1}
use Rattle.demands.specs.Answers.{NumbersNotZero, Told, VolumeOfOne}
use Rattle.demands.specs.Demand2.{Holds2}
use Rattle.demands.specs.Sheets.{Sheets2}
use Rattle.demands.specs.Demand3.{Holds3}
use Rattle.demands.specs.Moved.{Shifts, Mirrors, Turns, Scales}
use Rattle.demands.specs.Renumbered.{Renumbers}
use Rattle.demands.specs.Limits.{HigherLimit}
use Rattle.demands.specs.Shown.{ShownAlike}

pub record Demands : Type 0 where
  -- 1, "Everything gets an answer": and no refusal can be taken for a volume
  pub answer : Demand1
  pub numbered : NumbersNotZero
  pub told : Told
  pub volume : VolumeOfOne
  -- 2, "The report is complete": of drawings, and of sheets
  pub report : (x : Input) → Holds2 x
  pub sheets : Sheets2
  -- 3, "The check is exact"
  pub check : Holds3
  -- what they speak of: candidates, the sets that a face list names, and the geometry
  pub candidates : (x : Input) → Candidates x
  pub listed : (x : Input) → Passes x → (fs : List Loop) → ListedOnce (drawing x) (candidates_of x) fs
  pub geometry : Geometry
  pub any_origin : AnyOrigin
  -- T-13, "The body doesn't depend on where it was drawn": shifted, mirrored, with the vertices renumbered; and with a higher limit
  pub shifts : Shifts
  pub mirrors : Mirrors
  pub renumbers : Renumbers
  pub higher : HigherLimit
  -- so readings and the desk's text follow; and beyond the request, laid along other axes, and enlarged
  pub shown : ShownAlike
  pub turns : Turns
  pub scales : Scales
