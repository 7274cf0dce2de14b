-- What a walk and a conversion cost.
use Rattle.std.specs.Prelude.{List, ◌≡◌, ℕ, ℤ}
use Rattle.paper.specs.Conversion.{convert_lists}
use Rattle.paper.specs.declared.Conversion.{Conversion}
use Rattle.paper.specs.declared.Conversion.TheVariants as Conversion
use Rattle.walk_tables.specs.Words.{WalkTables}
use Rattle.walk.specs.Walk.{Searched}
use Rattle.walk.specs.declared.tally.Tally.{Tally}
use Rattle.paper.specs.Refusals.{value_of}
use Rattle.convert.specs.Converts.{at_exit}

-- the work of the whole walk, whose words are in the room
pub record WorkOf (tables : WalkTables) (m n limit : ℕ) (out₀ : List ℕ) (r : ℕ) (out : List ℕ) : Type 0 where
  pub tally : Tally
  pub work_is : r ≡ tally.work
  pub searched : Searched tables m n limit out₀ tally out

-- the work, or the number of what refuses the drawing before the walk
abbrev pub cost_of : Conversion → ℕ
cost_of (Conversion.One l c work six) = work
cost_of (Conversion.Several l c work k) = work
cost_of (Conversion.NoSolid l c work) = work
cost_of (Conversion.Many l c work) = work
cost_of (Conversion.TooLong l c work) = work
cost_of (Conversion.Refused f) = value_of f.number

-- it is that of the document's conversion, whose rooms these are
pub record CostOf (xyz : List ℤ) (ends : List ℕ) (limit : ℕ) (faces₀ solids₀ : List ℕ) (r : ℕ) (faces solids : List ℕ) : Type 0 where
  pub answer : Conversion
  pub converts : at_exit answer faces solids ≡ convert_lists xyz ends limit faces₀ solids₀
  pub cost_is : r ≡ cost_of answer
