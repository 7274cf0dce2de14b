-- What a conversion says and leaves in the two rooms.
use Rattle.std.specs.Prelude.{List, ◌≡◌, ℕ, ◌≤◌, ℤ, length}
use Rattle.paper.specs.Numbers.{face_room, solid_room}
use Rattle.paper.specs.Refusals.{first_of, Answer}
use Rattle.paper.specs.Drawing.{Wire, wire}
use Rattle.paper.specs.Loops.{loops, candidates}
use Rattle.paper.specs.Conversion.{Converted, entry_checks, or_convert, concluded}
use Rattle.paper.specs.declared.Conversion.{Conversion}
use Rattle.paper.specs.declared.Drawing.{Drawing}
use Rattle.paper_laws.specs.InRange.{Held, PassedLists}
use Rattle.walk_input.specs.Tables.{checks_of}
use Rattle.walk_input.specs.Given.{coordinates_of, links_of}
use Rattle.convert.specs.Walked.{tables_in, log_of}

-- an answer, and the rooms at exit
abbrev pub at_exit : Conversion → List ℕ → List ℕ → Converted
at_exit r faces solids = record { answer = r; faces = faces; solids = solids }

-- 1 and 2, of any rooms of these sizes
abbrev pub Entered : ℕ → ℕ → ℕ → Answer → Type 0
Entered limit f s r =
    (faces solids : List ℕ) → length faces ≡ f → length solids ≡ s → r ≡ first_of (entry_checks limit faces solids)

-- ---- what is left of a conversion behind 1 to 10

abbrev pub behind : Wire → ℕ → List ℕ → List ℕ → Converted
behind d limit faces solids =
    or_convert (first_of (checks_of d)) faces solids
    (concluded (length (loops d)) (candidates d) (tables_in d) (log_of d limit) faces solids)

pub record Converting (xyz : List ℤ) (ends faces solids : List ℕ) : Type 0 where
  pub passed : PassedLists xyz ends
  pub faces_fit : face_room ≤ length faces
  pub solids_fit : solid_room ≤ length solids

abbrev pub ConvertsLists : List ℤ → List ℕ → ℕ → List ℕ → List ℕ → List ℕ → List ℕ → Conversion → Type 0
ConvertsLists xyz ends limit faces₀ faces solids₀ solids r = at_exit r faces solids ≡ behind (wire xyz ends) limit faces₀ solids₀

-- ---- the same of a drawing by value

pub record DrawingAt (d : Drawing) (faces solids : List ℕ) : Type 0 where
  pub held : Held d
  pub lists : Converting (coordinates_of d) (links_of d) faces solids
