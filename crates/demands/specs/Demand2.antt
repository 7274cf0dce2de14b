-- The customer's demand 2, of a drawing lent as two lists and of one on a sheet; sheets are in Sheets.
use Rattle.std.specs.Prelude.{◌≡◌, Bool, ◌↔◌, List, ℕ, ◌≤◌, ◌<◌, length}
use Rattle.paper.specs.Loops.{loops}
use Rattle.paper.specs.Conversion.{Converted}
use Rattle.paper.specs.declared.Conversion.TheVariants.{NoSolid, Many, TooLong}
use Rattle.means_walk.specs.Tree.{steps}
use Rattle.means_report.specs.Listed.{WalkTree}
use Rattle.means_report.specs.Report.{answered, faces_for, solids_for, solid_count}
use Rattle.demands.specs.Input.{Input, drawing, candidates_of, Passes, converted}
use Rattle.demands.specs.Solid.{Solid, Every}
use Rattle.demands.specs.Walk.{solids_of, work_of, work_to_nine, WalkWords, Uncut, Allowed, Counts}

module _ (x : Input) (t : WalkTree (drawing x) (candidates_of x)) (limit : ℕ) (room solids : List ℕ) (r : Converted) where
  pub record Demand2 : Type 0 where
    -- "every solid once"
    pub every : Every (drawing x) (candidates_of x) (solids_of x t)
    -- "the report lists" them: the answer, with the counts of loops and candidates; a row for each candidate; three words for each solid.
    -- "The work reported is the number of assumptions in that walk."
    pub answer : Uncut x t limit → r.answer ≡ answered (length (loops (drawing x))) (length (candidates_of x)) (work_of x t) (solids_of x t)
    pub rows : Uncut x t limit → r.faces ≡ faces_for (candidates_of x) room (solids_of x t)
    pub words : Uncut x t limit → r.solids ≡ solids_for solids (solids_of x t)
    -- "and says 'no solid' exactly when there is none"
    pub none : work_of x t ≤ limit → ((l c work : ℕ) × (r.answer ≡ NoSolid l c work))
        ↔ ((taken turned : List Bool) (six : ℕ) → Solid (drawing x) (candidates_of x) taken turned six → ⊥)
    -- "meets a ninth solid": Many exactly where there are nine or more and the ninth is met within the limit
    pub many : (l c work : ℕ)
        → (r.answer ≡ Many l c work)
        ↔ ((8 < length (solids_of x t)) × (work_to_nine x t ≤ limit) × Counts x l c × (work ≡ work_to_nine x t))
    -- "passes the work limit": TooLong exactly where the walk up to a ninth solid has more assumptions; without a ninth that is all of it
    pub long : (l c work : ℕ) → (r.answer ≡ TooLong l c work) ↔ ((limit < work_to_nine x t) × Counts x l c × (work ≡ limit))
    pub whole : length (solids_of x t) ≤ 8 → work_to_nine x t ≡ work_of x t

-- demand 2, of every drawing
pub record Holds2 (x : Input) : Type 0 where
  -- "that walk": there is one, and no other
  pub walk : WalkTree (drawing x) (candidates_of x)
  pub no_other : (t u : WalkTree (drawing x) (candidates_of x)) → steps t ≡ steps u
  -- "For a drawing that passes the drawing rules": what its walk is in words, and the demand
  pub in_words : Passes x → (t : WalkTree (drawing x) (candidates_of x)) → WalkWords x t
  -- a report comes of nothing else: of such a drawing, with room and a limit that are allowed
  pub reports : (limit : ℕ) (room solids : List ℕ) → 0 < solid_count (converted x limit room solids).answer
      → Passes x × Allowed limit room solids
  pub holds : Passes x → (t : WalkTree (drawing x) (candidates_of x)) (limit : ℕ) (room solids : List ℕ) → Allowed limit room solids
      → Demand2 x t limit room solids (converted x limit room solids)
