-- "With vertices renumbered and edges sorted again, the solids are the same sets of faces under the new numbers".
use Rattle.std.specs.Prelude.{◌≡◌, List, map, ℕ, ◌<◌, length}
use Rattle.std.proofs.Math.Option.{none}
use Rattle.paper.specs.Refusals.{first_of, Fine}
use Rattle.paper.specs.Drawing.{same_place}
use Rattle.paper.specs.Loops.{Loop, loops}
use Rattle.paper.specs.Conversion.{Converted}
use Rattle.paper.specs.declared.Conversion.TheVariants as Conversion
use Rattle.paper.specs.declared.Refusal.{Refusal}
use Rattle.means_report.specs.Listed.{Entry, entry_at}
use Rattle.means_report.specs.Report.{solids_for, solid_count}
use Rattle.means_check.specs.Bodies.{SameBody}
use Rattle.means_check.specs.Sent.{face_list}
use Rattle.means_moves.specs.Renumbered.{Renumbered}
use Rattle.means_moves.specs.Reports.{NotCut}
use Rattle.demands.specs.Input.{Input, drawing, form, candidates_of, Passes, converted}
use Rattle.demands.specs.Solid.{Solid, Every}
use Rattle.demands.specs.Walk.{Allowed}

-- a solid's faces in their directions, as lists of vertices
abbrev pub entry_faces : Input → Entry → List Loop
entry_faces x s = face_list (drawing x) (candidates_of x) s.taken s.turned

-- "the same sets of faces under the new numbers": as directed rings, with the same six volumes
pub record SameSolid (new : ℕ → ℕ) (x y : Input) (s t : Entry) : Type 0 where
  pub body : SameBody (map (map new) (entry_faces x s)) (entry_faces y t)
  pub six : t.six ≡ s.six

-- a report, or 17, lists all solids, each once
pub record ListsAll (x : Input) (solids : List ℕ) (r : Converted) : Type 0 where
  pub es : List Entry
  pub count : length es ≡ solid_count r.answer
  pub words : r.solids ≡ solids_for solids es
  pub every : Every (drawing x) (candidates_of x) es

-- two that list the same ones, in some order
pub record OneToOne (new : ℕ → ℕ) (x y : Input) (es ts : List Entry) : Type 0 where
  pub as_many : length ts ≡ length es
  pub to : ℕ → ℕ
  pub low : (i : ℕ) → i < length es → to i < length ts
  pub apart : (i j : ℕ) → i < length es → j < length es → to i ≡ to j → i ≡ j
  pub same : (i : ℕ) → i < length es → SameSolid new x y (entry_at es i) (entry_at ts (to i))

module _ (new : ℕ → ℕ) (x y : Input) where
  -- both pass 3 to 10, so both have their edges in order
  pub record Given : Type 0 where
    pub numbers : Renumbered new (drawing x) (drawing y)
    pub good : Fine ≡ first_of (form x)
    pub good_too : Fine ≡ first_of (form y)

  pub record SolidsKept : Type 0 where
    -- the same rule refuses both, at a place of its own
    pub number : (limit : ℕ) (faces solids : List ℕ) (r : Refusal) → (converted x limit faces solids).answer ≡ Conversion.Refused r
        → (q : Refusal) × ((converted y limit faces solids).answer ≡ Conversion.Refused q) × (q.number ≡ r.number)
    pub passes : Passes x → Passes y
    -- of a drawing that passes 11: as many loops and candidates
    pub loops_too : same_place (drawing x) ≡ none → length (loops (drawing y)) ≡ length (loops (drawing x))
    pub candidates_too : same_place (drawing x) ≡ none → length (candidates_of y) ≡ length (candidates_of x)
    -- every solid of the one is one of the other
    pub solids : Passes x → (s : Entry) → Solid (drawing x) (candidates_of x) s.taken s.turned s.six
        → (t : Entry) × Solid (drawing y) (candidates_of y) t.taken t.turned t.six × SameSolid new x y s t
    -- of two conversions, with any limits and rooms that are allowed, "provided neither conversion ends in Many or TooLong"
    pub reports : Passes x → (a b : ℕ) (f g u v : List ℕ) → Allowed a f u → Allowed b g v
        → NotCut (converted x a f u).answer → NotCut (converted y b g v).answer
        → (p : ListsAll x u (converted x a f u)) × (q : ListsAll y v (converted y b g v)) × OneToOne new x y p.es q.es

abbrev pub Renumbers : Type 0
Renumbers = (new : ℕ → ℕ) (x y : Input) → Given new x y → SolidsKept new x y
