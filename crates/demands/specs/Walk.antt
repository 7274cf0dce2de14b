-- "The walk" in words: an edge of a sweep, the choice, the selections that pass, the work.
-- The walk is a tree of assumptions, `Tree` in means_walk/specs/Tree.antt, with no limit and no cap.
use Rattle.std.specs.Prelude.{◌≡◌, Bool, true, false, ◌↔◌, ◌⊎◌, List, [], ◌∷◌, ℕ, ◌+◌, ◌≤◌, ◌<◌, length, get_or}
use Rattle.sets.specs.Word.{dig}
use Rattle.paper.specs.Loops.{loops}
use Rattle.paper.specs.Solids.{tables_of}
use Rattle.paper.specs.Walk.{Status, Taken, Rejected, taken_on, open_on, decide_one, decide, contradicts, settle, Broken, sweep}
use Rattle.paper.specs.Conversion.{takens, accepted}
use Rattle.means_walk.specs.Tree.{leaves, assumptions}
use Rattle.means_walk.specs.Lowest.{Chooses}
use Rattle.means_report.specs.Listed.{Entry, WalkTree, walked}
use Rattle.means_report.specs.Report.{work_to_ninth}
use Rattle.demands.specs.Input.{Input, drawing, candidates_of}
use Rattle.demands.specs.Solid.{Solid}

-- one edge of a sweep, as the mask of the candidates on it: "let M be taken and L undecided"
pub record OneEdge (mask : List Bool) (st : List Status) : Type 0 where
  -- "M above 2 or M + L below 2 is a contradiction"
  pub contradiction : (contradicts mask st ≡ true) ↔ ((2 < taken_on mask st) ⊎ (taken_on mask st + open_on mask st < 2))
  -- "If M = 2, the undecided are rejected; if M + L = 2, they are taken": those on the edge, and nothing else changes
  pub reject : taken_on mask st ≡ 2 → settle mask st ≡ decide Rejected mask st
  pub take : (taken_on mask st ≡ 2 → ⊥) → taken_on mask st + open_on mask st ≡ 2 → settle mask st ≡ decide Taken mask st
  pub keep : (taken_on mask st ≡ 2 → ⊥) → (taken_on mask st + open_on mask st ≡ 2 → ⊥) → settle mask st ≡ st
  pub decided : (v s : Status) (k : ℕ) → k < length st → get_or (decide v mask st) k s ≡ decide_one v (dig mask k) (get_or st k s)
  -- "Sweep edges in order": a contradiction ends the sweep, and otherwise the next edge sees what this one left
  pub ends : (masks : List (List Bool)) → contradicts mask st ≡ true → sweep (mask ∷ masks) st ≡ Broken
  pub goes_on : (masks : List (List Bool)) → contradicts mask st ≡ false → sweep (mask ∷ masks) st ≡ sweep masks (settle mask st)

module _ (x : Input) (t : WalkTree (drawing x) (candidates_of x)) where
  -- "in walk order, with each face's direction and six times its volume": the solids that the walk comes to
  abbrev pub solids_of : List Entry
  solids_of = walked (drawing x) (candidates_of x) t

  -- "the count of assumptions made by the walk, both branches counted": of the whole walk, and of it up to a ninth solid
  abbrev pub work_of : ℕ
  work_of = assumptions t

  abbrev pub work_to_nine : ℕ
  work_to_nine = work_to_ninth (drawing x) t

  pub record WalkWords : Type 0 where
    pub edges : (mask : List Bool) (st : List Status) → OneEdge mask st
    -- "find the lowest edge with an undecided candidate and, on it, the lowest such candidate": so at every assumption
    pub chooses : Chooses t
    -- "With nothing undecided, test (ii) to (v)": a selection that the walk comes to passes just where it is a solid
    pub passes : (i : ℕ) → i < length (leaves t)
        → (accepted (tables_of (drawing x) (candidates_of x)) (get_or (leaves t) i []) ≡ true)
        ↔ ((turned : List Bool) × (six : ℕ) × Solid (drawing x) (candidates_of x) (takens (get_or (leaves t) i [])) turned six)

  -- "unless the walk passes the work limit or meets a ninth solid"
  abbrev pub Uncut : ℕ → Type 0
  Uncut limit = (work_of ≤ limit) × (length solids_of ≤ 8)

-- "with room and a work limit that document 01 allows"
abbrev pub Allowed : ℕ → List ℕ → List ℕ → Type 0
Allowed limit room solids = (832 ≤ length room) × (24 ≤ length solids) × (limit ≤ 1000000)

-- "also returns the loop and candidate counts"
abbrev pub Counts : Input → ℕ → ℕ → Type 0
Counts x l c = (l ≡ length (loops (drawing x))) × (c ≡ length (candidates_of x))
