-- A branch of an assumption as the code holds it.
use Rattle.std.specs.Prelude.{Bool, List, ◌≡◌, ℕ, suc, ◌≤◌, ◌<◌, length, set}
use Rattle.sets.specs.Sets.{wides}
use Rattle.paper.specs.Walk.{Status, Taken, Rejected}
use Rattle.fast_sweeps.specs.Worklist.{edges_with, open_from, lowest_on}
use Rattle.walk_tables.specs.Words.{Masks, Sides}
use Rattle.walk_state.specs.State.{StateIs}
use Rattle.walk_state.specs.Choice.{From}
use Rattle.walk_state.specs.declared.State.{State}
use Rattle.walk.specs.declared.branch.Branch.{Branch}
use Rattle.walk.specs.declared.branch.Both.{Both}

-- a state with some undecided, and an edge to look for them from
pub record Branching (m : ℕ) (s : State) (from : ℕ) : Type 0 where
  pub from_in : From m from
  pub some : 0 < wides.size s.undecided

-- it starts at the state st, with these edges marked and from the edge e
pub record BranchIs (b : Branch) (st : List Status) (marked : List Bool) (e : ℕ) : Type 0 where
  pub holds : StateIs b.state st
  pub marked_is : wides.Is b.changed marked
  pub edge_is : b.edge ≡ e

-- the lowest undecided candidate on the lowest edge that has one gets the status v, and its edges are marked
pub record Assumes (on : List ℕ) (m : ℕ) (sides : List ℕ) (s : State) (from : ℕ) (v : Status) (b : Branch) : Type 0 where
  pub within : b.edge ≤ m
  pub fewer : suc (wides.size b.state.undecided) ≡ wides.size s.undecided
  pub same : (masks : List (List Bool)) (st : List Status) → Masks on masks → Sides sides masks → length masks ≡ m → StateIs s st
      → let g = open_from masks st from in
      let k = lowest_on masks st g in
      BranchIs b (set st k v) (edges_with masks k) g

pub record Branches (on : List ℕ) (m : ℕ) (sides : List ℕ) (s : State) (from : ℕ) (r : Both) : Type 0 where
  pub takes : Assumes on m sides s from Taken r.take
  pub rejects : Assumes on m sides s from Rejected r.reject
