-- A state as the code holds it, one candidate decided, and one edge settled.
use Rattle.std.specs.Prelude.{Bool, true, false, List, ◌≡◌, ℕ, suc, ◌<◌, set, Some, None, Option}
use Rattle.sets.specs.Kinds.{Minus}
use Rattle.sets.specs.Sets.{wides, Wide}
use Rattle.paper.specs.Conversion.{takens}
use Rattle.paper.specs.Walk.{Status, settle, contradicts}
use Rattle.means_walk.specs.Lowest.{opens}
use Rattle.fast_sweeps.specs.Worklist.{decided_on}
use Rattle.walk_state.specs.declared.State.{State}
use Rattle.walk_state.specs.declared.Change.{Change}

-- s is the state st of the document: its taken and its undecided candidates
pub record StateIs (s : State) (st : List Status) : Type 0 where
  pub takes : wides.Is s.taken (takens st)
  pub leaves : wides.Is s.undecided (opens st)

-- candidate k gets the status v, and one fewer is undecided
pub record Decided (s : State) (k : ℕ) (v : Status) (r : State) : Type 0 where
  pub fewer : suc (wides.size r.undecided) ≡ wides.size s.undecided
  pub same : (st : List Status) → StateIs s st → StateIs r (set st k v)

-- all of a set are no more undecided, and `taken` are taken
pub record DecidedAll (s : State) (set taken : Wide) (c : Change) : Type 0 where
  pub left : Wide
  pub minus : Minus wides s.undecided set left
  pub is : c ≡ record { state = record { taken = taken; undecided = left }; decided = set }

-- ---- one edge

-- the edge has no contradiction, and c is what settling it makes of st
pub record ChangeIs (c : Change) (mask : List Bool) (st : List Status) : Type 0 where
  pub calm : contradicts mask st ≡ false
  pub holds : StateIs c.state (settle mask st)
  pub decides : wides.Is c.decided (decided_on mask st)

abbrev pub PassedIs : Option Change → List Bool → List Status → Type 0
PassedIs None mask st = contradicts mask st ≡ true
PassedIs (Some c) mask st = ChangeIs c mask st

-- those decided are no more undecided
pub record Fewer (c : Change) (undecided : Wide) : Type 0 where
  pub none : wides.size c.decided ≡ 0 → wides.size c.state.undecided ≡ wides.size undecided
  pub some : 0 < wides.size c.decided → wides.size c.state.undecided < wides.size undecided

abbrev pub PassedFewer : Option Change → Wide → Type 0
PassedFewer None u = Unit {0}
PassedFewer (Some c) u = Fewer c u

pub record SettledOn (s : State) (mask : Wide) (r : Option Change) : Type 0 where
  pub fewer : PassedFewer r s.undecided
  pub same : (a : List Bool) (st : List Status) → wides.Is mask a → StateIs s st → PassedIs r a st
