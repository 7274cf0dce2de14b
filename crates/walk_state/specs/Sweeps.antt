-- Sweeps over marked edges: the marks, and what is left in the end.
use Rattle.std.specs.Prelude.{Bool, List, [], ◌≡◌, ℕ, ◌+◌, ◌*◌, ◌≤◌, ◌<◌, Some, None, Option}
use Rattle.sets.specs.Sets.{wides, Wide}
use Rattle.paper.specs.Numbers.{most_edges}
use Rattle.paper.specs.Walk.{Status, Outcome, Broken, Stands}
use Rattle.fast_sweeps.specs.Worklist.{touched, next_ahead, next_later, turn_ahead, turn_later, SweepKept}
use Rattle.walk_tables.specs.Words.{Masks, Sides}
use Rattle.walk_state.specs.State.{StateIs}
use Rattle.walk_state.specs.declared.State.{State}
use Rattle.walk_state.specs.declared.Marks.{Marks}

-- ---- the marks

-- r are the edges of the candidates of a set
abbrev pub Gathered : List ℕ → Wide → Wide → Type 0
Gathered sides set r = (masks : List (List Bool)) (d : List Bool) → Sides sides masks → wides.Is set d → wides.Is r (touched masks d)

-- how many edges are marked
abbrev pub mark_count : Marks → ℕ
mark_count m = wides.size m.ahead + wides.size m.later

pub record MarksAre (m : Marks) (ahead later : List Bool) : Type 0 where
  pub ahead_is : wides.Is m.ahead ahead
  pub later_is : wides.Is m.later later

pub record MarksTurned (ahead later : Wide) (r : Marks) : Type 0 where
  pub sum : mark_count r ≡ wides.size ahead + wides.size later
  pub same : (a l : List Bool) → wides.Is ahead a → wides.Is later l → MarksAre r (turn_ahead a l) (turn_later a l)

-- the lowest edge ahead is passed, and a set was decided on it
pub record EdgePassed (sides : List ℕ) (m : Marks) (decided : Wide) (r : Marks) : Type 0 where
  pub few : mark_count r ≤ 2 * most_edges
  pub fewer : wides.size decided ≡ 0 → mark_count r < mark_count m
  pub same : (masks : List (List Bool)) (d a l : List Bool) → Sides sides masks → wides.Is decided d → MarksAre m a l
      → MarksAre r (turn_ahead (next_ahead masks d a) (next_later masks d a l)) (turn_later (next_ahead masks d a) (next_later masks d a l))

-- ---- what is left in the end

abbrev pub SweptIs : Outcome → Option State → Type 0
SweptIs Broken None = Unit {0}
SweptIs Broken (Some s) = ⊥
SweptIs (Stands st) None = ⊥
SweptIs (Stands st) (Some s) = StateIs s st

-- at most n are undecided
abbrev pub AtMost : ℕ → Option State → Type 0
AtMost n None = Unit {0}
AtMost n (Some s) = wides.size s.undecided ≤ n

-- the sweeps end as all whole sweeps would, and no more are undecided than before
pub record SweptOut (on sides : List ℕ) (s : State) (changed : Wide) (r : Option State) : Type 0 where
  pub fewer : AtMost (wides.size s.undecided) r
  pub same : (masks : List (List Bool)) (o : Outcome) (st : List Status) (marked : List Bool) → Masks on masks → Sides sides masks
      → StateIs s st → wides.Is changed marked → SweepKept masks o st marked [] → SweptIs o r
