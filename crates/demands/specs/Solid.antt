-- "A solid is a set of candidates such that" (i) to (v), in words; a list that has every solid once. A set of candidates is a yes or no
-- for each; so are the directions, with a yes for a face that is run against its normal form.
use Rattle.std.specs.Prelude.{◌≡◌, Bool, true, List, ℕ, ◌<◌, pos, length}
use Rattle.sets.specs.Word.{dig}
use Rattle.paper.specs.Drawing.{Wire, edge_at}
use Rattle.paper.specs.Loops.{Loop, loop_at, polygon}
use Rattle.means_solid.specs.Solid.{Face, InTwo, Way, EachWay, six_of_faces}
use Rattle.means_solid.specs.Named.{Names}
use Rattle.means_report.specs.Fair.{Same}
use Rattle.means_report.specs.Listed.{Entry, entry_at}
use Rattle.means_clash.specs.Clash.{ClashOf}

module _ (d : Wire) (cs : List Loop) where
  pub record Solid (taken turned : List Bool) (six : ℕ) : Type 0 where
    pub set : length taken ≡ length cs
    pub within : (k : ℕ) → dig turned k ≡ true → Face d cs taken turned k
    -- "every edge of the drawing is in exactly two"
    pub i : (e : ℕ) → e < length d.edges → InTwo d cs taken turned (edge_at d e)
    -- "one can go from any face to any other across shared edges"
    pub ii : (j k : ℕ) → Face d cs taken turned j → Face d cs taken turned k → Way d cs taken turned j k
    -- "faces can be given directions so that each edge is run once each way"
    pub iii : (e : ℕ) → e < length d.edges → EachWay d cs taken turned (edge_at d e)
    -- "six times the signed volume is above zero"
    pub iv : (six_of_faces d cs taken turned 0 cs ≡ pos six) × (0 < six)
    -- "no two faces clash"
    pub v : (j k : ℕ) → Face d cs taken turned j → Face d cs taken turned k → (j ≡ k → ⊥)
        → ClashOf (polygon d (loop_at cs j)) (polygon d (loop_at cs k)) → ⊥

  -- "every solid once": each entry is a solid, each solid is an entry, and no two entries are the same set of faces
  pub record Every (es : List Entry) : Type 0 where
    pub each : (i : ℕ) → i < length es → Solid (entry_at es i).taken (entry_at es i).turned (entry_at es i).six
    pub there : (taken turned : List Bool) (six : ℕ) → Solid taken turned six
        → (i : ℕ) × (i < length es) × ((entry_at es i).taken ≡ taken) × Same (entry_at es i).turned turned × ((entry_at es i).six ≡ six)
    pub once : (i j : ℕ) → i < length es → j < length es → (entry_at es i).taken ≡ (entry_at es j).taken → i ≡ j

  -- the faces name one solid "with its directions, in any order of faces and from any starting corners"
  pub record NamesOne (fs : List Loop) : Type 0 where
    pub taken : List Bool
    pub turned : List Bool
    pub six : ℕ
    pub solid : Solid taken turned six
    pub run : List Bool
    pub names : Names d cs taken run fs
    pub directions : Same run turned
