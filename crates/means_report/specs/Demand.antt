-- What each answer of conversion says of the drawing and leaves in the rooms.
use Rattle.std.specs.Prelude.{◌≡◌, Bool, ℕ, ◌*◌, ◌≤◌, ◌<◌, length, drop}
use mathlib.Core.List.{List, ◌++◌, flat_map}
use Rattle.paper.specs.Numbers.{solid_words}
use Rattle.paper.specs.Record.{entry}
use Rattle.paper.specs.Drawing.{Wire}
use Rattle.paper.specs.Loops.{loops, candidates}
use Rattle.paper.specs.Conversion.{Converted, faces_after}
use Rattle.means_walk.specs.Tree.{assumptions}
use Rattle.means_solid.specs.Solid.{IsSolid}
use Rattle.means_report.specs.Listed.{words_of, EverySolidOnce, WalkTree, walked}
use Rattle.means_report.specs.Report.{work_to_ninth}

module _ (d : Wire) (t : WalkTree d (candidates d)) (limit : ℕ) (faces solids : List ℕ) (r : Converted) (l c work : ℕ) where
  -- "also returns the loop and candidate counts"
  abbrev pub CountsTold : Type 0
  CountsTold = (l ≡ length (loops d)) × (c ≡ length (candidates d))

  -- "Every line below leaves all buffers unchanged"
  abbrev pub RoomsKept : Type 0
  RoomsKept = (r.faces ≡ faces) × (r.solids ≡ solids)

  -- NoSolid: there is none
  pub record SaysNone : Type 0 where
    pub none : (taken turned : List Bool) (six : ℕ) → IsSolid d (candidates d) taken turned six → ⊥
    pub counts : CountsTold
    pub works : work ≡ assumptions t
    pub within : work ≤ limit
    pub kept : RoomsKept

  -- One: there is one, and its record is written
  pub record SaysOne (six : ℕ) : Type 0 where
    pub taken : List Bool
    pub turned : List Bool
    pub is : IsSolid d (candidates d) taken turned six
    pub only : {taken' turned' : List Bool} {six' : ℕ} → IsSolid d (candidates d) taken' turned' six' → taken' ≡ taken
    pub counts : CountsTold
    pub works : work ≡ assumptions t
    pub within : work ≤ limit
    pub faces_left : r.faces ≡ faces_after (candidates d) faces
    pub solids_left : r.solids ≡ entry taken turned six ++ drop solid_words solids

  -- Several: two to eight, every one listed once, in walk order
  pub record SaysSeveral (n : ℕ) : Type 0 where
    pub listed : EverySolidOnce d (candidates d) (walked d (candidates d) t)
    pub how_many : length (walked d (candidates d) t) ≡ n
    pub two : 2 ≤ n
    pub eight : n ≤ 8
    pub counts : CountsTold
    pub works : work ≡ assumptions t
    pub within : work ≤ limit
    pub faces_left : r.faces ≡ faces_after (candidates d) faces
    pub solids_left : r.solids ≡ flat_map words_of (walked d (candidates d) t) ++ drop (solid_words * n) solids

  -- Many: nine or more
  pub record SaysMany : Type 0 where
    pub listed : EverySolidOnce d (candidates d) (walked d (candidates d) t)
    pub nine : 9 ≤ length (walked d (candidates d) t)
    pub counts : CountsTold
    pub works : work ≡ work_to_ninth d t
    pub within : work ≤ limit
    pub kept : RoomsKept

  -- TooLong: the walk, up to a ninth solid, has more assumptions than the limit
  pub record SaysLong : Type 0 where
    pub long : limit < work_to_ninth d t
    pub counts : CountsTold
    pub works : work ≡ limit
    pub kept : RoomsKept
