-- A face in a row of a table: where its normal form starts and which way it goes, and what is asked of the rows.
use Rattle.std.specs.Prelude.{◌≡◌, List, map, ℕ, ◌+◌, ◌*◌, ◌≤◌, ◌<◌, length}
use Rattle.lists.specs.Lists.{upto}
use Rattle.paper.specs.Numbers.{least_corners, most_corners, row_bytes}
use Rattle.paper.specs.Loops.{Loop}
use Rattle.paper.specs.FaceList.{row_at}
use Rattle.paper.specs.Verdict.{lowest_at, onward}
use Rattle.polygon.specs.Rings.{corner_count}
use Rattle.verdict_faces.specs.declared.form.Way.{Way}

-- the loops of the first n rows
abbrev pub rows_in : List ℕ → ℕ → List Loop
rows_in table n = map (row_at table) (upto n)

-- row r has 3 to 12 corners
pub record FaceIn (table : List ℕ) (r : ℕ) : Type 0 where
  pub room : row_bytes * r + row_bytes ≤ length table
  pub least : least_corners ≤ corner_count table r
  pub most : corner_count table r ≤ most_corners

-- such a row, a place m of it to start from, and a corner i
pub record TurnedCorner (table : List ℕ) (r m i : ℕ) : Type 0 where
  pub face : FaceIn table r
  pub start : m < corner_count table r
  pub below : i < corner_count table r

-- w is the way of the face f
pub record WayOf (f : List ℕ) (w : Way) : Type 0 where
  pub lowest_is : w.lowest ≡ lowest_at f (length f)
  pub onward_is : w.onward ≡ onward f

-- row r with its way, and a corner i
pub record CornerOf (table : List ℕ) (r : ℕ) (w : Way) (i : ℕ) : Type 0 where
  pub face : FaceIn table r
  pub way : WayOf (row_at table r) w
  pub below : i < corner_count table r

-- row r with its way, and a row k of others to hold it against
pub record Compared (faces : List ℕ) (r : ℕ) (w : Way) (rows : List ℕ) (k : ℕ) : Type 0 where
  pub face : FaceIn faces r
  pub way : WayOf (row_at faces r) w
  pub there : row_bytes * k + row_bytes ≤ length rows

-- row r with its way, and n other rows
pub record Sought (faces : List ℕ) (r : ℕ) (w : Way) (rows : List ℕ) (n : ℕ) : Type 0 where
  pub face : FaceIn faces r
  pub way : WayOf (row_at faces r) w
  pub there : row_bytes * n ≤ length rows
