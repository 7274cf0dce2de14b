-- The candidates in a table of their own, with the words of their corners and sides.
use Rattle.std.specs.Prelude.{List, ◌≡◌, ℕ, suc, ◌+◌, ◌*◌, ◌≤◌, ◌<◌, min, ℤ, length, take, drop}
use Rattle.paper.specs.Numbers.{most_candidates, row_bytes, face_room}
use Rattle.paper.specs.Drawing.{Wire}
use Rattle.paper.specs.Loops.{candidates}
use Rattle.fast_tables.specs.Hits.{corner_mask, side_mask}
use Rattle.loop_table.specs.Tables.{rows_after, words_after}
use Rattle.loop_cover.specs.Known.{Known}

-- ---- one row

-- the bytes of row k of a table
abbrev pub row_in : List ℕ → ℕ → List ℕ
row_in table k = take row_bytes (drop (row_bytes * k) table)

-- row k is in the table, and there is room for row c
pub record CopiesRow (table : List ℕ) (k : ℕ) (rows : List ℕ) (c : ℕ) : Type 0 where
  pub there : row_bytes * k + row_bytes ≤ length table
  pub few : c < most_candidates
  pub room : length rows ≡ face_room

-- ---- all of them

-- what is known of the loops, and room for 64 of them
pub record Keeps (xyz : List ℤ) (ends table : List ℕ) (n : ℕ) (corners sides planes : List ℕ)
    (rows kept-corners kept-sides : List ℕ) : Type 0 where
  pub known : Known xyz ends table n corners sides planes
  pub row_room : length rows ≡ face_room
  pub corner_room : length kept-corners ≡ most_candidates
  pub side_room : length kept-sides ≡ most_candidates

-- the candidates of d, as far as there is room, and their number, which stops one above
pub record Kept (d : Wire) (r : ℕ) (rows₀ rows corners₀ corners sides₀ sides : List ℕ) : Type 0 where
  pub count : r ≡ min (suc most_candidates) (length (candidates d))
  pub rows_are : rows ≡ rows_after (take most_candidates (candidates d)) rows₀
  pub corners_are : corners ≡ words_after (corner_mask d) (take most_candidates (candidates d)) corners₀
  pub sides_are : sides ≡ words_after (side_mask d) (take most_candidates (candidates d)) sides₀
