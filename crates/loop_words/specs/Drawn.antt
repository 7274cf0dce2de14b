-- The words of rows that are loops of a drawing. A drawing is not lent: contracts speak of every one of which the rows are loops.
use Rattle.std.specs.Prelude.{◌≡◌, List, ℕ, ◌+◌, ◌*◌, ◌≤◌, ◌<◌, length, get_or}
use Rattle.sets.specs.Sets.{one_word, wides}
use Rattle.paper.specs.Numbers.{most_vertices, most_edges, most_corners, most_loops, row_bytes}
use Rattle.paper.specs.Drawing.{Wire}
use Rattle.paper.specs.Loops.{Loop}
use Rattle.polygon.specs.Rings.{corner_count, vertex_in}
use Rattle.fast_tables.specs.Paths.{Path}
use Rattle.fast_tables.specs.Hits.{corner_mask, side_mask}
use Rattle.loop_table.specs.Tables.{HoldsRows, words_after}
use Rattle.loop_table.specs.Loops.{LoopsOf}
use Rattle.loop_words.specs.Numbered.{EdgesNumbered}
use Rattle.loop_words.specs.declared.Words.{Words}

-- a drawing of at most 32 vertices and 64 edges, which have these numbers
pub record Small (d : Wire) (number : List ℕ) : Type 0 where
  pub vertices : length d.vertices ≤ most_vertices
  pub edges : length d.edges ≤ most_edges
  pub numbered : EdgesNumbered number d.edges

-- ---- one row

-- row k is a loop of a drawing
pub record RowDrawn (table : List ℕ) (k : ℕ) (number : List ℕ) : Type 0 where
  pub drawing : Wire
  pub small : Small drawing number
  pub loop : Loop
  pub path : Path drawing loop
  pub short : length loop ≤ most_corners
  pub room : row_bytes * k + row_bytes ≤ length table
  pub count : corner_count table k ≡ length loop
  pub vertex : (i : ℕ) → i < length loop → vertex_in table k i ≡ get_or loop i 0

-- its words
pub record RowWords (d : Wire) (l : Loop) (r : Words) : Type 0 where
  pub corners : one_word.Is r.corners (corner_mask d l)
  pub sides : wides.Is r.sides (side_mask d l)

-- ---- n rows

-- they are loops of a drawing
pub record DrawnTable (table : List ℕ) (n : ℕ) (number : List ℕ) : Type 0 where
  pub drawing : Wire
  pub small : Small drawing number
  pub loops : List Loop
  pub of : LoopsOf drawing loops
  pub held : HoldsRows table loops
  pub count : n ≡ length loops
  pub most : n ≤ most_loops

-- and there is room for a word of each
pub record WithRoom (table : List ℕ) (n : ℕ) (number corners sides : List ℕ) : Type 0 where
  pub drawn : DrawnTable table n number
  pub corner_room : n ≤ length corners
  pub side_room : n ≤ length sides

-- their words are written to the start of two lists
pub record LoopWords {table : List ℕ} {n : ℕ} {number : List ℕ} (w : DrawnTable table n number)
    (corners₀ corners sides₀ sides : List ℕ) : Type 0 where
  pub corners_are : corners ≡ words_after (corner_mask w.drawing) w.loops corners₀
  pub sides_are : sides ≡ words_after (side_mask w.drawing) w.loops sides₀
