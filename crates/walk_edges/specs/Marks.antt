-- Candidates of a drawing in rows, and the words of its edges in which they are marked. A drawing is not lent: contracts speak of every
-- one of which the rows are candidates.
use Rattle.std.specs.Prelude.{Bool, ◌&&◌, ◌||◌, ◌≡◌, List, map, ℕ, ◌≤◌, ◌<◌, eqb, length, get_or}
use Rattle.sets.specs.Word.{dig, digit}
use Rattle.paper.specs.Numbers.{most_edges, most_candidates}
use Rattle.paper.specs.Drawing.{Wire, edge}
use Rattle.paper.specs.Loops.{Loop}
use Rattle.paper.specs.Solids.{runs_up, tables_of}
use Rattle.fast_tables.specs.Hits.{side_mask}
use Rattle.loop_table.specs.Tables.{HoldsRows}
use Rattle.loop_table.specs.Loops.{LoopsOf}
use Rattle.loop_words.specs.Drawn.{Small, RowDrawn}
use Rattle.walk_tables.specs.Words.{Masks}

-- each edge goes from its lower to its higher vertex, as rule 9 asks
abbrev pub Upward : Wire → Type 0
Upward d = (e a b : ℕ) → e < length d.edges → get_or d.edges e (edge 0 0) ≡ edge a b → a < b

-- the edges that a loop runs upwards
unfoldable pub up_mask : Wire → Loop → List Bool
up_mask d l = map (λ e. runs_up e l) d.edges

-- ---- one row

-- it is a loop of a drawing
pub record RowOf (rows : List ℕ) (k : ℕ) (number : List ℕ) : Type 0 where
  pub drawn : RowDrawn rows k number
  pub upward : Upward drawn.drawing
  pub few : k < most_candidates

-- there is a word for each edge
pub record RowRoom (rows : List ℕ) (k : ℕ) (number on up : List ℕ) : Type 0 where
  pub row : RowOf rows k number
  pub on_room : length on ≡ most_edges
  pub up_room : length up ≡ most_edges

-- candidate k is now in the words of the edges of a mask
abbrev pub Marked : List Bool → ℕ → List ℕ → List ℕ → Type 0
Marked mask k words₀ words = (e u : ℕ) → digit (get_or words e 0) u ≡ (digit (get_or words₀ e 0) u || (dig mask e && eqb u k))

pub record Marks {rows : List ℕ} {k : ℕ} {number : List ℕ} (w : RowOf rows k number) (on₀ on up₀ up : List ℕ) : Type 0 where
  pub on_marked : Marked (side_mask w.drawn.drawing w.drawn.loop) k on₀ on
  pub up_marked : Marked (up_mask w.drawn.drawing w.drawn.loop) k up₀ up
  pub on_room : length on ≡ length on₀
  pub up_room : length up ≡ length up₀

-- ---- n rows

-- they are candidates of a drawing
pub record DrawnCandidates (rows : List ℕ) (n : ℕ) (number : List ℕ) : Type 0 where
  pub drawing : Wire
  pub small : Small drawing number
  pub upward : Upward drawing
  pub loops : List Loop
  pub of : LoopsOf drawing loops
  pub held : HoldsRows rows loops
  pub count : n ≡ length loops
  pub most : n ≤ most_candidates

-- nothing is marked yet
pub record Unmarked (words : List ℕ) : Type 0 where
  pub room_is : length words ≡ most_edges
  pub none : (e : ℕ) → get_or words e 0 ≡ 0

pub record EdgeMarkRoom (rows : List ℕ) (n : ℕ) (number on up : List ℕ) : Type 0 where
  pub candidates : DrawnCandidates rows n number
  pub on_clear : Unmarked on
  pub up_clear : Unmarked up

-- the words are those of the walk's tables
pub record EdgeWords {rows : List ℕ} {n : ℕ} {number : List ℕ} (w : DrawnCandidates rows n number) (on up : List ℕ) : Type 0 where
  pub on_are : Masks on (tables_of w.drawing w.loops).masks
  pub up_are : Masks up (tables_of w.drawing w.loops).ups
