-- One bit that is set in the words of all numbers of a set.
use Rattle.std.specs.Prelude.{Bool, true, ◌&&◌, ◌||◌, ◌≡◌, List, map, ℕ, ◌≤◌, ◌<◌, eqb, length, get_or}
use Rattle.lists.specs.Lists.{member}
use Rattle.sets.specs.Word.{dig, digit}
use Rattle.sets.specs.Sets.{Is, mask_at, wides, Wide}
use Rattle.sets.specs.declared.Set.{Set}
use Rattle.paper.specs.Numbers.{most_vertices, most_candidates}
use Rattle.paper.specs.Drawing.{Wire}
use Rattle.paper.specs.Loops.{Loop, loop_at}
use Rattle.fast_tables.specs.Hits.{corner_mask}
use Rattle.walk_edges.specs.Marks.{Marked}

-- a set of numbers that have a word, and a number
pub record MarkRoom (words : List ℕ) (set : Set) (k : ℕ) : Type 0 where
  pub mask : List Bool
  pub mask_is : Is set mask
  pub low : (j : ℕ) → dig mask j ≡ true → j < length words
  pub few : k < most_candidates

-- the number is in their words, and all else is as before
pub record MarkedBy (set : Set) (k : ℕ) (words₀ words : List ℕ) : Type 0 where
  pub marked : (mask : List Bool) → Is set mask → Marked mask k words₀ words
  pub long : length words ≡ length words₀

-- ---- both ways

pub record BothRoom (words : List ℕ) (set : Wide) (k : ℕ) : Type 0 where
  pub mask : List Bool
  pub mask_is : wides.Is set mask
  pub whole : length words ≡ most_candidates
  pub few : k < most_candidates

pub record BothBy (set : Wide) (k : ℕ) (words₀ words : List ℕ) : Type 0 where
  pub marked : (mask : List Bool) → wides.Is set mask → (e u : ℕ)
      → digit (get_or words e 0) u ≡ ((digit (get_or words₀ e 0) u || (eqb e k && dig mask u)) || (dig mask e && eqb u k))
  pub long : length words ≡ length words₀

-- ---- the corners of n candidates, in words

pub record CornersOf (corners : List ℕ) (n : ℕ) : Type 0 where
  pub drawing : Wire
  pub small : length drawing.vertices ≤ most_vertices
  pub loops : List Loop
  pub count : n ≡ length loops
  pub most : n ≤ most_candidates
  pub each : (k : ℕ) → k < n → Is (mask_at corners k) (corner_mask drawing (loop_at loops k))

-- and a word for each vertex, with nothing in it
pub record CornerRoom (corners : List ℕ) (n : ℕ) (words : List ℕ) : Type 0 where
  pub of : CornersOf corners n
  pub whole : length words ≡ most_vertices
  pub none : (v : ℕ) → get_or words v 0 ≡ 0

-- the word of a vertex has the candidates with it
abbrev pub VertexWords : {corners : List ℕ} {n : ℕ} → CornersOf corners n → List ℕ → Type 0
VertexWords w words = (v : ℕ) → v < length w.drawing.vertices → wides.Is (wides.at words v) (map (member v) w.loops)
