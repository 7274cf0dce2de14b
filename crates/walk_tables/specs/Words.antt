-- Masks in lists of sets and six volumes in a list of numbers, for up to 64 candidates and edges; and those that the walk is lent, in one
-- record.
use Rattle.std.specs.Prelude.{Bool, List, [], ◌≡◌, ℕ, ◌*◌, ◌≤◌, ◌<◌, ℤ, pos, length, get_or}
use Rattle.exact.specs.Size.{Within}
use Rattle.sets.specs.Sets.{wides}
use Rattle.paper.specs.Numbers.{most_candidates, farthest}
use Rattle.paper.specs.Solids.{Tables}
use Rattle.polygon.specs.Sizes.{most_normal}
use Rattle.fast_sweeps.specs.Worklist.{edges_with}

-- set i has the digits of mask i; there are no more of them than a set has room for
pub record Masks (words : List ℕ) (masks : List (List Bool)) : Type 0 where
  pub few : length masks ≤ wides.room
  pub at : (i : ℕ) → i < length masks → wides.Is (wides.at words i) (get_or masks i [])

-- set k has the edges of candidate k: of each of the masks, whether k is in it
pub record Sides (words : List ℕ) (masks : List (List Bool)) : Type 0 where
  pub few : length masks ≤ wides.room
  pub at : (k : ℕ) → k < most_candidates → wides.Is (wides.at words k) (edges_with masks k)

-- 72,000,000,000: a candidate's part of six volumes, a corner times its normal
abbrev pub most_part : ℕ
most_part = 3 * (farthest * most_normal)

pub record Sixes (numbers zs : List ℤ) : Type 0 where
  pub few : length zs ≤ most_candidates
  pub at : (k : ℕ) → k < length zs → get_or numbers k (pos 0) ≡ get_or zs k (pos 0)
  pub small : (k : ℕ) → Within most_part (get_or zs k (pos 0))

-- each number is small enough that 64 of them can be added
pub record SmallSixes (sixes : List ℤ) : Type 0 where
  pub small : (k : ℕ) → k < most_candidates → Within most_part (get_or sixes k (pos 0))

-- ---- the walk's tables as the code holds them

-- of each edge the candidates on it and those that run it upwards; of each candidate its edges, those that it clashes with, and its part
-- of six volumes
pub record WalkTables : Type 0 where
  pub on : List ℕ
  pub up : List ℕ
  pub sides : List ℕ
  pub clashes : List ℕ
  pub sixes : List ℤ

abbrev pub walk_tables : List ℕ → List ℕ → List ℕ → List ℕ → List ℤ → WalkTables
walk_tables on up sides clashes sixes = record { on = on; up = up; sides = sides; clashes = clashes; sixes = sixes }

-- they are the document's
pub record HeldTables (tables : WalkTables) (t : Tables) : Type 0 where
  pub on_are : Masks tables.on t.masks
  pub up_are : Masks tables.up t.ups
  pub sides_are : Sides tables.sides t.masks
  pub clashes_are : Masks tables.clashes t.clashes
  pub sixes_are : Sixes tables.sixes t.sixes

-- and of n candidates on m edges: these letters count them in all of the walk
pub record Lent (tables : WalkTables) (m n : ℕ) (t : Tables) : Type 0 where
  pub held : HeldTables tables t
  pub masks_are : length t.masks ≡ m
  pub ups_are : length t.ups ≡ m
  pub clashes_are : length t.clashes ≡ n
  pub sixes_are : length t.sixes ≡ n
