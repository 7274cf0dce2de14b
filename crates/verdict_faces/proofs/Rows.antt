-- A row of a table as the loop that it holds, read as the code reads it.
use mathlib.Core.Path.{◌≡◌, sym, ap, ◌∙◌}
use mathlib.Core.List.{List, []}
use Prim.Native.Nat.{ℕ, ◌+◌, ◌*◌, ◌≤◌, ◌<◌}
use native.Mathlib.Decide.{dec_lt}
use native.Mathlib.Omega.{arith}
use lib.ListN.{length, get_or, take, drop, length-drop}
use lib.Seq.{get_or-take, get_or-drop, length-take-le}
use borrow.Author.Tests.{le-leb, lt-leb}
use Rattle.paper.specs.Numbers.{most_corners, row_bytes}
use Rattle.paper.specs.FaceList.{row_at}
use Rattle.polygon.specs.Rings.{corner_count}

module _ (table : List ℕ) (r : ℕ) (room : row_bytes * r + row_bytes ≤ length table) where
  module _ (most : corner_count table r ≤ most_corners) where
    row_is : row_at table r ≡ take (corner_count table r) (drop (row_bytes * r + 1) table)
    unfolding row_at
    row_is = rw (le-leb (row_bytes * r + row_bytes) (length table) room, le-leb (corner_count table r) most_corners most)

    pub row_long : length (row_at table r) ≡ corner_count table r
    row_long =
        ap length row_is
        ∙ length-take-le (corner_count table r) (drop (row_bytes * r + 1) table) (omega (arith, length-drop (row_bytes * r + 1) table))

    pub corner-at : (i : ℕ) → i < corner_count table r → get_or table (row_bytes * r + 1 + i) 0 ≡ get_or (row_at table r) i 0
    corner-at i h =
        sym (ap (λ (l : List ℕ). get_or l i 0) row_is ∙ get_or-take (corner_count table r) (drop (row_bytes * r + 1) table) i 0 h
        ∙ get_or-drop (row_bytes * r + 1) table i 0)

  -- too many corners: no loop at all
  row-none : most_corners < corner_count table r → row_at table r ≡ []
  unfolding row_at
  row-none h = rw (le-leb (row_bytes * r + row_bytes) (length table) room, lt-leb (corner_count table r) most_corners h)

  -- a row that says another count than c has another
  pub other-count : (c : ℕ) → 0 < c → (corner_count table r ≡ c → ⊥) → length (row_at table r) ≡ c → ⊥
  other-count c p n e = go (dec_lt most_corners (corner_count table r))
    where
      go : Dec (most_corners < corner_count table r) → ⊥
      go (yes h) = omega (arith, ap length (row-none h))
      go (no h) = n (sym (row_long (omega arith)) ∙ e)
