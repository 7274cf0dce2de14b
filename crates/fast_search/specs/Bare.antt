-- The loop search that never records a path in one line: enough where no edge meets a vertex.
use Rattle.std.specs.Prelude.{Bool, not, length}
use mathlib.Core.List.{List, [], ◌∷◌, ◌++◌}
use Prim.Native.Nat.{ℕ, zero, suc}
use Rattle.sets.specs.Word.{both, less, only, empty}
use Rattle.paper.specs.Drawing.{Wire}
use Rattle.paper.specs.Loops.{final}
use Rattle.fast_search.specs.Rows.{when, each_of}
use Rattle.fast_search.specs.Search.{InItsPlane, near, higher, line_step}

module _ (d : Wire) where
  -- the loops that begin with p, which is in one line, and leave the line
  unfoldable pub bare_line : ℕ → List ℕ → List Bool → List Bool → List InItsPlane
  unfolding when each_of near line_step
  bare_line zero p free closing = []
  bare_line (suc k) p free closing =
      when (not (empty (both closing free)))
      (each_of (λ w rest. line_step d (λ q f. bare_line k q f closing) k p free closing w) 0 (both (near d (final p)) free))

  unfoldable pub bare_seconds : ℕ → List InItsPlane
  unfolding each_of bare_line higher near
  bare_seconds s = each_of (λ w rest. bare_line 10 (s ∷ w ∷ []) (less (higher d s) (only w)) rest) 0 (both (near d s) (higher d s))

  unfoldable pub bare_starts : ℕ → ℕ → List InItsPlane
  unfolding bare_seconds
  bare_starts i zero = []
  bare_starts i (suc k) = bare_seconds i ++ bare_starts (suc i) k

  unfoldable pub bare_search : List InItsPlane
  unfolding bare_starts
  bare_search = bare_starts 0 (length d.vertices)
