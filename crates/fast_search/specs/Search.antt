-- The loop search on sets of vertices, as code goes through it: only through the set digits of words, and only as far as some vertex
-- that is free can close the path. With each loop it keeps the vertices in its plane.
use Rattle.std.specs.Prelude.{Bool, true, not, length, get_or, replicate}
use Rattle.std.proofs.Math.Bool.{cond}
use mathlib.Core.List.{List, [], ◌∷◌, ◌++◌, map}
use Prim.Native.Nat.{ℕ, zero, suc}
use Rattle.lists.specs.Lists.{upto}
use Rattle.sets.specs.Word.{dig, both, less, only, empty}
use Rattle.paper.specs.Points.{minus, dot, cross, is_zero, is_origin}
use Rattle.paper.specs.Drawing.{Wire, at, joined}
use Rattle.paper.specs.Loops.{Loop, final, across}
use Rattle.paper.specs.declared.Point.{Point}
use Rattle.fast_search.specs.Rows.{when, each_of, some_of}

-- a loop, and the digits of the vertices in its plane
pub record InItsPlane : Type 0 where
  pub loop : Loop
  pub plane : List Bool

-- the path p, if its last vertex is one that a loop may end at
unfoldable pub own : List Bool → List ℕ → List Bool → List InItsPlane
unfolding when
own closing p plane = when (dig closing (final p)) (record { loop = p; plane = plane } ∷ [])

module _ (d : Wire) where
  -- the vertices joined to u; all vertices; those above s
  unfoldable pub near : ℕ → List Bool
  unfolding joined upto
  near u = map (joined d u) (upto (length d.vertices))

  abbrev pub every : List Bool
  every = replicate (length d.vertices) true

  unfoldable pub higher : ℕ → List Bool
  unfolding less
  higher s = less (replicate (length d.vertices) true) (replicate (suc s) true)

  -- the vertex w is in the plane through s across m; all that are
  unfoldable pub on_plane : Point → Point → ℕ → Bool
  unfolding is_zero dot minus at
  on_plane s m w = is_zero (dot m (minus (at d w) s))

  unfoldable pub plane_mask : Point → Point → List Bool
  unfolding on_plane upto
  plane_mask s m = map (on_plane s m) (upto (length d.vertices))

  -- the direction across the plane of a path in one line and of a vertex
  unfoldable pub across_line : List ℕ → ℕ → Point
  unfolding cross minus at
  across_line p w = cross (minus (at d (get_or p 1 0)) (at d (get_or p 0 0))) (minus (at d w) (at d (get_or p 0 0)))

  -- The loops that begin with p, which is no longer in one line, and have at most k vertices more. `free` are the vertices of the
  -- plane that may still be used, `closing` those that a loop may end at.
  unfoldable pub in_plane : ℕ → List ℕ → List Bool → List Bool → List Bool → List InItsPlane
  unfolding own when each_of near
  in_plane zero p free closing plane = own closing p plane
  in_plane (suc k) p free closing plane =
      own closing p plane
      ++ when (not (empty (both closing free)))
      (each_of (λ w rest. in_plane k (p ++ w ∷ []) (less free (only w)) closing plane) 0 (both (near (final p)) free))

  -- p and then w, where p is in one line: with w it still is, or w fixes the plane; then some vertex of it must be able to close
  unfoldable pub line_step : (List ℕ → List Bool → List InItsPlane) → ℕ → List ℕ → List Bool → List Bool → ℕ → List InItsPlane
  unfolding across_line plane_mask some_of on_plane in_plane
  line_step line k p free closing w =
      let s = at d (get_or p 0 0) in
      let m = across_line p w in
      let rest = less free (only w) in
      cond (is_origin m) (line (p ++ w ∷ []) rest)
      (when (some_of (on_plane s m) 0 (both closing free)) (in_plane k (p ++ w ∷ []) (both rest (plane_mask s m)) closing (plane_mask s m)))

  -- the loops that begin with p, which is in one line
  unfoldable pub on_line : ℕ → List ℕ → List Bool → List Bool → List InItsPlane
  unfolding own when each_of near line_step
  on_line zero p free closing = own closing p every
  on_line (suc k) p free closing =
      own closing p every
      ++ when (not (empty (both closing free)))
      (each_of (λ w rest. line_step (λ q f. on_line k q f closing) k p free closing w) 0 (both (near (final p)) free))

  -- The loops that start at s: "then go to the lower of its two neighbours", so that a loop may end at those of its neighbours that
  -- are left. Those that start at i, i + 1, ..: k vertices in turn.
  unfoldable pub seconds : ℕ → List InItsPlane
  unfolding each_of on_line higher near
  seconds s = each_of (λ w rest. on_line 10 (s ∷ w ∷ []) (less (higher s) (only w)) rest) 0 (both (near s) (higher s))

  unfoldable pub starts : ℕ → ℕ → List InItsPlane
  unfolding seconds
  starts i zero = []
  starts i (suc k) = seconds i ++ starts (suc i) k

  unfoldable pub fast_search : List InItsPlane
  unfolding starts
  fast_search = starts 0 (length d.vertices)

  -- ---- what it finds: a loop with the vertices in its plane, through its first vertex and across its direction
  unfoldable pub plane_of : Loop → List Bool
  unfolding plane_mask across at
  plane_of l = plane_mask (at d (get_or l 0 0)) (across d l)

  abbrev pub in_its_plane : Loop → InItsPlane
  in_its_plane l = record { loop = l; plane = plane_of l }
