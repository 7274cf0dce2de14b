-- The rules on places and edges can't be dropped where a path in one line is never recorded.
use mathlib.Core.List.{[], ◌∷◌}
use mathlib.Core.Path.{◌≡◌, refl}
use lib.IntN.{pos}
use Rattle.sets.specs.Word.{count, both, less, only}
use Rattle.lists.specs.Lists.{any, from, upto, member}
use Rattle.paper.specs.Points.{pt, minus, dot, cross, is_zero, is_origin}
use Rattle.paper.specs.Drawing.{Wire, edge, at, joins, joined}
use Rattle.paper.specs.Loops.{follows, closes, branch, scan, ext, tilt, tilted, across, level, loops}
use Rattle.fast_search.specs.Rows.{when, each_of, some_of}
use Rattle.fast_search.specs.Search.{own, near, higher, on_plane, plane_mask, across_line, in_plane, line_step}
use Rattle.fast_search.specs.Bare.{bare_line, bare_seconds, bare_starts, bare_search}

-- three vertices in one line, each two joined: an edge passes a vertex
abbrev three : Wire
three = record {
  vertices = pt (pos 0) (pos 0) (pos 0) ∷ pt (pos 1) (pos 0) (pos 0) ∷ pt (pos 2) (pos 0) (pos 0) ∷ [];
  edges = edge 0 1 ∷ edge 1 2 ∷ edge 0 2 ∷ [];
}

three-loops : loops three ≡ (0 ∷ 1 ∷ 2 ∷ []) ∷ []
unfolding loops ext scan branch closes follows level across tilted tilt joined joins any member at minus dot cross is_zero is_origin
three-loops = refl

three_bare : bare_search three ≡ []
unfolding bare_search bare_starts bare_seconds bare_line line_step in_plane across_line plane_mask on_plane own near higher when each_of some_of joined joins any from upto at minus dot cross is_zero is_origin count both less only
three_bare = refl
