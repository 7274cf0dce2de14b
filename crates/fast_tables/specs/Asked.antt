-- Cover with each edge asked at most once: two sets of edges are kept.
use Rattle.std.specs.Prelude.{Bool, true, false, not, ◌&&◌, cond, List, [], ◌∷◌, map, ℕ, eqb, length}
use Rattle.lists.specs.Lists.{filter, upto}
use Rattle.sets.specs.Word.{dig, count, both, either, less, only}
use Rattle.paper.specs.Points.{is_zero}
use Rattle.paper.specs.Polygon.{plane_side}
use Rattle.paper.specs.Drawing.{Wire, at, edge_at}
use Rattle.paper.specs.Loops.{Loop, polygon, loop_at}
use Rattle.fast_tables.specs.Hits.{corner_mask, side_mask}
use Rattle.fast_tables.specs.Covers.{middle_outside}

-- edges that are known to be held, and edges that are known to be outside
pub record KnownEdges : Type 0 where
  pub held : List Bool
  pub outside : List Bool

abbrev pub holding : KnownEdges → ℕ → KnownEdges
holding f e = record { held = either f.held (only e); outside = f.outside }

abbrev pub missing : KnownEdges → ℕ → KnownEdges
missing f e = record { held = f.held; outside = either f.outside (only e) }

-- edges in turn, up to the first that is outside
unfoldable pub asked_in_turn : (ℕ → Bool) → List ℕ → KnownEdges → KnownEdges
asked_in_turn out [] f = f
asked_in_turn out (e ∷ es) f = let r = asked_in_turn out es (holding f e) in cond (out e) (missing f e) r

-- those of a mask that are not known to be held
unfoldable pub unheld : ℕ → List Bool → KnownEdges → List ℕ
unheld m mask f = filter (dig (less mask f.held)) (upto m)

-- no edge of a mask is known to be outside
abbrev pub free : List Bool → KnownEdges → Bool
free mask f = eqb (count (both mask f.outside)) 0

module _ (m : ℕ) (out : ℕ → Bool) (fits : ℕ → Bool) (masks : ℕ → List Bool) where
  -- one of a list fits and has no edge outside
  unfoldable pub searched : List ℕ → KnownEdges → Bool
  searched [] f = false
  searched (j ∷ js) f =
      let g = asked_in_turn out (unheld m (masks j) f) f in
      let later = searched js g in
      let skipped = searched js f in
      let met = cond (free (masks j) g) true later in
      cond (fits j && free (masks j) f) met skipped

-- the vertices in l's plane, as a mask; k's corners are among them
unfoldable pub loop_plane : Wire → Loop → List Bool
loop_plane d l = map (λ v. is_zero (plane_side (polygon d l) (at d v))) (upto (length d.vertices))

unfoldable pub level_with : Wire → Loop → Loop → Bool
level_with d l k = eqb (count (less (corner_mask d k) (loop_plane d l))) 0

-- loop i covers another
unfoldable pub covers_by_answers : Wire → List Loop → ℕ → Bool
covers_by_answers d ls i =
    searched (length d.edges) (λ e. middle_outside d (loop_at ls i) (edge_at d e))
    (λ j. not (eqb i j) && level_with d (loop_at ls i) (loop_at ls j)) (λ j. side_mask d (loop_at ls j))
    (upto (length ls)) (record { held = side_mask d (loop_at ls i); outside = [] })
